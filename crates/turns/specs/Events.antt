-- What a line of the script does to the board and to what is lent.
use Rattle.std.specs.Prelude.{List, [], ◌∷◌, ℕ, ◌+◌, ◌-◌, ltb, eqb, length, get_or, set}
use Rattle.base.specs.Choice.{choose}
use Rattle.base.specs.Limits.{base}
use Rattle.base.specs.Refusal.{number}
use Rattle.base.specs.declared.Refusal.{Refusal}
use Rattle.base.specs.declared.Kind.TheVariants.{Job, Note}
use Rattle.base.specs.declared.Kind.{Kind}
use Rattle.frame.specs.Frame.{frame_bytes}
use Rattle.node.specs.Sums.{dims}
use Rattle.node.specs.Answers.{Outcome, done, dropped, refused, outcome_number}
use Rattle.node.specs.Answers.{Barrier, sent, waits, moved, left, barred}
use Rattle.node.specs.Calls.{send, take as takeCall, idle, frame_in}
use Rattle.node.specs.Barrier.{frame_due}
use Rattle.state_calls.specs.On.{Kept, on_state, step_on}
use Rattle.states.specs.declared.State.{State}
use Rattle.items.specs.Places.{mark, no_item, oldest_at}
use Rattle.item_changes.specs.Places.{removed}
use Rattle.items.specs.declared.Item.{Item}
use Rattle.under_way.specs.Frames.{place_size, room_for, closed, framed, frame_held}
use Rattle.line_forms.specs.declared.Line.{Line}
use Rattle.line_forms.specs.declared.Line.TheVariants.{Nodes, Sends, Delivers, Idles, Calls, Bad}
use Rattle.board_states.specs.States.{state_at, node_at, changed}
use Rattle.stage.specs.Board.{work_item, frame_item}
use Rattle.board_states.specs.declared.Stage.{Stage}

-- the board and the lent memory after an event, the acting node, and the answer's number
pub record Turn : Type 0 where
  pub stage : Stage
  pub items : List Item
  pub bytes : List ℕ
  pub actor : ℕ
  pub answer : ℕ

-- nothing has changed
abbrev pub unchanged : Stage → List Item → List ℕ → ℕ → ℕ → Turn
unchanged st items bytes actor answer =
    record { stage = st; items = items; bytes = bytes; actor = actor; answer = answer }

-- too few places are left (rule S7)
abbrev pub crowded : Stage → List Item → List ℕ → ℕ → Turn
crowded st items bytes actor = unchanged st items bytes actor (number Refusal.Crowded)

module _ (st : Stage) (items : List Item) (bytes : List ℕ) where
  -- ---- s a b and t a b: a sends a job or a note to b

  abbrev pub sent_by : Kind → ℕ → ℕ → Kept Outcome → Outcome → Turn
  sent_by kind a b r done =
      choose (ltb st.under (room_for (length items) bytes))
      (record {
        stage = changed st a r.state (st.under + 1);
        items = set items st.under (work_item kind a b (node_at st a));
        bytes = bytes;
        actor = a;
        answer = 0;
      })
      (crowded st items bytes a)
  sent_by kind a b r dropped = unchanged st items bytes a 24
  sent_by kind a b r (refused x) = unchanged st items bytes a x

  unfoldable pub send_turn : Kind → ℕ → ℕ → Turn
  send_turn kind a b = let r = on_state (λ n. send base n b) (state_at st a) in sent_by kind a b r r.answer

  -- ---- i a: idle call

  unfoldable pub idle_turn : ℕ → Turn
  idle_turn a =
      let r = on_state (idle base) (state_at st a) in
      record {
        stage = changed st a r.state st.under;
        items = items;
        bytes = bytes;
        actor = a;
        answer = outcome_number r.answer;
      }

  -- ---- b a: barrier call, with the bytes of a place

  -- the frame goes to one receiver, or to two
  abbrev pub framed_to : ℕ → State → List ℕ → List ℕ → Turn
  framed_to a after frame [] = unchanged st items bytes a 20
  framed_to a after frame (b ∷ []) =
      choose (ltb st.under (room_for (length items) bytes))
      (record {
        stage = changed st a after (st.under + 1);
        items = set items st.under (frame_item a b (node_at st a));
        bytes = framed bytes st.under frame;
        actor = a;
        answer = 20;
      })
      (crowded st items bytes a)
  framed_to a after frame (b ∷ c ∷ l) =
      choose (ltb (st.under + 1) (room_for (length items) bytes))
      (record {
        stage = changed st a after (st.under + 2);
        items = set (set items st.under (frame_item a b (node_at st a))) (st.under + 1) (frame_item a c (node_at st a));
        bytes = framed (framed bytes st.under frame) (st.under + 1) frame;
        actor = a;
        answer = 20;
      })
      (crowded st items bytes a)

  abbrev pub called_by : ℕ → Kept Barrier → Barrier → Turn
  called_by a r (sent to length) =
      framed_to a r.state (frame_bytes (dims (node_at st a)) (frame_due (node_at st a))) to
  called_by a r (waits clause) = unchanged (changed st a r.state st.under) items bytes a 21
  called_by a r moved = unchanged (changed st a r.state st.under) items bytes a 22
  called_by a r left = unchanged (changed st a r.state st.under) items bytes a 23
  called_by a r (barred x) = unchanged st items bytes a x

  unfoldable pub call_turn : ℕ → Turn
  call_turn a = let r = step_on (state_at st a) place_size in called_by a r r.answer

  -- ---- d a b: the oldest item from a reaches b (rule S8)

  -- the call at b for the item at a place
  abbrev pub called : ℕ → ℕ → ℕ → Kept Outcome
  called a b at =
      let it = get_or items at no_item in
      choose (eqb it.kind (mark Job)) (on_state (λ n. takeCall base n Job a it.phase) (state_at st b))
      (choose (eqb it.kind (mark Note)) (on_state (λ n. takeCall base n Note a it.phase) (state_at st b))
      (on_state (λ n. frame_in base n (frame_held st.size bytes at)) (state_at st b)))

  -- an early item stays; any other leaves the list
  abbrev pub delivered_at : ℕ → ℕ → Kept Outcome → ℕ → Turn
  delivered_at b at r answer =
      choose (eqb answer 7) (unchanged st items bytes b 7)
      (record {
        stage = changed st b r.state (st.under - 1);
        items = removed items st.under at;
        bytes = closed bytes st.under at;
        actor = b;
        answer = answer;
      })

  -- nothing on the link is 16
  unfoldable pub deliver_turn : ℕ → ℕ → Turn
  deliver_turn a b =
      let at = oldest_at items st.under a b in
      let r = called a b at in
      choose (eqb at st.under) (unchanged st items bytes b (number Refusal.Nothing))
      (delivered_at b at r (outcome_number r.answer))

  -- ---- The event of a line; a line that is none changes nothing, and is answered 17

  abbrev pub turn_of : Line → Turn
  turn_of (Nodes P) = unchanged st items bytes 0 (number Refusal.Script)
  turn_of (Sends kind a b) = send_turn kind a b
  turn_of (Delivers a b) = deliver_turn a b
  turn_of (Idles a) = idle_turn a
  turn_of (Calls a) = call_turn a
  turn_of Bad = unchanged st items bytes 0 (number Refusal.Script)
