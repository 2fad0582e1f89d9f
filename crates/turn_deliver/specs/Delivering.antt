-- What a line of a delivery does to a board and to the lent bytes: the headers are not handed, only how many are lent,
-- the place of the oldest item of the link and that item.
use Rattle.std.specs.Prelude.{List, ℕ, ◌-◌, eqb}
use Rattle.base.specs.Choice.{choose}
use Rattle.base.specs.Limits.{base}
use Rattle.base.specs.declared.Kind.TheVariants.{Job, Note}
use Rattle.node.specs.Answers.{Outcome, outcome_number}
use Rattle.node.specs.Calls.{take as takeCall, frame_in}
use Rattle.state_calls.specs.On.{Kept, on_state}
use Rattle.items.specs.Places.{mark, no_item}
use Rattle.items.specs.declared.Item.{Item}
use Rattle.under_way.specs.Frames.{closed, frame_held}
use Rattle.board_states.specs.States.{state_at, changed}
use Rattle.stage.specs.Board.{is_there, quiet}
use Rattle.board_states.specs.declared.Stage.{Stage}
use Rattle.stage.specs.declared.Acted.{Acted}

module _ (st : Stage) (headers : ℕ) (bytes : List ℕ) where
  -- the header at a place goes
  abbrev pub take_off : Stage → ℕ → ℕ → ℕ → Acted
  take_off after actor answer at =
      record {
        stage = after;
        actor = actor;
        answer = answer;
        gone = at;
        at = headers;
        first = no_item;
        next = headers;
        second = no_item;
      }

  -- the call at b for an item at a place
  abbrev pub item_call : ℕ → ℕ → ℕ → Item → Kept Outcome
  item_call a b at it =
      choose (eqb it.kind (mark Job)) (on_state (λ n. takeCall base n Job a it.phase) (state_at st b))
      (choose (eqb it.kind (mark Note)) (on_state (λ n. takeCall base n Note a it.phase) (state_at st b))
      (on_state (λ n. frame_in base n (frame_held st.size bytes at)) (state_at st b)))

  abbrev pub deliver_acted : ℕ → ℕ → Kept Outcome → ℕ → Acted
  deliver_acted b at r answer =
      choose (eqb answer 7) (quiet st headers st b 7) (take_off (changed st b r.state (st.under - 1)) b answer at)

  unfoldable pub deliver_act : ℕ → ℕ → ℕ → Item → Acted
  deliver_act a b at it =
      let r = item_call a b at it in
      choose (is_there st headers bytes at) (deliver_acted b at r (outcome_number r.answer)) (quiet st headers st b 16)

  -- ---- The lent bytes after it

  unfoldable pub deliver_act_bytes : ℕ → ℕ → ℕ → Item → List ℕ
  deliver_act_bytes a b at it =
      let r = item_call a b at it in
      choose (is_there st headers bytes at)
      (choose (eqb (outcome_number r.answer) 7) bytes (closed bytes st.under at)) bytes
