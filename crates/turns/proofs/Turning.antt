-- What `act` answers, with the headers changed as it says, is the turn of the line, where the items under way are lent
-- and a delivery is handed the oldest item of its link.
use mathlib.Core.Path.{◌≡◌, refl, sym, ◌∙◌}
use mathlib.Core.Bool.{Bool, true, false}
use mathlib.Core.List.{List, [], ◌∷◌}
use Prim.Native.Nat.{ℕ, zero, suc, ◌+◌, ◌-◌, ◌≤◌, ◌<◌}
use native.Mathlib.Decide.{ℕ_discrete}
use native.Mathlib.Omega.{arith}
use lib.Dec.{ltb, eqb}
use lib.ListN.{length, get_or, set, length-set}
use lib.Seq.{set_out}
use borrow.Author.Tests.{lt-ltb, le-leb, eq-eqb, ne_eqb}
use Rattle.base.specs.Choice.{choose}
use Rattle.base.specs.Limits.{base}
use Rattle.base.specs.declared.Kind.{Kind}
use Rattle.base.proofs.Laws.{choose_yes, choose_no, cases}
use Rattle.tree.specs.Lookups.{bad_board}
use Rattle.state_calls.specs.On.{Kept, on_state, step_on}
use Rattle.states.specs.declared.State.{State}
use Rattle.node.specs.Answers.{Outcome, done, dropped, refused, outcome_number}
use Rattle.node.specs.Answers.{Barrier, sent, waits, moved, left, barred}
use Rattle.node.specs.Calls.{send}
use Rattle.line_forms.specs.declared.Line.TheVariants.{Sends, Delivers, Idles, Calls}
use Rattle.items.specs.Places.{no_item, on_link, place_from, oldest_at}
use Rattle.item_changes.specs.Places.{moved as movedDown, removed}
use Rattle.items.specs.declared.Item.{Item}
use Rattle.under_way.specs.Frames.{place_size, room_for, closed}
use Rattle.board_states.specs.States.{node_at, state_at}
use Rattle.stage.specs.Board.{is_there, quiet, put_one}
use Rattle.board_states.specs.declared.Stage.{Stage}
use Rattle.stage.specs.declared.Acted.{Acted}
use Rattle.stage.proofs.There.{there_not}
use Rattle.turn_frames.specs.Framing.{put_two}
use Rattle.turn_call.specs.Calling.{frame_acted, call_acted, call_act, frame_acted_bytes, call_acted_bytes}
use Rattle.turn_call.specs.Calling.{call_act_bytes}
use Rattle.turn_call.specs.Pieces.{due}
use Rattle.turns.specs.Events.{Turn, unchanged, sent_by, framed_to, called_by, delivered_at, called}
use Rattle.turns.specs.Events.{send_turn, idle_turn, call_turn, deliver_turn}
use Rattle.turn_send.specs.Sending.{send_acted}
use Rattle.turn_send.specs.Idling.{idle_act}
use Rattle.turn_deliver.specs.Delivering.{take_off, deliver_acted, deliver_act, deliver_act_bytes}
use Rattle.turns.specs.Acts.{acted, acted_bytes, acted_items}

-- ---- the headers

pub length_moved : (items : List Item) (i n : ℕ) → length (movedDown items i n) ≡ length items
unfolding movedDown
length_moved items i zero = refl
length_moved items i (suc n) =
    length_moved (set items i (get_or items (i + 1) no_item)) (i + 1) n ∙ length-set items i (get_or items (i + 1) no_item)

none_removed : (items : List Item) (n : ℕ) → removed items n n ≡ items
unfolding movedDown
none_removed items n = let e : n - (n + 1) ≡ 0 = omega arith in rw e

-- the oldest of n items stands at one of their places, or there is none
from_most : (items : List Item) (a b i n : ℕ) → place_from items a b i n ≤ i + n
unfolding place_from
from_most items a b i zero = omega arith
from_most items a b i (suc n) =
    let r = from_most items a b (i + 1) n in
    cases (λ x. x ≤ i + suc n) (on_link (get_or items i no_item) a b) i (place_from items a b (i + 1) n) (λ t. omega arith)
    (λ t. omega arith)

pub oldest_most : (items : List Item) (n a b : ℕ) → oldest_at items n a b ≤ n
oldest_most items n a b = omega (arith, from_most items a b 0 n)

-- ---- what is seen of an answer

-- the board, the headers and the bytes after it
abbrev pub seen : ℕ → List Item → Acted → List ℕ → Turn
seen under items r bytes =
    record {
      stage = r.stage;
      items = acted_items under r items;
      bytes = bytes;
      actor = r.actor;
      answer = r.answer;
    }

-- with the headers known
as_turn : (under : ℕ) (items after : List Item) (r : Acted) (bytes : List ℕ) → acted_items under r items ≡ after
    → seen under items r bytes
    ≡ record { stage = r.stage; items = after; bytes = bytes; actor = r.actor; answer = r.answer }
as_turn under items after r bytes e =
    λ i. record { stage = r.stage; items = e i; bytes = bytes; actor = r.actor; answer = r.answer }

module _ (st : Stage) (items : List Item) (bytes : List ℕ) where
  abbrev sees : Acted → List ℕ → Turn
  sees r after = seen st.under items r after

  seen_quiet : (after : Stage) (actor answer : ℕ) (now : List ℕ)
      → sees (quiet st (length items) after actor answer) now ≡ unchanged after items now actor answer
  unfolding acted_items
  seen_quiet after actor answer now =
      as_turn st.under items items (quiet st (length items) after actor answer) now
      (rw (none_removed items st.under)
      (rw (set_out items (length items) no_item (omega arith)) (set_out items (length items) no_item (omega arith))))

  seen_one : (after : Stage) (actor answer : ℕ) (it : Item) (now : List ℕ)
      → sees (put_one st (length items) after actor answer it) now
      ≡ record { stage = after; items = set items st.under it; bytes = now; actor = actor; answer = answer }
  unfolding acted_items
  seen_one after actor answer it now =
      as_turn st.under items (set items st.under it) (put_one st (length items) after actor answer it) now
      (rw (none_removed items st.under)
      (set_out (set items st.under it) (length items) no_item (simp length-set (omega arith))))

  seen_two : (after : Stage) (actor answer : ℕ) (it other : Item) (now : List ℕ)
      → sees (put_two st (length items) bytes after actor answer it other) now
      ≡ record {
        stage = after;
        items = set (set items st.under it) (st.under + 1) other;
        bytes = now;
        actor = actor;
        answer = answer;
      }
  unfolding acted_items
  seen_two after actor answer it other now =
      as_turn st.under items (set (set items st.under it) (st.under + 1) other)
      (put_two st (length items) bytes after actor answer it other) now (rw (none_removed items st.under))

  seen_off : (after : Stage) (actor answer at : ℕ) (now : List ℕ)
      → sees (take_off st (length items) bytes after actor answer at) now
      ≡ record {
        stage = after;
        items = removed items st.under at;
        bytes = now;
        actor = actor;
        answer = answer;
      }
  unfolding acted_items
  seen_off after actor answer at now =
      let l = length_moved items at (st.under - (at + 1)) in
      let e = set_out (removed items st.under at) (length items) no_item (omega arith) in
      as_turn st.under items (removed items st.under at)
      (take_off st (length items) bytes after actor answer at) now (rw e e)

  -- by the test whether there is room, with the same bytes or with those of each case
  by_test : (t : Bool) (x y : Acted) {now : List ℕ} {u v : Turn} → sees x now ≡ u → sees y now ≡ v
      → sees (choose t x y) now ≡ choose t u v
  by_test true x y p q = p
  by_test false x y p q = q

  by_both : (t : Bool) (x y : Acted) {b c : List ℕ} {u v : Turn} → sees x b ≡ u → sees y c ≡ v
      → sees (choose t x y) (choose t b c) ≡ choose t u v
  by_both true x y p q = p
  by_both false x y p q = q

  -- a test that is known
  by_yes : (t : Bool) (x y : Acted) (b c : List ℕ) → t ≡ true → sees (choose t x y) (choose t b c) ≡ sees x b
  by_yes t x y b c e = λ i. sees (choose_yes x y e i) (choose_yes b c e i)

  by_no : (t : Bool) (x y : Acted) (b c : List ℕ) → t ≡ false → sees (choose t x y) (choose t b c) ≡ sees y c
  by_no t x y b c e = λ i. sees (choose_no x y e i) (choose_no b c e i)

  -- ---- s, t and i

  sent_same : (kind : Kind) (a b : ℕ) (r : Kept Outcome) (o : Outcome)
      → sees (send_acted st (length items) bytes kind a b r o) bytes ≡ sent_by st items bytes kind a b r o
  sent_same kind a b r done =
      by_test (ltb st.under (room_for (length items) bytes)) _ _ (seen_one _ a 0 _ bytes) (seen_quiet st a 15 bytes)
  sent_same kind a b r dropped = seen_quiet st a 24 bytes
  sent_same kind a b r (refused x) = seen_quiet st a x bytes

  -- ---- b

  framed_same : (a : ℕ) (after : State) (frame to : List ℕ)
      → sees (frame_acted st (length items) bytes a after to) (frame_acted_bytes st (length items) bytes frame to)
      ≡ framed_to st items bytes a after frame to
  framed_same a after frame [] = seen_quiet st a 20 bytes
  framed_same a after frame (b ∷ []) =
      by_both (ltb st.under (room_for (length items) bytes)) _ _ (seen_one _ a 20 _ _) (seen_quiet st a 15 bytes)
  framed_same a after frame (b ∷ c ∷ l) =
      by_both (ltb (st.under + 1) (room_for (length items) bytes)) _ _ (seen_two _ a 20 _ _ _)
      (seen_quiet st a 15 bytes)

  called_same : (a : ℕ) (r : Kept Barrier) (o : Barrier)
      → sees (call_acted st (length items) bytes a r o) (call_acted_bytes st (length items) bytes a o)
      ≡ called_by st items bytes a r o
  called_same a r (sent to length) = framed_same a r.state (due (node_at st a)) to
  called_same a r (waits clause) = seen_quiet _ a 21 bytes
  called_same a r moved = seen_quiet _ a 22 bytes
  called_same a r left = seen_quiet _ a 23 bytes
  called_same a r (barred x) = seen_quiet st a x bytes

  -- ---- d

  delivered_same : (b at : ℕ) (r : Kept Outcome) (answer : ℕ)
      → sees (deliver_acted st (length items) bytes b at r answer)
      (choose (eqb answer 7) bytes (closed bytes st.under at))
      ≡ delivered_at st items bytes b at r answer
  delivered_same b at r answer =
      by_both (eqb answer 7) _ _ (seen_quiet st b 7 bytes) (seen_off _ b answer at (closed bytes st.under at))

  -- ---- the turns

  pub send_turns : (kind : Kind) (a b at : ℕ) (it : Item)
      → sees (acted st (length items) bytes (Sends kind a b) at it)
      (acted_bytes st (length items) bytes (Sends kind a b) at it)
      ≡ send_turn st items bytes kind a b
  unfolding acted acted_bytes send_turn
  send_turns kind a b at it = let r = on_state (λ n. send base n b) (state_at st a) in sent_same kind a b r r.answer

  pub idle_turns : (a at : ℕ) (it : Item)
      → sees (acted st (length items) bytes (Idles a) at it) (acted_bytes st (length items) bytes (Idles a) at it)
      ≡ idle_turn st items bytes a
  unfolding acted acted_bytes idle_act idle_turn
  idle_turns a at it = seen_quiet _ a _ bytes

  pub call_turns : (a at : ℕ) (it : Item)
      → sees (acted st (length items) bytes (Calls a) at it) (acted_bytes st (length items) bytes (Calls a) at it)
      ≡ call_turn st items bytes a
  unfolding acted acted_bytes call_act call_act_bytes call_turn
  call_turns a at it = let r = step_on (state_at st a) place_size in called_same a r r.answer

  -- the items under way are lent, and the board is one
  module _ (lent : st.under ≤ room_for (length items) bytes) (board : bad_board base st.size ≡ false) where
    there_is : (at : ℕ) → at < st.under → is_there st (length items) bytes at ≡ true
    there_is at h = rw (lt-ltb at st.under h, le-leb _ _ lent, board)

    pub deliver_turns : (a b : ℕ)
        → let at = oldest_at items st.under a b in
        let it = get_or items at no_item in
        sees (acted st (length items) bytes (Delivers a b) at it)
        (acted_bytes st (length items) bytes (Delivers a b) at it)
        ≡ deliver_turn st items bytes a b
    unfolding acted acted_bytes deliver_act deliver_act_bytes deliver_turn
    deliver_turns a b = go (ℕ_discrete (oldest_at items st.under a b) st.under)
      where
        go : let at = oldest_at items st.under a b in
            let it = get_or items at no_item in
            Dec (at ≡ st.under)
            → sees (acted st (length items) bytes (Delivers a b) at it)
            (acted_bytes st (length items) bytes (Delivers a b) at it)
            ≡ deliver_turn st items bytes a b
        go (yes e) =
            let none = there_not st (length items) bytes (oldest_at items st.under a b) (omega arith) in
            by_no _ _ _ _ _ none ∙ seen_quiet st b 16 bytes ∙ sym (choose_yes _ _ (eq-eqb _ _ e))
        go (no e) =
            let at = oldest_at items st.under a b in
            let most = oldest_most items st.under a b in
            let r = called st items bytes a b at in
            by_yes _ _ _ _ _ (there_is at (omega arith))
            ∙ delivered_same b at r (outcome_number r.answer)
            ∙ sym (choose_no _ _ (ne_eqb _ _ e))
