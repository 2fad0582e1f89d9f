-- What a line keeps: the board's size, no more items under way than there is room for, and how many headers are lent.
use mathlib.Core.Path.{◌≡◌, refl, ◌∙◌}
use mathlib.Core.Bool.{true}
use mathlib.Core.List.{List, [], ◌∷◌}
use Prim.Native.Nat.{ℕ, ◌+◌, ◌-◌, ◌≤◌}
use native.Mathlib.Omega.{arith}
use lib.Dec.{ltb, eqb}
use lib.ListN.{length, set, length-set}
use borrow.Author.Tests.{ltb-true}
use Rattle.base.specs.Limits.{base}
use Rattle.base.specs.declared.Kind.{Kind}
use Rattle.base.proofs.Laws.{cases}
use Rattle.state_calls.specs.On.{Kept, on_state, step_on}
use Rattle.states.specs.declared.State.{State}
use Rattle.node.specs.Answers.{Outcome, done, dropped, refused, outcome_number}
use Rattle.node.specs.Answers.{Barrier, sent, waits, moved, left, barred}
use Rattle.node.specs.Calls.{send}
use Rattle.line_forms.specs.declared.Line.{Line}
use Rattle.line_forms.specs.declared.Line.TheVariants.{Nodes, Sends, Delivers, Idles, Calls, Bad}
use Rattle.item_changes.specs.Places.{removed}
use Rattle.items.specs.declared.Item.{Item}
use Rattle.under_way.specs.Frames.{place_size, room_for}
use Rattle.board_states.specs.States.{state_at}
use Rattle.stage.specs.Board.{is_there}
use Rattle.board_states.specs.declared.Stage.{Stage}
use Rattle.stage.specs.declared.Acted.{Acted}
use Rattle.turn_call.specs.Calling.{frame_acted, call_acted, call_act}
use Rattle.turn_send.specs.Sending.{send_acted}
use Rattle.turn_send.specs.Idling.{idle_act}
use Rattle.turn_deliver.specs.Delivering.{deliver_acted, item_call, deliver_act}
use Rattle.turns.specs.Acts.{acted, acted_items}
use Rattle.turns.proofs.Turning.{length_moved}

one_more_lem : (under room : ℕ) → ltb under room ≡ true → under + 1 ≤ room
one_more_lem under room e = let l = ltb-true under room e in omega arith

two_more : (under room : ℕ) → ltb (under + 1) room ≡ true → under + 2 ≤ room
two_more under room e = let l = ltb-true (under + 1) room e in omega arith

pub record Keeps (st : Stage) (headers : ℕ) (bytes : List ℕ) (r : Acted) : Type 0 where
  pub size : r.stage.size ≡ st.size
  pub lent : r.stage.under ≤ room_for headers bytes

module _ (st : Stage) (headers : ℕ) (bytes : List ℕ) (h : st.under ≤ room_for headers bytes) where
  abbrev Stays : Acted → Type 0
  Stays = Keeps st headers bytes

  send_keeps : (kind : Kind) (a b : ℕ) (r : Kept Outcome) (o : Outcome) → Stays (send_acted st headers bytes kind a b r o)
  send_keeps kind a b r done =
      cases Stays (ltb st.under (room_for headers bytes)) _ _
      (λ e. record { size = refl; lent = one_more_lem st.under (room_for headers bytes) e })
      (λ e. record { size = refl; lent = h })
  send_keeps kind a b r dropped = record { size = refl; lent = h }
  send_keeps kind a b r (refused x) = record { size = refl; lent = h }

  frame_keeps : (a : ℕ) (after : State) (to : List ℕ) → Stays (frame_acted st headers bytes a after to)
  frame_keeps a after [] = record { size = refl; lent = h }
  frame_keeps a after (b ∷ []) =
      cases Stays (ltb st.under (room_for headers bytes)) _ _
      (λ e. record { size = refl; lent = one_more_lem st.under (room_for headers bytes) e })
      (λ e. record { size = refl; lent = h })
  frame_keeps a after (b ∷ c ∷ l) =
      cases Stays (ltb (st.under + 1) (room_for headers bytes)) _ _
      (λ e. record { size = refl; lent = two_more st.under (room_for headers bytes) e })
      (λ e. record { size = refl; lent = h })

  call_keeps : (a : ℕ) (r : Kept Barrier) (o : Barrier) → Stays (call_acted st headers bytes a r o)
  call_keeps a r (sent to length) = frame_keeps a r.state to
  call_keeps a r (waits clause) = record { size = refl; lent = h }
  call_keeps a r moved = record { size = refl; lent = h }
  call_keeps a r left = record { size = refl; lent = h }
  call_keeps a r (barred x) = record { size = refl; lent = h }

  deliver_keeps : (b at : ℕ) (r : Kept Outcome) (answer : ℕ) → Stays (deliver_acted st headers bytes b at r answer)
  deliver_keeps b at r answer =
      cases Stays (eqb answer 7) _ _ (λ e. record { size = refl; lent = h })
      (λ e. record { size = refl; lent = omega arith })

  pub line_keeps : (line : Line) (at : ℕ) (it : Item) → Keeps st headers bytes (acted st headers bytes line at it)
  unfolding acted idle_act deliver_act call_act
  line_keeps (Nodes P) at it = record { size = refl; lent = h }
  line_keeps (Sends kind a b) at it =
      let r = on_state (λ n. send base n b) (state_at st a) in send_keeps kind a b r r.answer
  line_keeps (Delivers a b) at it =
      let r = item_call st headers bytes a b at it in
      cases Stays (is_there st headers bytes at) _ _ (λ e. deliver_keeps b at r (outcome_number r.answer))
      (λ e. record { size = refl; lent = h })
  line_keeps (Idles a) at it = record { size = refl; lent = h }
  line_keeps (Calls a) at it = let r = step_on (state_at st a) place_size in call_keeps a r r.answer
  line_keeps Bad at it = record { size = refl; lent = h }

pub headers_kept : (under : ℕ) (r : Acted) (items : List Item) → length (acted_items under r items) ≡ length items
unfolding acted_items
headers_kept under r items =
    length-set (set (removed items under r.gone) r.at r.first) r.next r.second
    ∙ length-set (removed items under r.gone) r.at r.first
    ∙ length_moved items r.gone (under - (r.gone + 1))
