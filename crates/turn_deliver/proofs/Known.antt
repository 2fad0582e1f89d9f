-- What becomes of a delivery, by what its call answered.
use mathlib.Core.Path.{◌≡◌, ap, ◌∙◌}
use mathlib.Core.Bool.{true, false}
use mathlib.Core.List.{List}
use Prim.Native.Nat.{ℕ, ◌-◌, ◌≤◌, ◌<◌}
use lib.Dec.{ltb, leb, eqb}
use borrow.Author.Tests.{ltb-true, leb-true, eq-eqb, ne_eqb, not-true}
use Rattle.base.specs.Limits.{base}
use Rattle.base.proofs.Laws.{choose_yes, choose_no, both_true}
use Rattle.tree.specs.Lookups.{bad_board}
use Rattle.node.specs.Answers.{Outcome, outcome_number}
use Rattle.state_calls.specs.On.{Kept}
use Rattle.items.specs.declared.Item.{Item}
use Rattle.under_way.specs.Frames.{room_for, closed}
use Rattle.board_states.specs.States.{changed}
use Rattle.stage.specs.Board.{is_there, quiet}
use Rattle.board_states.specs.declared.Stage.{Stage}
use Rattle.stage.specs.declared.Acted.{Acted}
use Rattle.turn_deliver.specs.Delivering.{take_off, item_call, deliver_act, deliver_act_bytes}

-- no header is put and none goes, save this one
pub one_off : (st : Stage) (headers : ℕ) (bytes : List ℕ) (after : Stage) (actor answer at : ℕ) (q : Acted)
    → q ≡ quiet st headers after actor answer
    → ◌≡◌ {A = Acted}
    (record {
      stage = q.stage;
      actor = q.actor;
      answer = q.answer;
      gone = at;
      at = q.at;
      first = q.first;
      next = q.next;
      second = q.second;
    })
    (take_off st headers bytes after actor answer at)
one_off st headers bytes after actor answer at q e =
    λ k. record {
      stage = (e k).stage;
      actor = (e k).actor;
      answer = (e k).answer;
      gone = at;
      at = (e k).at;
      first = (e k).first;
      next = (e k).next;
      second = (e k).second;
    }

module _ (st : Stage) (headers : ℕ) (bytes : List ℕ) (at : ℕ) (it : Item) where
  -- no item stands there
  pub deliver_none : (a b : ℕ) → is_there st headers bytes at ≡ false
      → (deliver_act st headers bytes a b at it ≡ quiet st headers st b 16)
      × (deliver_act_bytes st headers bytes a b at it ≡ bytes)
  unfolding deliver_act deliver_act_bytes
  deliver_none a b e = (choose_no _ _ e, choose_no _ _ e)

  module _ (a b : ℕ) (r : Kept Outcome) (there : is_there st headers bytes at ≡ true)
      (e : item_call st headers bytes a b at it ≡ r) where
    -- an early item stays
    pub deliver_early : outcome_number r.answer ≡ 7
        → (deliver_act st headers bytes a b at it ≡ quiet st headers st b 7)
        × (deliver_act_bytes st headers bytes a b at it ≡ bytes)
    unfolding deliver_act deliver_act_bytes
    deliver_early q =
        let t : eqb (outcome_number (item_call st headers bytes a b at it).answer) 7 ≡ true =
        rw e (eq-eqb _ _ q) in
        (choose_yes _ _ there ∙ choose_yes _ _ t, choose_yes _ _ there ∙ choose_yes _ _ t)

    -- any other leaves the list
    pub deliver_off : (outcome_number r.answer ≡ 7 → ⊥)
        → (deliver_act st headers bytes a b at it
        ≡ take_off st headers bytes (changed st b r.state (st.under - 1)) b (outcome_number r.answer) at)
        × (deliver_act_bytes st headers bytes a b at it ≡ closed bytes st.under at)
    unfolding deliver_act deliver_act_bytes
    deliver_off q =
        let t : eqb (outcome_number (item_call st headers bytes a b at it).answer) 7 ≡ false =
        rw e (ne_eqb _ _ q) in (
          choose_yes _ _ there
              ∙ choose_no _ _ t
              ∙ ap
              (λ g.
              take_off st headers bytes (changed st b g.state (st.under - 1)) b (outcome_number g.answer) at)
              e,
          choose_yes _ _ there ∙ choose_no _ _ t,
        )

  pub there_known : is_there st headers bytes at ≡ true
      → (at < st.under) × (st.under ≤ room_for headers bytes) × (bad_board base st.size ≡ false)
  there_known e =
      let p = both_true (ltb at st.under) _ e in
      let q = both_true (leb st.under (room_for headers bytes)) _ p.1 in
      (ltb-true _ _ p.0, leb-true _ _ q.0, not-true _ q.1)
