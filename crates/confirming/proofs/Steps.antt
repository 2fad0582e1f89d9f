-- A step of pass 2 is the one that the walk over the stored frames asks for.
use mathlib.Core.Path.{◌≡◌, refl, sym, ap, ◌∙◌, subst}
use mathlib.Core.Bool.{Bool, true, false}
use mathlib.Core.List.{List}
use Prim.Native.Nat.{ℕ, suc, ◌≤◌}
use native.Mathlib.Decide.{dec_le, ℕ_discrete}
use native.Mathlib.Omega.{arith}
use lib.Dec.{eqb}
use borrow.Author.Tests.{eq-eqb, ne_eqb}
use Rattle.base.specs.Limits.{Limits}
use Rattle.base.proofs.Laws.{clash, choose_yes, choose_no}
use Rattle.node.specs.Agree.{second_clauses, first_failing, no_clause}
use Rattle.layout.specs.Places.{confirmed_place}
use Rattle.layout.specs.Held.{word, second_from}
use Rattle.pass_two.specs.Tried.{second_tests}
use Rattle.pass_two.proofs.Tests.{second_tests_lem}
use Rattle.scanned.specs.Pieces.{Confirms, SecondStep}
use Rattle.scanned.specs.declared.Walked.{Walked}
use Rattle.scanned.specs.declared.Past.{Past}
use Rattle.scanned.proofs.Stepping.{second_confirms, second_looks, second_stores}
use Rattle.confirming.specs.Step.{added, confirm_step}
use Rattle.confirming.specs.Pieces.{confirmed_in}
use Rattle.confirming.proofs.Confirming.{before_position, at_position, other_step}

confirms : (w : Walked) (more c : ℕ) → Confirms w more c (added w more c)
confirms w more c = go (ℕ_discrete c no_clause)
  where
    go : Dec (c ≡ no_clause) → Confirms w more c (added w more c)
    go (yes e) =
        let t = eq-eqb c no_clause e in
        subst (Confirms w more c) (sym (choose_yes _ _ t))
        (record { ok = sym t; issued = λ q. refl; clause = refl; received = refl })
    go (no e) =
        let t = ne_eqb c no_clause e in
        subst (Confirms w more c) (sym (choose_no _ _ t))
        (record { ok = sym t; issued = λ q. clash (sym q); clause = refl; received = refl })

module _ (L : Limits) (ss : List ℕ) (p k : ℕ) (awaits : Bool) (past : Past) (w : Walked) (agreed : ℕ) where
  abbrev after : Walked
  after = confirm_step L (confirmed_in ss) p k awaits past w agreed

  -- the first of the clauses that fails, as they are tried
  abbrev failing : ℕ
  failing = first_failing (second_tests L (eqb (suc k) p) w.issued.0 agreed (confirmed_in ss))

  -- the clauses are those of the frame
  same : failing ≡ first_failing (second_clauses L p k w.issued.0 agreed (second_from ss 0))
  same = ap first_failing (second_tests_lem L p k w.issued.0 agreed (confirmed_in ss))

  abbrev Done : Walked → Type 0
  Done = SecondStep L ss p k awaits past w agreed

  -- what a step before the position leaves
  confirmed : Confirms w (word ss (confirmed_place 0)) (first_failing (second_clauses L p k w.issued.0 agreed (second_from ss 0)))
      (added w (word ss (confirmed_place 0)) failing)
  confirmed =
      subst (λ d. Confirms w (word ss (confirmed_place 0)) d (added w (word ss (confirmed_place 0)) failing)) same (confirms w (word ss (confirmed_place 0)) failing)

  is_step : Done after
  is_step = go awaits refl (dec_le past.seconds k) (ℕ_discrete k past.confirm)
    where
      other : (awaits ≡ true → (past.seconds ≤ k) × (k ≡ past.confirm → ⊥)) → Done after
      other far =
          subst Done (other_step L (confirmed_in ss) p k awaits past w agreed _ refl _ far refl)
          (second_stores L ss p k awaits past w agreed far _ refl _ refl)

      go : (t : Bool) → awaits ≡ t → Dec (past.seconds ≤ k) → Dec (k ≡ past.confirm) → Done after
      go true a (no l) h =
          subst Done (before_position L (confirmed_in ss) p k awaits past w agreed a (omega arith))
          (second_confirms L ss p k awaits past w agreed a (omega arith) _ confirmed)
      go true a (yes l) (yes h) =
          subst Done (at_position L (confirmed_in ss) p k awaits past w agreed _ refl _ l a h refl)
          (second_looks L ss p k awaits past w agreed l a h _ refl _ same)
      go true a (yes l) (no h) = other (λ u. (l, h))
      go false a l h = other (λ u. clash (sym u ∙ a))

  pub second_is : (r : Walked) → r ≡ after → SecondStep L ss p k awaits past w agreed r
  second_is r e = subst Done (sym e) is_step
