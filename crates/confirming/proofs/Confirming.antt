-- What a step of pass 2 adds has room, and which of its cases the tests of the code lead to.
use mathlib.Core.Path.{◌≡◌, refl, sym, ap, ◌∙◌}
use mathlib.Core.Bool.{Bool, true, false}
use Prim.Native.Nat.{ℕ, suc, ◌+◌, ◌≤◌, ◌<◌}
use lib.Dec.{ltb, eqb}
use borrow.Author.Tests.{lt-ltb, le-ltb, eq-eqb, ne_eqb}
use Rattle.base.specs.Choice.{choose, both}
use Rattle.base.specs.Limits.{Limits, Fits, field_limit}
use Rattle.base.proofs.Laws.{choose_yes, choose_no, both_make}
use Rattle.node.specs.Agree.{first_failing, no_clause}
use Rattle.pass_two.specs.Tried.{second_tests}
use Rattle.pass_two.specs.declared.Confirmed.{Confirmed}
use Rattle.pass_two.proofs.Tests.{second_tests_lem}
use Rattle.scan_tests.specs.Tests.{may_confirm}
use Rattle.scanned.specs.declared.Walked.{Walked}
use Rattle.scanned.specs.declared.Past.{Past}
use Rattle.scanned.proofs.Stepping.{second_low}
use Rattle.confirming.specs.Step.{added, confirm_step}

-- both fail where the second does under the first
both_no : (a b : Bool) → (a ≡ true → b ≡ false) → both a b ≡ false
both_no true b f = f refl
both_no false b f = refl

-- a frame that agrees has a sum within the limit
pub sum_low : (L : Limits) (last : Bool) (issued agreed : ℕ) (x : Confirmed) → Fits L
    → first_failing (second_tests L last issued agreed x) ≡ no_clause → issued + x.issued.0 < 4294967296
sum_low L true issued agreed x fit e = second_low L 1 0 issued agreed _ fit (sym (ap first_failing (second_tests_lem L 1 0 issued agreed x)) ∙ e)
sum_low L false issued agreed x fit e = second_low L 0 0 issued agreed _ fit (sym (ap first_failing (second_tests_lem L 0 0 issued agreed x)) ∙ e)

module _ (L : Limits) (x : Confirmed) (p k : ℕ) (awaits : Bool) (past : Past) (w : Walked) (agreed : ℕ) where
  -- the first clause that fails
  abbrev failing : ℕ
  failing = first_failing (second_tests L (eqb (suc k) p) w.issued.0 agreed x)

  -- which is what trying them comes to, whether k is the last being known
  pub tried : (c : ℕ) (last : Bool) → c ≡ first_failing (second_tests L last w.issued.0 agreed x) → last ≡ eqb (suc k) p
      → c ≡ failing
  tried c last e q = e ∙ ap (λ t. first_failing (second_tests L t w.issued.0 agreed x)) q

  abbrev kept : Bool → ℕ → Walked
  kept ok c = record { ok = ok; issued = w.issued; clause = c; received = w.received }

  -- the step that the code comes to, by its tests
  pub before_position : awaits ≡ true → k < past.seconds → added w x.issued.0 failing ≡ confirm_step L x p k awaits past w agreed
  unfolding confirm_step
  before_position a l = rw (a, lt-ltb k past.seconds l)

  module _ (ok : Bool) (q : ok ≡ may_confirm x.mark x.agreed x.issued.0 awaits (field_limit L)) (c : ℕ) where
    elsewhere : both awaits (ltb k past.seconds) ≡ false
        → c ≡ choose (both awaits (eqb k past.confirm)) failing w.clause
        → kept ok c ≡ confirm_step L x p k awaits past w agreed
    unfolding confirm_step
    elsewhere e f = (λ i. kept (q i) (f i)) ∙ sym (choose_no _ _ e)

    pub at_position : past.seconds ≤ k → awaits ≡ true → k ≡ past.confirm → c ≡ failing
        → kept ok c ≡ confirm_step L x p k awaits past w agreed
    at_position far a here f =
        elsewhere (both_no awaits _ (λ u. le-ltb k past.seconds far))
        (f ∙ sym (choose_yes _ _ (both_make a (eq-eqb k past.confirm here))))

    pub other_step : (awaits ≡ true → (past.seconds ≤ k) × (k ≡ past.confirm → ⊥)) → c ≡ w.clause
        → kept ok c ≡ confirm_step L x p k awaits past w agreed
    other_step far f =
        elsewhere (both_no awaits _ (λ u. le-ltb k past.seconds (far u).0))
        (f ∙ sym (choose_no _ _ (both_no awaits _ (λ u. ne_eqb k past.confirm (far u).1))))
