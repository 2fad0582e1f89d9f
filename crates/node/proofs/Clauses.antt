-- What it means that a step agrees, clause by clause, and that a step of which this is known agrees.
use mathlib.Core.Path.{◌≡◌, refl, sym, ◌∙◌}
use mathlib.Core.Bool.{Bool, true, false}
use Prim.Native.Nat.{ℕ, suc, ◌+◌, ◌-◌, ◌≤◌, ◌<◌}
use native.Mathlib.Omega.{arith}
use lib.Dec.{eqb}
use borrow.Author.Tests.{leb-true, eqb-true, le-leb, eq-eqb}
use Rattle.base.specs.Choice.{choose, both, every}
use Rattle.base.specs.Limits.{Limits, field_limit}
use Rattle.base.proofs.Laws.{choose_yes, choose_no, cases, both_true, both_make, every_at, every_make}
use Rattle.node.specs.Sums.{dims, first_at, second_at, Field, sent_in, taken_in, all_sent, all_taken, number}
use Rattle.node.specs.Sums.{Has, own, own_issued}
use Rattle.node.specs.Agree.{is_alone, is_within, first_clauses, second_clauses, all_hold, agrees}
use Rattle.node.specs.declared.Stored.{Stored}
use Rattle.node.specs.declared.Confirm.{Confirm}
use Rattle.node.specs.declared.Node.{Node}

-- a frame of a dimension has what one of a higher dimension has
pub has_lower : (p j k : ℕ) (f : Field) → j ≤ k → Has p k f → Has p j f
has_lower p j k (sent_in m) l h = omega arith
has_lower p j k (taken_in m) l h = omega arith
has_lower p j k all_sent l h = tt
has_lower p j k all_taken l h = tt

-- ---- pass 1

pub record FirstAgrees (L : Limits) (p k : ℕ) (own : Field → ℕ) (x : Stored) : Type 0 where
  pub stored : x.present ≡ true
  -- clauses 1 and 2
  pub sent : own (sent_in k) ≡ number x (taken_in k)
  pub taken : own (taken_in k) ≡ number x (sent_in k)
  -- clause 3
  pub within : (f : Field) → Has p (suc k) f → own f + number x f ≤ field_limit L
  -- clause 4
  pub last : suc k ≡ p → own all_sent + number x all_sent ≡ own all_taken + number x all_taken

-- a test that is made in the last dimension only
at_last : (t u : Bool) → choose t u true ≡ true → t ≡ true → u ≡ true
at_last t u e q = sym (choose_yes u true q) ∙ e

if_last : (t u : Bool) → (t ≡ true → u ≡ true) → choose t u true ≡ true
if_last t u h = cases (λ s. s ≡ true) t u true h (λ e. refl)

module _ (L : Limits) (p k : ℕ) (own : Field → ℕ) (x : Stored) where
  abbrev added : Field → ℕ
  added f = own f + number x f

  abbrev shells_ok : ℕ → Bool
  shells_ok m = both (is_within L (added (sent_in m))) (is_within L (added (taken_in m)))

  abbrev shells : Bool
  shells = every (suc k) (p - suc k) shells_ok

  abbrev totals : Bool
  totals = both (is_within L (added all_sent)) (is_within L (added all_taken))

  -- clause 3
  pub all_within : both shells totals ≡ true → (f : Field) → Has p (suc k) f → added f ≤ field_limit L
  all_within e =
      let b = both_true shells totals e in
      within b.0 (both_true (is_within L (added all_sent)) (is_within L (added all_taken)) b.1)
    where
      shell : shells ≡ true → (m : ℕ) → suc k ≤ m → m < p
          → (is_within L (added (sent_in m)) ≡ true) × (is_within L (added (taken_in m)) ≡ true)
      shell e m a b =
          both_true (is_within L (added (sent_in m))) (is_within L (added (taken_in m)))
          (every_at (suc k) (p - suc k) shells_ok e m a (omega arith))

      within : shells ≡ true → (is_within L (added all_sent) ≡ true) × (is_within L (added all_taken) ≡ true) → (f : Field)
          → Has p (suc k) f → added f ≤ field_limit L
      within e t (sent_in m) h = leb-true _ _ (shell e m h.0 h.1).0
      within e t (taken_in m) h = leb-true _ _ (shell e m h.0 h.1).1
      within e t all_sent h = leb-true _ _ t.0
      within e t all_taken h = leb-true _ _ t.1

  pub within_all : ((f : Field) → Has p (suc k) f → added f ≤ field_limit L) → both shells totals ≡ true
  within_all w =
      both_make
      (every_make (suc k) (p - suc k) _
      (λ m l h.
      both_make (le-leb _ _ (w (sent_in m) (omega arith))) (le-leb _ _ (w (taken_in m) (omega arith)))))
      (both_make (le-leb _ _ (w all_sent tt)) (le-leb _ _ (w all_taken tt)))

  pub first_known : all_hold (first_clauses L p k own x) ≡ true → FirstAgrees L p k own x
  unfolding first_clauses
  first_known e =
      let a = both_true x.present _ e in
      let b = both_true (eqb (own (sent_in k)) (number x (taken_in k))) _ a.1 in
      let c = both_true (eqb (own (taken_in k)) (number x (sent_in k))) _ b.1 in
      let d = both_true (both shells totals) _ c.1 in
      let same = eqb (added all_sent) (added all_taken) in
      let f = both_true (choose (eqb (suc k) p) same true) _ d.1 in
      record {
        stored = a.0;
        sent = eqb-true _ _ b.0;
        taken = eqb-true _ _ c.0;
        within = all_within d.0;
        last = λ q. eqb-true _ _ (at_last (eqb (suc k) p) same f.0 (eq-eqb (suc k) p q));
      }

  pub first_good : FirstAgrees L p k own x → all_hold (first_clauses L p k own x) ≡ true
  unfolding first_clauses
  first_good a =
      both_make a.stored
      (both_make (eq-eqb _ _ a.sent)
      (both_make (eq-eqb _ _ a.taken)
      (both_make (within_all a.within)
      (both_make (if_last (eqb (suc k) p) _ (λ q. eq-eqb _ _ (a.last (eqb-true (suc k) p q)))) refl))))

-- ---- pass 2

pub record SecondAgrees (L : Limits) (p k issued agreed : ℕ) (x : Confirm) : Type 0 where
  pub stored : x.present ≡ true
  -- clause 3
  pub within : issued + x.issued.0 ≤ field_limit L
  -- clause 5
  pub same : x.agreed ≡ agreed
  -- clause 6
  pub last : suc k ≡ p → issued + x.issued.0 ≡ agreed

module _ (L : Limits) (p k issued agreed : ℕ) (x : Confirm) where
  pub second_known : all_hold (second_clauses L p k issued agreed x) ≡ true → SecondAgrees L p k issued agreed x
  unfolding second_clauses
  second_known e =
      let sum = issued + x.issued.0 in
      let a = both_true x.present _ e in
      let b = both_true (is_within L sum) _ a.1 in
      let c = both_true (eqb x.agreed agreed) _ b.1 in
      let d = both_true (choose (eqb (suc k) p) (eqb sum agreed) true) _ c.1 in
      record {
        stored = a.0;
        within = leb-true _ _ b.0;
        same = eqb-true _ _ c.0;
        last = λ q. eqb-true _ _ (at_last (eqb (suc k) p) (eqb sum agreed) d.0 (eq-eqb (suc k) p q));
      }

  pub second_good : SecondAgrees L p k issued agreed x → all_hold (second_clauses L p k issued agreed x) ≡ true
  unfolding second_clauses
  second_good a =
      both_make a.stored
      (both_make (le-leb _ _ a.within)
      (both_make (eq-eqb _ _ a.same)
      (both_make (if_last (eqb (suc k) p) _ (λ q. eq-eqb _ _ (a.last (eqb-true (suc k) p q)))) refl)))

-- ---- a step of a node

module _ (L : Limits) (n : Node) (k : ℕ) where
  -- the step awaits a frame and has it, and the clauses hold
  abbrev pub FirstStep : Type 0
  FirstStep = FirstAgrees L (dims n) k (own n k) (first_at n k)

  abbrev pub SecondStep : Type 0
  SecondStep = SecondAgrees L (dims n) k (own_issued n k) n.agreed (second_at n k)

  pub first_agrees : agrees L n 1 k ≡ true → is_alone n k ≡ false → FirstStep
  unfolding agrees
  first_agrees e a = first_known L (dims n) k (own n k) (first_at n k) (sym (choose_no true _ a) ∙ e)

  pub first_step : (is_alone n k ≡ false → FirstStep) → agrees L n 1 k ≡ true
  unfolding agrees
  first_step h =
      cases (λ t. t ≡ true) (is_alone n k) true _ (λ a. refl)
      (λ a. first_good L (dims n) k (own n k) (first_at n k) (h a))

  pub second_agrees : agrees L n 2 k ≡ true → is_alone n k ≡ false → SecondStep
  unfolding agrees
  second_agrees e a =
      second_known L (dims n) k (own_issued n k) n.agreed (second_at n k) (sym (choose_no true _ a) ∙ e)

  pub second_step : (is_alone n k ≡ false → SecondStep) → agrees L n 2 k ≡ true
  unfolding agrees
  second_step h =
      cases (λ t. t ≡ true) (is_alone n k) true _ (λ a. refl)
      (λ a. second_good L (dims n) k (own_issued n k) n.agreed (second_at n k) (h a))
