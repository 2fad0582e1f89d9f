-- What the tests of a step and of the numbers say.
use Rattle.std.proofs.Common.{◌≡◌, ℕ, ◌<◌, ◌≤◌, Bool, true, false, not, eqb, ltb, leb, ◌⊎◌, refl, inl, inr, arith, ltb-true, eq-eqb, ne_eqb, eqb-true, le-leb, leb-false, leb-true}
use borrow.Author.Tests.{lt-leb}
use Rattle.base.specs.Choice.{either, every}
use Rattle.base.specs.Limits.{Limits, field_limit, width}
use Rattle.base.proofs.Laws.{clash, both_true, both_make, every_at, every_make}
use Rattle.frame.specs.Frame.{sent_at, taken_at, has_shell, bad_step, number_ok, numbers_ok}
use Rattle.frame.specs.Parts.{has_tallies, shell_ok}
use Rattle.frame.specs.declared.Frame.{Frame}

-- ---- a step: its pass and its dimension

pub step_known : (p pass k : ℕ) → bad_step p pass k ≡ false → ((pass ≡ 1) ⊎ (pass ≡ 2)) × (k < p)
step_known p pass k e = go (eqb pass 1) refl (eqb pass 2) refl (leb p k) refl e
  where
    go : (s : Bool) → eqb pass 1 ≡ s → (t : Bool) → eqb pass 2 ≡ t → (u : Bool) → leb p k ≡ u
        → either (not (either s t)) u ≡ false → ((pass ≡ 1) ⊎ (pass ≡ 2)) × (k < p)
    go true a t b false c q = (inl (eqb-true pass 1 a), leb-false p k c)
    go true a t b true c q = clash q
    go false a true b false c q = (inr (eqb-true pass 2 b), leb-false p k c)
    go false a true b true c q = clash q
    go false a false b u c q = clash q

pub step_good : (p pass k : ℕ) → (pass ≡ 1) ⊎ (pass ≡ 2) → k < p → bad_step p pass k ≡ false
step_good p pass k (inl e) h = rw (eq-eqb pass 1 e, lt-leb p k h)
step_good p pass k (inr e) h = rw (ne_eqb pass 1 (λ q. omega arith), eq-eqb pass 2 e, lt-leb p k h)

-- ---- a shell

pub shell_known : (p k m : ℕ) → has_shell p k m ≡ true → (k ≤ m) × (m < p)
shell_known p k m e = let q = both_true (leb k m) (ltb m p) e in (leb-true k m q.0, ltb-true m p q.1)

-- ---- the numbers of a frame

-- a number is within the limit whether or not the frame has it
pub number_low : (L : Limits) (has : Bool) (x : ℕ) → number_ok L has x ≡ true → x ≤ field_limit L
number_low L true x e = leb-true x (field_limit L) e
number_low L false x e = omega (arith, eqb-true x 0 e)

-- a number that the frame doesn't have is 0
pub number_absent : (L : Limits) (has : Bool) (x : ℕ) → number_ok L has x ≡ true → has ≡ false → x ≡ 0
number_absent L true x e n = clash n
number_absent L false x e n = eqb-true x 0 e

-- the frame has tallies of shell m
abbrev pub tells : ℕ → Frame → ℕ → Bool
tells p f m = has_tallies p f.pass f.dim m

-- what `numbers_ok` says, number by number
pub record Numbers (L : Limits) (p : ℕ) (f : Frame) : Type 0 where
  pub sent : (m : ℕ) → m < width → number_ok L (tells p f m) (sent_at f.sent m) ≡ true
  pub taken : (m : ℕ) → m < width → number_ok L (tells p f m) (taken_at f.taken m) ≡ true
  pub issued : f.issued.0 ≤ field_limit L
  pub received : number_ok L (eqb f.pass 1) f.received.0 ≡ true
  pub agreed : number_ok L (eqb f.pass 2) f.agreed ≡ true

module _ (L : Limits) (p : ℕ) (f : Frame) where
  pub numbers_known : numbers_ok L p f ≡ true → Numbers L p f
  unfolding numbers_ok shell_ok
  numbers_known e =
      let a = both_true (every 0 width (shell_ok L p f)) _ e in
      let b = both_true (number_ok L true f.issued.0) _ a.1 in
      let c = both_true (number_ok L (eqb f.pass 1) f.received.0) _ b.1 in
      record {
        sent = λ m h. (shell a.0 m h).0;
        taken = λ m h. (shell a.0 m h).1;
        issued = leb-true _ _ b.0;
        received = c.0;
        agreed = c.1;
      }
    where
      ok : ℕ → ℕ → Bool
      ok m x = number_ok L (tells p f m) x

      shell : every 0 width (shell_ok L p f) ≡ true → (m : ℕ) → m < width
          → (ok m (sent_at f.sent m) ≡ true) × (ok m (taken_at f.taken m) ≡ true)
      shell e m h =
          both_true (ok m (sent_at f.sent m)) _ (every_at 0 width (shell_ok L p f) e m (omega arith) (omega arith))

  pub numbers_good : Numbers L p f → numbers_ok L p f ≡ true
  unfolding numbers_ok
  numbers_good n =
      both_make (every_make 0 width _ (λ m a b. both_make (n.sent m (omega arith)) (n.taken m (omega arith))))
      (both_make (le-leb _ _ n.issued) (both_make n.received n.agreed))
