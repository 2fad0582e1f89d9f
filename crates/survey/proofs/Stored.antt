-- What is stored for a dimension and passes the test: each number is within its limit, and 0 where no frame is stored.
use mathlib.Core.Path.{◌≡◌, refl, sym, ap, ◌∙◌}
use mathlib.Core.Bool.{Bool, true, false, not}
use Prim.Native.Nat.{ℕ, ◌≤◌, ◌<◌}
use native.Mathlib.Omega.{arith}
use borrow.Author.Tests.{not-true}
use Rattle.base.specs.Choice.{choose, both, either, every}
use Rattle.base.specs.Limits.{Limits, field_limit, width}
use Rattle.base.proofs.Laws.{both_true, every_at}
use Rattle.frame.specs.Frame.{has_shell, number_ok}
use Rattle.frame.proofs.RoundTripChecks.{number_low, number_absent}
use Rattle.node.specs.Sums.{Field, sent_in, taken_in, all_sent, all_taken, number}
use Rattle.node.specs.declared.Stored.{Stored}
use Rattle.node.specs.declared.Confirm.{Confirm}
use Rattle.survey.specs.Pieces.{pair_ok, shell_ok, first_test, second_test}

-- the fields that a state has room for
abbrev pub Has : Field → Type 0
Has (sent_in m) = m < width
Has (taken_in m) = m < width
Has all_sent = Unit
Has all_taken = Unit

-- a number that may be there only where a frame is stored
record Kept (L : Limits) (present : Bool) (x : ℕ) : Type 0 where
  has : Bool
  gone : present ≡ false → has ≡ false
  fine : number_ok L has x ≡ true

kept_low : {L : Limits} {t : Bool} {x : ℕ} → Kept L t x → x ≤ field_limit L
kept_low {L} {t} {x} s = number_low L s.has x s.fine

kept_same : {L : Limits} (t : Bool) {x : ℕ} → Kept L t x → choose t x 0 ≡ x
kept_same true s = refl
kept_same {L} false {x} s = sym (number_absent L s.has x s.fine (s.gone refl))

-- nothing is stored where nobody is awaited
none_held : (awaits present : Bool) → either awaits (not present) ≡ true → awaits ≡ false → present ≡ false
none_held awaits present e f = not-true present (ap (λ t. either t (not present)) (sym f) ∙ e)

module _ (L : Limits) (awaits : Bool) (p k : ℕ) (x : Stored) (ok : first_test L awaits p k x ≡ true) where
  abbrev places : Bool
  places = either awaits (not x.present)

  abbrev shells : Bool
  shells = every 0 width (shell_ok L p k x)

  abbrev totals : Bool
  totals = pair_ok L x.present (number x all_sent) (number x all_taken)

  tests : (places ≡ true) × (shells ≡ true) × (totals ≡ true)
  unfolding first_test
  tests =
      let q = both_true places (both shells totals) ok in
      let r = both_true shells totals q.1 in
      (q.0, r.0, r.1)

  -- the tallies of shell m
  abbrev told : ℕ → Bool
  told m = both x.present (has_shell p k m)

  shell : (m : ℕ) → m < width
      → (number_ok L (told m) (number x (sent_in m)) ≡ true) × (number_ok L (told m) (number x (taken_in m)) ≡ true)
  unfolding shell_ok
  shell m l =
      both_true (number_ok L (told m) (number x (sent_in m))) (number_ok L (told m) (number x (taken_in m)))
      (every_at 0 width (shell_ok L p k x) tests.1 m (omega arith) (omega arith))

  all : (number_ok L x.present (number x all_sent) ≡ true) × (number_ok L x.present (number x all_taken) ≡ true)
  all = both_true (number_ok L x.present (number x all_sent)) (number_ok L x.present (number x all_taken)) tests.2

  kept : (f : Field) → Has f → Kept L x.present (number x f)
  kept (sent_in m) l = record { has = told m; gone = λ e. rw e; fine = (shell m l).0 }
  kept (taken_in m) l = record { has = told m; gone = λ e. rw e; fine = (shell m l).1 }
  kept all_sent l = record { has = x.present; gone = λ e. e; fine = all.0 }
  kept all_taken l = record { has = x.present; gone = λ e. e; fine = all.1 }

  pub first_low : (f : Field) → Has f → number x f ≤ field_limit L
  first_low f h = kept_low (kept f h)

  pub first_same : (f : Field) → Has f → choose x.present (number x f) 0 ≡ number x f
  first_same f h = kept_same x.present (kept f h)

  pub first_none : awaits ≡ false → x.present ≡ false
  first_none e = none_held awaits x.present tests.0 e

module _ (L : Limits) (awaits : Bool) (y : Confirm) (ok : second_test L awaits y ≡ true) where
  issued : Kept L y.present y.issued.0
  unfolding second_test
  issued =
      let q = both_true (either awaits (not y.present)) (pair_ok L y.present y.agreed y.issued.0) ok in
      let r = both_true (number_ok L y.present y.agreed) (number_ok L y.present y.issued.0) q.1 in
      record { has = y.present; gone = λ e. e; fine = r.1 }

  pub second_none : awaits ≡ false → y.present ≡ false
  unfolding second_test
  second_none e =
      let q = both_true (either awaits (not y.present)) (pair_ok L y.present y.agreed y.issued.0) ok in
      none_held awaits y.present q.0 e

  pub second_low : y.issued.0 ≤ field_limit L
  second_low = kept_low issued

  pub second_same : choose y.present y.issued.0 0 ≡ y.issued.0
  second_same = kept_same y.present issued
