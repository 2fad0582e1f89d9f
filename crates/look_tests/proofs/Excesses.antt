-- The excess of a number beside its sum, in the order of the tests, and what it is at most.
use mathlib.Core.Path.{◌≡◌, sym, ◌∙◌}
use Prim.Native.Nat.{ℕ, ◌+◌, ◌-◌, ◌≤◌, ◌<◌}
use native.Mathlib.Decide.{dec_lt}
use native.Mathlib.Omega.{arith}
use lib.Dec.{ltb, leb, eqb}
use borrow.Author.Tests.{lt-ltb, le-ltb, le-leb, lt-leb, leb-true, eq-eqb, ne_eqb}
use Rattle.base.specs.Choice.{both}
use Rattle.base.proofs.Laws.{both_true}
use Rattle.look_tests.specs.Tests.{excess}

-- ---- What it is

pub excess_2 : (limit own more : ℕ) → limit < more → excess limit own more ≡ 2
excess_2 limit own more h = rw (lt-ltb limit more h)

pub excess_1 : (limit own more : ℕ) → more ≤ limit → limit - more < own → excess limit own more ≡ 1
excess_1 limit own more a b =
    let l : limit < own + more = omega arith in
    rw (le-ltb limit more a, lt-ltb limit (own + more) l)

pub excess_0 : (limit own more : ℕ) → more ≤ limit → own ≤ limit - more → excess limit own more ≡ 0
excess_0 limit own more a b =
    let l : own + more ≤ limit = omega arith in
    rw (le-ltb limit more a, le-ltb limit (own + more) l)

-- ---- What it is at most

-- 0 where the sum is within the limit
pub none_over : (limit own more : ℕ) → leb (excess limit own more) 0 ≡ leb (own + more) limit
none_over limit own more = go (dec_lt limit more) (dec_lt limit (own + more))
  where
    go : Dec (limit < more) → Dec (limit < own + more) → leb (excess limit own more) 0 ≡ leb (own + more) limit
    go (yes a) b = rw (excess_2 limit own more a, lt-leb (own + more) limit (omega arith))
    go (no a) (yes b) = rw (excess_1 limit own more (omega arith) (omega arith), lt-leb (own + more) limit b)
    go (no a) (no b) = rw (excess_0 limit own more (omega arith) (omega arith), le-leb (own + more) limit (omega arith))

-- at most 1 where the number is
pub alone_over : (limit own more : ℕ) → leb (excess limit own more) 1 ≡ leb more limit
alone_over limit own more = go (dec_lt limit more) (dec_lt limit (own + more))
  where
    go : Dec (limit < more) → Dec (limit < own + more) → leb (excess limit own more) 1 ≡ leb more limit
    go (yes a) b = rw (excess_2 limit own more a, lt-leb more limit a)
    go (no a) (yes b) = rw (excess_1 limit own more (omega arith) (omega arith), le-leb more limit (omega arith))
    go (no a) (no b) = rw (excess_0 limit own more (omega arith) (omega arith), le-leb more limit (omega arith))

-- ---- A number at most 0, and one below 2

pub is_none : (n : ℕ) → leb n 0 ≡ eqb n 0
is_none n = go (dec_lt 0 n)
  where
    go : Dec (0 < n) → leb n 0 ≡ eqb n 0
    go (yes a) = lt-leb n 0 a ∙ sym (ne_eqb n 0 (λ e. omega arith))
    go (no a) = le-leb n 0 (omega arith) ∙ sym (eq-eqb n 0 (omega arith))

pub below_two : (n : ℕ) → leb n 1 ≡ ltb n 2
below_two n = go (dec_lt 1 n)
  where
    go : Dec (1 < n) → leb n 1 ≡ ltb n 2
    go (yes a) = lt-leb n 1 a ∙ sym (le-ltb n 2 (omega arith))
    go (no a) = le-leb n 1 (omega arith) ∙ sym (lt-ltb n 2 (omega arith))

-- ---- The larger of two

-- where the larger is 0, both sums are within the limit
pub sums_within : (limit own more own' more' r : ℕ)
    → ((most : ℕ) → leb r most ≡ both (leb (excess limit own more) most) (leb (excess limit own' more') most))
    → r ≡ 0 → (own + more ≤ limit) × (own' + more' ≤ limit)
sums_within limit own more own' more' r w e =
    let q = both_true (leb (excess limit own more) 0) (leb (excess limit own' more') 0) (sym (w 0) ∙ le-leb r 0 (omega arith)) in (
      leb-true (own + more) limit (sym (none_over limit own more) ∙ q.0),
      leb-true (own' + more') limit (sym (none_over limit own' more') ∙ q.1),
    )
