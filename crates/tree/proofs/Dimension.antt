-- Laws of the dimension: it is the smallest p with P ≤ 2 ^ p, and what the leading zeros of P − 1 say of it.
use mathlib.Core.Path.{◌≡◌, refl}
use mathlib.Core.Bool.{false}
use Prim.Native.Nat.{ℕ, zero, suc, ◌+◌, ◌-◌, ◌^◌, ◌≤◌, ◌<◌}
use native.Mathlib.Decide.{dec_le}
use native.Mathlib.Omega.{arith}
use lib.Dec.{leb}
use lib.Pow.{pow_mono}
use lib.Count.{count_leading_zeros, leading_top}
use borrow.Author.Tests.{leb-true, leb-false}
use Rattle.base.proofs.Laws.{cases}
use Rattle.tree.specs.Tree.{smallest_from, dimension}

below_power : (n : ℕ) → n < 2 ^ n
below_power zero = omega arith
below_power (suc n) = let h = below_power n in omega arith

fits_from : (P from tries : ℕ) → P ≤ 2 ^ (from + tries) → P ≤ 2 ^ smallest_from P from tries
unfolding smallest_from
fits_from P from zero h = let e : from + 0 ≡ from = omega arith in rw e at h
fits_from P from (suc tries) h =
    cases (λ k. P ≤ 2 ^ k) (leb P (2 ^ from)) from (smallest_from P (suc from) tries) (λ e. leb-true P (2 ^ from) e)
    (λ e. fits_from P (suc from) tries (let z : from + suc tries ≡ suc from + tries = omega arith in rw z at h))

smallest_from_lem : (P from tries q : ℕ) → from ≤ q → P ≤ 2 ^ q → smallest_from P from tries ≤ q
unfolding smallest_from
smallest_from_lem P from zero q l h = l
smallest_from_lem P from (suc tries) q l h =
    cases (λ k. k ≤ q) (leb P (2 ^ from)) from (smallest_from P (suc from) tries) (λ e. l)
    (λ e. smallest_from_lem P (suc from) tries q (more e (dec_le (suc from) q)) h)
  where
    more : leb P (2 ^ from) ≡ false → Dec (suc from ≤ q) → suc from ≤ q
    more e (yes m) = m
    more e (no m) = absurd (let z : q ≡ from = omega arith in omega (arith, leb-false P (2 ^ from) e, rw z at h))

-- P ≤ 2 ^ p
pub fits : (P : ℕ) → P ≤ 2 ^ dimension P
unfolding dimension
fits P = fits_from P 0 P (let z : 0 + P ≡ P = omega arith in rw z (omega (arith, below_power P)))

-- and no smaller number has that
pub smallest : (P q : ℕ) → P ≤ 2 ^ q → dimension P ≤ q
unfolding dimension
smallest P q h = smallest_from_lem P 0 P q (omega arith) h

pub dimension_one : dimension 1 ≡ 0
dimension_one = omega (arith, smallest 1 0 (omega arith))

-- two nodes or more have a dimension
pub positive : (P : ℕ) → 2 ≤ P → 0 < dimension P
positive P h = go (dimension P) refl
  where
    go : (p : ℕ) → dimension P ≡ p → 0 < p
    go zero e = absurd (let f : P ≤ 2 ^ 0 = rw e at (fits P) in omega arith)
    go (suc p) e = omega arith

-- a dimension lower would be too small
pub above_half : (P : ℕ) → 2 ≤ P → 2 ^ (dimension P - 1) < P
above_half P h = go (dec_le P (2 ^ (dimension P - 1)))
  where
    go : Dec (P ≤ 2 ^ (dimension P - 1)) → 2 ^ (dimension P - 1) < P
    go (yes l) = absurd (omega (arith, smallest P (dimension P - 1) l, positive P h))
    go (no l) = omega arith

-- the leading zeros of P − 1 in w binary digits, and p, make w
pub dimension_zeros : (w P : ℕ) → 2 ≤ P → P ≤ 2 ^ w → count_leading_zeros w (P - 1) + dimension P ≡ w
dimension_zeros w P h l =
    let t = leading_top w (P - 1) (omega arith) (omega arith) in
    let low : dimension P ≤ suc t.0 = smallest P (suc t.0) (omega (arith, t.3)) in
    go t low (dec_le (dimension P) t.0)
  where
    go : (t : (j : ℕ) × (count_leading_zeros w (P - 1) + suc j ≡ w) × (2 ^ j ≤ P - 1) × (P - 1 < 2 ^ suc j))
        → dimension P ≤ suc t.0 → Dec (dimension P ≤ t.0) → count_leading_zeros w (P - 1) + dimension P ≡ w
    go t low (yes m) = absurd (omega (arith, fits P, pow_mono m, t.2))
    go t low (no m) = omega (arith, t.1)
