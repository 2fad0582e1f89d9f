-- Laws of totals.
use mathlib.Core.Path.{◌≡◌, ap}
use Prim.Native.Nat.{ℕ, zero, suc, ◌+◌, ◌≤◌, ◌<◌}
use native.Mathlib.Decide.{dec_le}
use native.Mathlib.Numerals.{add-one}
use native.Mathlib.Omega.{arith}
use Rattle.node.specs.Sums.{total}

-- one summand more
pub total_more : (f : ℕ → ℕ) (m : ℕ) → total f (m + 1) ≡ total f m + f m
total_more f m = rw add-one

-- a summand is at most the total
pub total_has : (f : ℕ → ℕ) (n m : ℕ) → m < n → f m ≤ total f n
total_has f zero m h = absurd (omega arith)
total_has f (suc n) m h = go (total_has f n m) (dec_le n m)
  where
    go : (m < n → f m ≤ total f n) → Dec (n ≤ m) → f m ≤ total f n + f n
    go r (yes d) = let e : f m ≡ f n = ap f (omega arith) in omega arith
    go r (no d) = let i = r (omega arith) in omega arith
