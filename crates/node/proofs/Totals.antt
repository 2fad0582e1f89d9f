-- Laws of the total of a row of numbers.
use mathlib.Core.Path.{◌≡◌, refl, ap}
use mathlib.Core.Logic.{◌≢◌}
use Prim.Native.Nat.{ℕ, zero, suc, ◌+◌, ◌≤◌, ◌<◌}
use native.Mathlib.Decide.{ℕ_discrete}
use native.Mathlib.Omega.{arith}
use Rattle.node.specs.Sums.{total}

-- a number of the row is at most the total
pub total_at : (f : ℕ → ℕ) (m n : ℕ) → m < n → f m ≤ total f n
total_at f m zero h = absurd (omega arith)
total_at f m (suc n) h = go (total_at f m n) (ℕ_discrete m n)
  where
    go : (m < n → f m ≤ total f n) → Dec (m ≡ n) → f m ≤ total f n + f n
    go rest (yes e) = let z : f m ≡ f n = ap f e in omega arith
    go rest (no e) = omega (arith, rest (omega arith))

pub total_same : (f g : ℕ → ℕ) (n : ℕ) → ((m : ℕ) → m < n → f m ≡ g m) → total f n ≡ total g n
total_same f g zero h = refl
total_same f g (suc n) h = omega (arith, total_same f g n (λ m l. h m (omega arith)), h n (omega arith))

pub total_zero : (f : ℕ → ℕ) (n : ℕ) → ((m : ℕ) → m < n → f m ≡ 0) → total f n ≡ 0
total_zero f zero h = refl
total_zero f (suc n) h = omega (arith, total_zero f n (λ m l. h m (omega arith)), h n (omega arith))

-- one number of the row is one more
pub total_more : (f g : ℕ → ℕ) (m n : ℕ) → m < n → g m ≡ f m + 1 → ((j : ℕ) → j ≢ m → g j ≡ f j)
    → total g n ≡ total f n + 1
total_more f g m zero l e h = absurd (omega arith)
total_more f g m (suc n) l e h = go (λ r. total_more f g m n r e h) (ℕ_discrete n m)
  where
    go : (m < n → total g n ≡ total f n + 1) → Dec (n ≡ m) → total g n + g n ≡ total f n + f n + 1
    go rest (yes z) =
        let a : g n ≡ g m = ap g z in
        let b : f n ≡ f m = ap f z in
        omega (arith, total_same g f n (λ j r. h j (omega arith)))
    go rest (no z) = omega (arith, rest (omega arith), h n z)
