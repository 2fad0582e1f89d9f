-- What the proof asks of the tree: the run of dimension k that holds a is the nodes from low k a on, size k a of them.
use mathlib.Core.Path.{◌≡◌}
use mathlib.Core.Option.{Option, none, some}
use Prim.Native.Nat.{ℕ, suc, ◌+◌, ◌≤◌, ◌<◌}
use native.Mathlib.Decide.{dec_le, dec_lt}
use native.Mathlib.Omega.{arith}
use Rattle.cycle.proofs.Sums.{sum, sum_split}

-- the run of a in dimension k + 1 is that of a and that of w in dimension k, side by side
pub data Meet (low size : ℕ → ℕ → ℕ) (k a w : ℕ) : Type 0 where
  right : low k w ≡ low k a + size k a → low (suc k) a ≡ low k a → size (suc k) a ≡ size k a + size k w
      → Meet low size k a w
  left : low k a ≡ low k w + size k w → low (suc k) a ≡ low k w → size (suc k) a ≡ size k w + size k a
      → Meet low size k a w

pub record Tree (P p : ℕ) : Type 0 where
  pub low : ℕ → ℕ → ℕ
  pub size : ℕ → ℕ → ℕ
  pub awaited : ℕ → ℕ → Option ℕ
  pub low_zero : (a : ℕ) → a < P → low 0 a ≡ a
  pub size_zero : (a : ℕ) → a < P → size 0 a ≡ 1
  pub low_top : (a : ℕ) → a < P → low p a ≡ 0
  pub size_top : (a : ℕ) → a < P → size p a ≡ P
  pub below : (k a w : ℕ) → k < p → a < P → awaited k a ≡ some w → w < P
  pub alone : (k a : ℕ) → k < p → a < P → awaited k a ≡ none → (low (suc k) a ≡ low k a) × (size (suc k) a ≡ size k a)
  pub meet : (k a w : ℕ) → k < p → a < P → awaited k a ≡ some w → Meet low size k a w
  pub positive : 0 < p
  pub self : (k a : ℕ) → a < P → (low k a ≤ a) × (a < low k a + size k a)
  pub same : (k a y : ℕ) → a < P → (low k a ≤ y) × (y < low k a + size k a)
      → (y < P) × (low k y ≡ low k a) × (size k y ≡ size k a)
  pub not_last : (k a : ℕ) → a < P → suc k ≡ p → awaited k a ≡ none → ⊥

pub meet_sum : (low size : ℕ → ℕ → ℕ) (k a w : ℕ) (f : ℕ → ℕ) → Meet low size k a w
    → sum f (low (suc k) a) (size (suc k) a) ≡ sum f (low k a) (size k a) + sum f (low k w) (size k w)
meet_sum low size k a w f (right i j l) = rw (j, l, i) (sum_split f (low k a) (size k a) (size k w))
meet_sum low size k a w f (left i j l) =
    let e = sum_split f (low k w) (size k w) (size k a) in
    rw (j, l, i) (omega arith)

-- who is in the joined run is in the one or the other, and not in both
pub meet_in : (low size : ℕ → ℕ → ℕ) (k a w y : ℕ) → Meet low size k a w → low (suc k) a ≤ y
    → y < low (suc k) a + size (suc k) a
    → ((low k w ≤ y) × (y < low k w + size k w) → ⊥) → (low k a ≤ y) × (y < low k a + size k a)
meet_in low size k a w y (right i j l) b c n = go (dec_le (low k w) y)
  where
    go : Dec (low k w ≤ y) → (low k a ≤ y) × (y < low k a + size k a)
    go (yes h) = absurd (n (h, omega arith))
    go (no h) = omega arith
meet_in low size k a w y (left i j l) b c n = go (dec_lt y (low k w + size k w))
  where
    go : Dec (y < low k w + size k w) → (low k a ≤ y) × (y < low k a + size k a)
    go (yes h) = absurd (n (omega arith))
    go (no h) = omega arith

pub meet_apart : (low size : ℕ → ℕ → ℕ) (k a w y : ℕ) → Meet low size k a w → low k a ≤ y → y < low k a + size k a
    → (low k w ≤ y) × (y < low k w + size k w) → ⊥
meet_apart low size k a w y (right i j l) b c n = omega arith
meet_apart low size k a w y (left i j l) b c n = omega arith
