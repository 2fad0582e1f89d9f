-- Laws of sums over a row of numbers, and of numbers in a row.
use mathlib.Core.Path.{◌≡◌, ap, ◌∙◌}
use mathlib.Core.List.{List, ◌∷◌, ◌++◌}
use mathlib.Core.Logic.{◌≢◌}
use Prim.Native.Nat.{ℕ, zero, suc, ◌+◌, ◌<◌, min}
use native.Mathlib.Decide.{dec_lt, ℕ_discrete}
use native.Mathlib.Nat.{add-zero, zero-add}
use native.Mathlib.Omega.{arith}
use lib.Dec.{ltb}
use lib.ListN.{length, get_or, set}
use lib.Seq.{get_or-set_same, get_or-set_other}
use borrow.Author.Tests.{lt-ltb, le-ltb}
use Rattle.base.specs.Choice.{choose, list}
use Rattle.node.specs.Sums.{total}
use Rattle.node.proofs.Totals.{total_same}

-- what grows by the numbers of a row, one after the other, is its beginning and their total
pub grows : (h g : ℕ → ℕ) → ((k : ℕ) → h (suc k) ≡ h k + g k) → (k : ℕ) → h k ≡ h 0 + total g k
grows h g more zero = omega arith
grows h g more (suc k) = omega (arith, more k, grows h g more k)

-- the numbers from r on are left out
pub total_before : (g : ℕ → ℕ) (r k : ℕ) → total (λ j. choose (ltb j r) (g j) 0) k ≡ total g (min k r)
total_before g r zero = let e : min 0 r ≡ 0 = omega arith in rw e
total_before g r (suc k) = go (total_before g r k) (dec_lt k r)
  where
    go : total (λ j. choose (ltb j r) (g j) 0) k ≡ total g (min k r) → Dec (k < r)
        → total (λ j. choose (ltb j r) (g j) 0) (suc k) ≡ total g (min (suc k) r)
    go rest (yes l) =
        let u : min k r ≡ k = omega arith in
        let v : min (suc k) r ≡ suc k = omega arith in
        rw (v, lt-ltb k r l) (ap (λ x. x + g k) (rest ∙ ap (total g) u))
    go rest (no l) =
        let u : min (suc k) r ≡ min k r = omega arith in
        rw (u, le-ltb k r (omega arith)) (add-zero _ ∙ rest)

-- one number is another
total_other : (g h : ℕ → ℕ) (j k : ℕ) → j < k → ((i : ℕ) → i ≢ j → h i ≡ g i) → total h k + g j ≡ total g k + h j
total_other g h j zero l e = absurd (omega arith)
total_other g h j (suc k) l e = go (λ r. total_other g h j k r e) (ℕ_discrete k j)
  where
    go : (j < k → total h k + g j ≡ total g k + h j) → Dec (k ≡ j) → total h (suc k) + g j ≡ total g (suc k) + h j
    go rest (yes z) = omega (arith, ap g z, ap h z, total_same h g k (λ i r. e i (omega arith)))
    go rest (no z) = omega (arith, rest (omega arith), e k z)

-- sums of what the values of a row add: with another value in one place it is its number that is other
pub counted_once : {A : Type 0} (c : ℕ → A → ℕ) (l : List A) (d : A) (j k : ℕ) (x : A) (z s t : ℕ)
    → j < length l → j < k
    → t ≡ z + total (λ i. c i (get_or (set l j x) i d)) k
    → s ≡ z + total (λ i. c i (get_or l i d)) k
    → t + c j (get_or l j d) ≡ s + c j x
counted_once c l d j k x z s t a b p q =
    omega (
      arith,
      ap (c j) (get_or-set_same l j x d a),
      total_other (λ i. c i (get_or l i d)) (λ i. c i (get_or (set l j x) i d)) j k b
          (λ i r. ap (c i) (get_or-set_other l j i x d r)),
    )

-- two rows side by side are one
pub list_join : (start a next b : ℕ) (f : ℕ → ℕ) → next ≡ start + a → list start a f ++ list next b f ≡ list start (a + b) f
list_join start zero next b f e = let z : next ≡ start = omega arith in rw (z, zero-add)
list_join start (suc a) next b f e =
    let z : suc a + b ≡ suc (a + b) = omega arith in
    rw z (ap (λ l. f start ∷ l) (list_join (suc start) a next b f (omega arith)))
