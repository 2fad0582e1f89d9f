-- Lists of headers past their end, and the places of a list that a function looks at.
use Rattle.std.proofs.Common.{◌≡◌, refl, ap, List, [], ◌∷◌, ℕ, zero, suc, ◌≤◌, ◌<◌, ◌+◌, min, length, get_or}
use Rattle.std.proofs.Common.{Bool, true, false, not, cond, take, drop, add-one, unwrap_or, Some, None, drop-cons, ltb, arith}
use Rattle.std.specs.List.{prefix_len, position}
use borrow.Author.Tests.{ltb-false}
use lib.Seq.{length-take-le}
use Rattle.base.specs.Choice.{choose}
use Rattle.items.specs.declared.Item.{Item}
use Rattle.items.specs.Places.{no_item, on_link, place_from, oldest_at, oldest_within}

pub get_d_past : {X : Type 0} (ys : List X) (i : ℕ) (d : X) → length ys ≤ i → get_or ys i d ≡ d
get_d_past [] i d h = refl
get_d_past (y ∷ ys) zero d h = absurd (omega (arith, h))
get_d_past (y ∷ ys) (suc i) d h = get_d_past ys i d (omega (arith, h))

-- where there are places for all n
pub oldest_within_lem : (ys : List Item) (n a b : ℕ) → n ≤ length ys → oldest_within ys n a b ≡ oldest_at ys n a b
oldest_within_lem ys n a b h =
    let e : min n (length ys) ≡ n = omega arith in ap (λ (k : ℕ). place_from ys a b 0 k) e

-- the place that a search of the first items finds, from the first on or from i on
abbrev misses : ℕ → ℕ → Item → Bool
misses a b it = not (on_link it a b)

here : (ys : List Item) (i : ℕ) → i < length ys → drop i ys ≡ get_or ys i no_item ∷ drop (i + 1) ys
here ys i h = rw (add-one, drop-cons ys i no_item h)

place : (a b : ℕ) (ys : List Item) (i n : ℕ) → i + n ≤ length ys
    → i + prefix_len (misses a b) (take n (drop i ys)) ≡ place_from ys a b i n
unfolding place_from
place a b ys i zero h = omega arith
place a b ys i (suc n) h =
    rw (here ys i (omega arith))
    (go (on_link (get_or ys i no_item) a b) (prefix_len (misses a b) (take n (drop (i + 1) ys)))
    (place_from ys a b (i + 1) n) (place a b ys (i + 1) n (omega arith)))
  where
    go : (t : Bool) (m k : ℕ) → i + 1 + m ≡ k → i + cond (not t) (1 + m) 0 ≡ choose t i k
    go true m k e = omega arith
    go false m k e = omega arith

place_within : (a b : ℕ) (ys : List Item) (i n : ℕ) → place_from ys a b i n ≤ i + n
unfolding place_from
place_within a b ys i zero = omega arith
place_within a b ys i (suc n) = go (on_link (get_or ys i no_item) a b) (place_within a b ys (i + 1) n)
  where
    go : (t : Bool) {k : ℕ} → k ≤ i + 1 + n → choose t i k ≤ i + suc n
    go true h = omega arith
    go false h = omega arith

pub found : (a b : ℕ) (ys : List Item) (n : ℕ) → n ≤ length ys
    → unwrap_or (position (λ it. on_link it a b) (take n ys)) n ≡ place_from ys a b 0 n
found a b ys n h =
    let m = prefix_len (misses a b) (take n ys) in
    go (ltb m (length (take n ys))) (omega (arith, place a b ys 0 n (omega arith))) (ltb-false m (length (take n ys)))
  where
    go : (t : Bool) {m : ℕ} → m ≡ place_from ys a b 0 n → (t ≡ false → length (take n ys) ≤ m)
        → unwrap_or (cond t (Some m) None) n ≡ place_from ys a b 0 n
    go true e l = e
    go false e l = let k = l refl in let w = place_within a b ys 0 n in omega (arith, length-take-le n ys h)
