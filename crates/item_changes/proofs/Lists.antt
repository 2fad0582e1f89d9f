-- Lists of headers changed past their end, and the places of a list that a removal changes.
use Rattle.std.proofs.Common.{◌≡◌, refl, ap, List, [], ◌∷◌, Bool, true, false, ℕ, zero, suc, ◌≤◌, ◌<◌, ◌+◌, ◌-◌}
use Rattle.std.proofs.Common.{leb, length, get_or, set, arith}
use borrow.Author.Tests.{le-leb}
use Rattle.base.specs.Choice.{choose}
use Rattle.base.proofs.Laws.{choose_yes}
use Rattle.items.specs.declared.Item.{Item}
use Rattle.items.specs.Places.{no_item}
use Rattle.item_changes.specs.Places.{moved, removed, removed_within}

pub set_past : {X : Type 0} (ys : List X) (i : ℕ) (v : X) → length ys ≤ i → set ys i v ≡ ys
set_past [] i v h = refl
set_past (y ∷ ys) zero v h = absurd (omega (arith, h))
set_past (y ∷ ys) (suc i) v h = ap (◌∷◌ y) (set_past ys i v (omega (arith, h)))

-- to the last of n items, where there are places for so many, and otherwise nowhere
pub moves_all : (ys : List Item) (n at m : ℕ)
    → moved ys at (choose (leb n m) (n - 1) 0 - at) ≡ choose (leb n m) (removed ys n at) ys
unfolding moved
moves_all ys n at m = by_test (leb n m)
  where
    by_test : (t : Bool) → moved ys at (choose t (n - 1) 0 - at) ≡ choose t (removed ys n at) ys
    by_test true = let e : n - 1 - at ≡ n - (at + 1) = omega arith in ap (moved ys at) e
    by_test false = let e : 0 - at ≡ 0 = omega arith in ap (moved ys at) e

-- one item is copied down, of those up to the last; and where the last is reached
pub moves_one : (ys zs : List Item) (i last : ℕ) → i < last → zs ≡ set ys i (get_or ys (i + 1) no_item)
    → moved ys i (last - i) ≡ moved zs (i + 1) (last - (i + 1))
unfolding moved
moves_one ys zs i last h e =
    let one : last - i ≡ suc (last - (i + 1)) = omega arith in rw e (ap (moved ys i) one)

pub moves_none : (ys : List Item) (i last : ℕ) → last ≤ i → moved ys i (last - i) ≡ ys
unfolding moved
moves_none ys i last h = let e : last - i ≡ 0 = omega arith in ap (moved ys i) e

-- where there are places for all n
pub removed_within_lem : (ys : List Item) (n at : ℕ) → n ≤ length ys → removed_within ys n at ≡ removed ys n at
removed_within_lem ys n at h = choose_yes (removed ys n at) ys (le-leb n (length ys) h)
