-- The sum of counts grows by one count at a time.
use mathlib.Core.Path.{◌≡◌, refl}
use mathlib.Core.List.{List, [], ◌∷◌}
use Prim.Native.Nat.{ℕ, ◌+◌, ◌<◌}
use native.Mathlib.Numerals.{add-one}
use native.Mathlib.Omega.{arith}
use lib.ListN.{length, get_or, take}
use lib.Seq.{take-suc}
use Rattle.recording.specs.Test.{sum}
use Rattle.recording.proofs.Sums.{sum_append}

sum_one : (x : ℕ) → sum (x ∷ []) ≡ x
unfolding sum
sum_one x = omega arith

pub sum_none : sum [] ≡ 0
unfolding sum
sum_none = refl

pub sum_more : (l : List ℕ) (i : ℕ) → i < length l → sum (take (i + 1) l) ≡ sum (take i l) + get_or l i 0
sum_more l i h = rw (add-one, take-suc l i 0 h, sum_append, sum_one)
