-- A frame of pass 1 put into lent bytes: its two pieces, and how many numbers it has.
use mathlib.Core.Path.{◌≡◌}
use mathlib.Core.List.{List, ◌++◌}
use Prim.Native.Nat.{ℕ, ◌+◌, ◌-◌, ◌*◌, ◌≤◌}
use native.Mathlib.Omega.{arith}
use lib.ListN.{length, length-append}
use Rattle.frame.specs.Numbers.{bytes_of}
use Rattle.frame.specs.Parts.{pasted}
use Rattle.layout.specs.Places.{sum_words}
use Rattle.wire.specs.Wire.{put_at, put_numbers}
use Rattle.wire.proofs.Putting.{one_put, next_put, length_part}
use Rattle.due_frame.specs.Frames.{sent_part, taken_part, first_numbers}

module _ (buf head : List ℕ) (four : length head ≡ 4) where
  pub two_put : (xs ys : List ℕ) (at : ℕ) → at ≡ 4 + 4 * length xs → 4 + 4 * length xs + 4 * length ys ≤ length buf
      → put_numbers (put_numbers (put_at buf 0 head) 4 xs) at ys ≡ pasted buf 0 (head ++ bytes_of (xs ++ ys))
  two_put xs ys at e h = next_put buf head four _ xs ys at (one_put buf head four xs (omega arith)) e h

-- how many numbers a frame of pass 1 has
pub length_first : (sums : List ℕ) (p k : ℕ) → k ≤ p → sum_words p ≤ length sums
    → length (first_numbers sums p k) ≡ sum_words (p - k)
length_first sums p k a b =
    omega (
      arith,
      length-append (sent_part sums p k) (taken_part sums p k),
      length_part sums k (p - k) (omega arith),
      length_part sums (k + p) (sum_words p - (k + p)) (omega arith),
    )
