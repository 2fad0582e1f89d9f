-- What the reader asks of places and of bytes, over numbers alone: arithmetic is dear where all that a function knows is in scope.
use Prim.Native.Nat.{ℕ, ◌+◌, ◌*◌, ◌≤◌, ◌<◌}
use native.Mathlib.Omega.{arith}
use mir.Syntax.{w32, w64}
use mir.Val.{Fits}
use Rattle.wire_read.specs.Read.{most_numbers}

-- the four bytes at a place, of n
pub record Four (at n : ℕ) : Type 0 where
  pub first : at < n
  pub second : at + 1 < n
  pub third : at + 2 < n
  pub fourth : at + 3 < n
  pub second_fits : Fits w64 (at + 1)
  pub third_fits : Fits w64 (at + 2)
  pub fourth_fits : Fits w64 (at + 3)

pub four : (at n : ℕ) → at + 4 ≤ n → n < 18446744073709551616 → Four at n
four at n h l =
    record {
      first = omega arith;
      second = omega arith;
      third = omega arith;
      fourth = omega arith;
      second_fits = record { fits = omega arith };
      third_fits = record { fits = omega arith };
      fourth_fits = record { fits = omega arith };
    }

-- the number that four bytes make
module _ (a b c d : ℕ) (la : a < 256) (lb : b < 256) where
  pub two_scaled : Fits w32 (256 * b)
  two_scaled = record { fits = omega arith }

  pub two : Fits w32 (a + 256 * b)
  two = record { fits = omega arith }

  pub three_scaled : c < 256 → Fits w32 (65536 * c)
  three_scaled lc = record { fits = omega arith }

  pub three : c < 256 → Fits w32 (a + 256 * b + 65536 * c)
  three lc = record { fits = omega arith }

  pub all_scaled : d < 256 → Fits w32 (16777216 * d)
  all_scaled ld = record { fits = omega arith }

  pub all : c < 256 → d < 256 → Fits w32 (a + 256 * b + 65536 * c + 16777216 * d)
  all lc ld = record { fits = omega arith }

-- the bytes of so many numbers
pub record Sized (count : ℕ) : Type 0 where
  pub scaled : Fits w32 (4 * count)
  pub whole : Fits w32 (4 + 4 * count)
  pub wide : Fits w64 (4 + 4 * count)

pub sized : (count : ℕ) → count ≤ most_numbers → Sized count
sized count h =
    record { scaled = record { fits = omega arith }; whole = record { fits = omega arith }; wide = record { fits = omega arith } }
