-- What the walk asks of the places of its words, over numbers alone: arithmetic is dear where all that a walk knows is in scope.
use mathlib.Core.Path.{◌≡◌}
use mathlib.Core.List.{List}
use Prim.Native.Nat.{ℕ, ◌+◌, ◌-◌, ◌*◌, ◌≤◌, ◌<◌}
use native.Mathlib.Omega.{arith}
use lib.ListN.{length}
use mir.Syntax.{w32, w64}
use mir.Val.{Fits}
use Rattle.base.specs.Limits.{width}
use Rattle.node.specs.Sums.{dims}
use Rattle.layout.specs.Places.{first_words, second_words, step_words, at_first, state_words, most_words, sum_words}
use Rattle.layout.specs.Held.{unpacked}
use Rattle.adding.specs.Adding.{Framed}
use Rattle.scanned.proofs.Lent.{inside, near}

pub board_fits : (p : ℕ) → p ≤ width → Fits w32 (2 * p)
board_fits p b = record { fits = omega arith }

pub tallies_fit : (p : ℕ) → p ≤ width → Fits w32 (8 + 2 * p)
tallies_fit p b = record { fits = omega arith }

-- total taken in n words of sums
pub record Total (p n : ℕ) : Type 0 where
  pub place : Fits w32 (2 * p + 1)
  pub wide : Fits w64 (2 * p + 1)
  pub scaled : Fits w64 ((2 * p + 1) * 4)
  pub within : 2 * p + 1 < n

pub total : (p n : ℕ) → p ≤ width → sum_words p ≤ n → Total p n
total p n b w =
    record {
      place = record { fits = omega arith };
      wide = record { fits = omega arith };
      scaled = record { fits = omega arith };
      within = omega arith;
    }

-- word i of n that are read one after another
pub record Read (i n : ℕ) : Type 0 where
  pub wide : Fits w64 i
  pub scaled : Fits w64 (i * 4)
  pub next : Fits w32 (i + 1)
  pub less : n - (i + 1) < n - i

pub read : (i n : ℕ) → i < n → n ≤ most_words → Read i n
read i n h m =
    record {
      wide = record { fits = omega arith };
      scaled = record { fits = omega arith };
      next = record { fits = omega arith };
      less = omega arith;
    }

-- the words of a frame have a mark, and are no more than a state's
pub framed_long : (ws sums : List ℕ) (p k : ℕ) → Framed ws sums p k → (0 < length ws) × (length ws ≤ most_words)
framed_long ws sums p k f = (omega (arith, f.long), omega (arith, f.long, f.few))

-- dimension k of n words: its frames begin at `at`, and that of pass 2 at `middle`
pub record Placed (p k at middle n : ℕ) : Type 0 where
  pub below : k ≤ p
  pub shells : Fits w32 (2 * (p - k))
  pub count : Fits w32 (first_words p k)
  pub middle_fits : Fits w32 middle
  pub end_fits : Fits w32 (middle + second_words)
  pub wide_at : Fits w64 at
  pub wide_middle : Fits w64 middle
  pub wide_end : Fits w64 (middle + second_words)
  pub scaled_at : Fits w64 (at * 4)
  pub scaled_middle : Fits w64 (middle * 4)
  pub first_from : at ≤ middle
  pub first_to : middle ≤ n
  pub second_from : middle ≤ middle + second_words
  pub second_to : middle + second_words ≤ n
  pub next : Fits w32 (k + 1)
  pub less : p - (k + 1) < p - k

module _ (p k at n : ℕ) (low : k < p) (bound : p ≤ width) (small : at + step_words p k ≤ most_words)
    (within : at + step_words p k ≤ n) where
  by_numbers : Placed p k at (at + first_words p k) n
  by_numbers =
      record {
        below = omega arith;
        shells = record { fits = omega arith };
        count = record { fits = omega arith };
        middle_fits = record { fits = omega arith };
        end_fits = record { fits = omega arith };
        wide_at = record { fits = omega arith };
        wide_middle = record { fits = omega arith };
        wide_end = record { fits = omega arith };
        scaled_at = record { fits = omega arith };
        scaled_middle = record { fits = omega arith };
        first_from = omega arith;
        first_to = omega arith;
        second_from = omega arith;
        second_to = omega arith;
        next = record { fits = omega arith };
        less = omega arith;
      }

module _ (ws : List ℕ) (p k at : ℕ) (same : p ≡ dims (unpacked ws)) (place : at ≡ at_first (dims (unpacked ws)) k)
    (low : k < p) (bound : dims (unpacked ws) ≤ width) (long : state_words (dims (unpacked ws)) ≤ length ws) where
  pub placed : Placed p k at (at + first_words p k) (length ws)
  placed =
      let d : k < dims (unpacked ws) = omega arith in
      by_numbers p k at (length ws) low (omega arith) (omega (arith, near ws k d bound long)) (omega (arith, inside ws k d bound long))
