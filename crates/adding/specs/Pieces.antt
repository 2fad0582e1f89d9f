-- Definitions that only the contracts of private functions cite: numbers added one by one.
use Rattle.std.specs.Prelude.{◌≡◌, Bool, true, false, List, ℕ, ◌+◌, ◌≤◌, ◌<◌, leb, length, set}
use Rattle.base.specs.Choice.{choose}
use Rattle.node.specs.Sums.{Field, sent_in, taken_in, all_sent, all_taken, number}
use Rattle.node.specs.declared.Stored.{Stored}
use Rattle.layout.specs.Places.{sum_issued}
use Rattle.layout.specs.Held.{word, sum_of}

-- a number of a frame added to a sum, where that is then within the limit
pub record AddedAt (before : List ℕ) (to : ℕ) (ws : List ℕ) (from limit : ℕ) (after : List ℕ) (r : Bool) : Type 0 where
  pub ok : r ≡ leb (word before to + word ws from) limit
  pub sums : after ≡ choose r (set before to (word before to + word ws from)) before

-- a place outside of a run
abbrev pub Apart : ℕ → ℕ → ℕ → Type 0
Apart to count j = (j < to → ⊥) → to + count ≤ j

-- a run of numbers added to a run of sums, up to the first sum that would come above the limit
pub record AddedRun (before : List ℕ) (to : ℕ) (ws : List ℕ) (from count limit : ℕ) (after : List ℕ) (r : Bool) : Type 0 where
  pub within : r ≡ true → (i : ℕ) → i < count → word before (to + i) + word ws (from + i) ≤ limit
  pub over : r ≡ false → ((i : ℕ) → i < count → word before (to + i) + word ws (from + i) ≤ limit) → ⊥
  pub inside : r ≡ true → (i : ℕ) → i < count → word after (to + i) ≡ word before (to + i) + word ws (from + i)
  pub others : r ≡ true → (j : ℕ) → Apart to count j → word after j ≡ word before j
  pub length : length after ≡ length before

-- a total
abbrev pub IsTotal : Field → Type 0
IsTotal (sent_in j) = ⊥
IsTotal (taken_in j) = ⊥
IsTotal all_sent = Unit {0}
IsTotal all_taken = Unit {0}

-- the totals of a frame added to the sums, up to the first sum that would come above the limit
pub record AddedTotals (p : ℕ) (x : Stored) (limit : ℕ) (before after : List ℕ) (r : Bool) : Type 0 where
  pub within : r ≡ true → (f : Field) → IsTotal f → sum_of p before f + number x f ≤ limit
  pub over : r ≡ false → ((f : Field) → IsTotal f → sum_of p before f + number x f ≤ limit) → ⊥
  pub added : r ≡ true → (f : Field) → IsTotal f → sum_of p after f ≡ sum_of p before f + number x f
  pub others : r ≡ true → (j : ℕ) → j < sum_issued p → word after j ≡ word before j
  pub length : length after ≡ length before
