-- Definitions that only the contracts of private functions cite: numbers beside their sums, and a frame that is stored.
use Rattle.std.specs.Prelude.{◌≡◌, Bool, false, List, ℕ, suc, ◌+◌, ◌-◌, leb, length}
use Rattle.base.specs.Choice.{both, every}
use Rattle.base.specs.Limits.{Limits, field_limit}
use Rattle.frame.specs.Frame.{taken_number}
use Rattle.node.specs.Sums.{Field, sent_in, taken_in, all_sent, all_taken, number}
use Rattle.node.specs.Agree.{first_clauses, first_failing}
use Rattle.node.specs.declared.Stored.{Stored}
use Rattle.layout.specs.Held.{first_from, sum_of}
use Rattle.stored.specs.Held.{low_after}
use Rattle.look_tests.specs.Tests.{excess}
use Rattle.look.specs.declared.Look.{Look}
use Rattle.look.specs.declared.Totals.{Totals}

-- the excess of a number of a frame beside the own sum is at most so much
abbrev pub at_most : ℕ → (Field → ℕ) → Stored → ℕ → Field → Bool
at_most limit own x most f = leb (excess limit (own f) (number x f)) most

-- that of both numbers of shell m, and that of both totals
abbrev pub shell_at_most : ℕ → (Field → ℕ) → Stored → ℕ → ℕ → Bool
shell_at_most limit own x most m = both (at_most limit own x most (sent_in m)) (at_most limit own x most (taken_in m))

abbrev pub totals_at_most : ℕ → (Field → ℕ) → Stored → ℕ → Bool
totals_at_most limit own x most = both (at_most limit own x most all_sent) (at_most limit own x most all_taken)

-- the larger excess of shell m: at most a number where both are
abbrev pub ShellWeighed : ℕ → ℕ → (Field → ℕ) → Stored → ℕ → Type 0
ShellWeighed limit m own x r = (most : ℕ) → leb r most ≡ shell_at_most limit own x most m

-- the largest excess of the shells above k, likewise
abbrev pub Weighed : ℕ → ℕ → ℕ → (Field → ℕ) → Stored → ℕ → Type 0
Weighed limit p k own x r = (most : ℕ) → leb r most ≡ every (suc k) (p - suc k) (shell_at_most limit own x most)

-- the larger excess of the totals, likewise, and their sums where it is 0
pub record TotalsAdded (limit : ℕ) (own : Field → ℕ) (x : Stored) (r : Totals) : Type 0 where
  pub excess : (most : ℕ) → leb r.excess most ≡ totals_at_most limit own x most
  pub issued : r.excess ≡ 0 → r.issued.0 ≡ own all_sent + number x all_sent
  pub received : r.excess ≡ 0 → r.received.0 ≡ own all_taken + number x all_taken

abbrev pub no_look : Look
no_look = record { ok = false; clause = 0; received = taken_number 0 }

-- a frame that is stored
pub record Judged (L : Limits) (ws sums : List ℕ) (p k : ℕ) (r : Look) : Type 0 where
  pub ok : r.ok ≡ low_after (field_limit L) ws 0 (length ws)
  pub clause : r.clause ≡ first_failing (first_clauses L p k (sum_of p sums) (first_from ws p k 0))
  pub total : r.clause ≡ 7 → r.received.0 ≡ sum_of p sums all_taken + number (first_from ws p k 0) all_taken
