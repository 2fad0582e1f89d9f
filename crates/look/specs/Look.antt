-- The look at the frame of a position in pass 1, over lent words.
use Rattle.std.specs.Prelude.{◌≡◌, Bool, List, ℕ, ◌+◌, eqb, length}
use Rattle.base.specs.Choice.{both}
use Rattle.base.specs.Limits.{Limits, field_limit}
use Rattle.node.specs.Sums.{all_taken, number}
use Rattle.node.specs.Agree.{first_failing}
use Rattle.layout.specs.Held.{word, first_from, sum_of}
use Rattle.stored.specs.Held.{low_after}
use Rattle.walk_tests.specs.Tests.{first_fits}
use Rattle.pass_one.specs.Tried.{first_tried}
use Rattle.look.specs.declared.Look.{Look}

-- the words are those of a frame that is stored for dimension k, and its numbers are within the limit
abbrev pub is_stored : Limits → List ℕ → List ℕ → ℕ → ℕ → Bool
is_stored L ws sums p k =
    both (first_fits p k (length ws) (length sums))
    (both (eqb (word ws 0) 1) (low_after (field_limit L) ws 0 (length ws)))

pub record Looked (L : Limits) (ws sums : List ℕ) (p k : ℕ) (r : Look) : Type 0 where
  pub ok : r.ok ≡ is_stored L ws sums p k
  pub clause : r.clause ≡ first_failing (first_tried L ws sums p k)
  -- where all clauses hold
  pub total : r.clause ≡ 7 → r.received.0 ≡ sum_of p sums all_taken + number (first_from ws p k 0) all_taken
