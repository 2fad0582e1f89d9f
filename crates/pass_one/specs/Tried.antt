-- The clauses of a step of pass 1 over lent words, and the own sums with a frame added.
use Rattle.std.specs.Prelude.{◌≡◌, Bool, true, false, List, [], ◌∷◌, ℕ, length}
use Rattle.base.specs.Choice.{choose}
use Rattle.base.specs.Limits.{Limits}
use Rattle.node.specs.Agree.{first_clauses, all_hold}
use Rattle.layout.specs.Held.{first_from, sum_of}
use Rattle.walk_tests.specs.Tests.{first_fits}
use Rattle.adding.specs.Adding.{Added}

-- where the words are no such frame's, none is stored
abbrev pub first_tried : Limits → List ℕ → List ℕ → ℕ → ℕ → List Bool
first_tried L ws sums p k =
    choose (first_fits p k (length ws) (length sums)) (first_clauses L p k (sum_of p sums) (first_from ws p k 0)) (false ∷ [])

-- a step that agrees is passed, and the numbers of its frame are then in the sums
pub record PassedBy (L : Limits) (ws : List ℕ) (p k : ℕ) (before after : List ℕ) (r : Bool) : Type 0 where
  pub ok : r ≡ all_hold (first_tried L ws before p k)
  pub sums : r ≡ true → Added p k (first_from ws p k 0) before after
  pub length : length after ≡ length before
