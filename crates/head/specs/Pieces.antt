-- Definitions that only the contracts of private functions cite: the test of the head's words.
use Rattle.std.specs.Prelude.{◌≡◌, Bool, false, List, ℕ, ◌≤◌, ltb, leb, eqb, length}
use Rattle.base.specs.Choice.{both}
use Rattle.base.specs.Limits.{Limits}
use Rattle.tree.specs.Lookups.{bad_board}
use Rattle.survey.specs.Pieces.{head_test}
use Rattle.layout.specs.Places.{at_nodes, at_number, at_phase, at_busy, at_pass, at_dim, at_flag, at_agreed, state_words}
use Rattle.layout.specs.Held.{word, dims_of}

-- the words of the head are in the range of what they stand for, and the head passes
unfoldable pub head_tested : ℕ → ℕ → List ℕ → Bool
head_tested limit p ws =
    both (ltb (word ws at_phase) 256)
    (both (ltb (word ws at_busy) 2)
    (both (ltb (word ws at_flag) 2)
    (both (leb (word ws at_agreed) limit)
    (head_test p (word ws at_nodes) (word ws at_number) (word ws at_pass) (word ws at_dim) (eqb (word ws at_busy) 1)
    (eqb (word ws at_flag) 1)))))

-- enough words for a board of p dimensions
pub record Boarded (L : Limits) (ws : List ℕ) (p : ℕ) : Type 0 where
  pub board : bad_board L (word ws at_nodes) ≡ false
  pub dims : p ≡ dims_of ws
  pub long : state_words p ≤ length ws
