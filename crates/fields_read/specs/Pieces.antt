-- Definitions that only the contracts of private functions cite: the words of a head, and the dimension of a board.
use Rattle.std.specs.Prelude.{List, ◌∷◌, ℕ, ◌+◌, ◌-◌, ◌/◌, length, get_or}
use Rattle.base.specs.Choice.{list}
use Rattle.field_words.specs.Words.{at_issued, fields_end}

-- the words of a head, and no numbers yet
abbrev pub head_words : List ℕ → List ℕ
head_words bs = get_or bs 0 0 ∷ get_or bs 1 0 ∷ get_or bs 2 0 ∷ get_or bs 3 0 ∷ list 0 (fields_end - at_issued) (λ i. 0)

-- the dimension of the board of a frame, by its length
abbrev pub dims_by : List ℕ → ℕ
dims_by bs = get_or bs 2 0 + (length bs - 12) / 8
