-- The tests of a step: the room for a frame and for the sums.
use Rattle.std.specs.Prelude.{Bool, ℕ, ltb, leb, eqb}
use Rattle.base.specs.Choice.{both}
use Rattle.base.specs.Limits.{width}
use Rattle.layout.specs.Places.{first_words, sum_words}

-- so many words are those of a pass 1 frame of dimension k on a board of p dimensions, and so many have its sums
abbrev pub first_fits : ℕ → ℕ → ℕ → ℕ → Bool
first_fits p k words room =
    both (ltb k p) (both (leb p width) (both (eqb words (first_words p k)) (leb (sum_words p) room)))
