-- The numbers of a frame of pass 1, by the sums of a board.
use Rattle.std.specs.Prelude.{List, ◌++◌, ℕ, ◌+◌, ◌-◌}
use Rattle.layout.specs.Places.{sum_words}
use Rattle.wire.specs.Wire.{part}

-- the own sums sent of shells k to p - 1
abbrev pub sent_part : List ℕ → ℕ → ℕ → List ℕ
sent_part sums p k = part sums k (p - k)

-- those taken, and both totals
abbrev pub taken_part : List ℕ → ℕ → ℕ → List ℕ
taken_part sums p k = part sums (k + p) (sum_words p - (k + p))

-- the numbers of a pass 1 frame
abbrev pub first_numbers : List ℕ → ℕ → ℕ → List ℕ
first_numbers sums p k = sent_part sums p k ++ taken_part sums p k
