-- The numbers of a frame in lent bytes, copied into lent words.
use Rattle.std.specs.Prelude.{List, ℕ, ◌+◌, ◌*◌, leb, length}
use Rattle.base.specs.Choice.{choose, list}
use Rattle.base.specs.Limits.{width}
use Rattle.frame.specs.Frame.{number_at}

-- the most numbers that a frame has: sent and taken for each shell, and both totals
abbrev pub most_numbers : ℕ
most_numbers = 2 * width + 2

-- as many numbers of a frame as there are words; the words stay where the bytes have fewer
abbrev pub numbers_from : List ℕ → List ℕ → List ℕ
numbers_from bs ws = choose (leb (4 + 4 * length ws) (length bs)) (list 0 (length ws) (number_at bs)) ws
