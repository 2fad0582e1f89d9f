-- A frame put into a buffer, where there is room; and whether sums for one are there.
use Rattle.std.specs.Prelude.{Bool, List, ◌++◌, ℕ, ltb, leb, length, drop, Option, Some, None}
use Rattle.base.specs.Choice.{choose, both}
use Rattle.layout.specs.Places.{sum_words}

-- so many words have the sums of a board of p dimensions, which has dimension k
abbrev pub has_sums : ℕ → ℕ → ℕ → Bool
has_sums p k words = both (leb k p) (leb (sum_words p) words)

-- the length of bytes that are put into a buffer of so many, where they have room, and the buffer after it
abbrev pub put_length : List ℕ → ℕ → Option ℕ
put_length bytes room = choose (ltb room (length bytes)) None (Some (length bytes))

abbrev pub put_bytes : List ℕ → List ℕ → List ℕ
put_bytes bytes buf = choose (ltb (length buf) (length bytes)) buf (bytes ++ drop (length bytes) buf)
