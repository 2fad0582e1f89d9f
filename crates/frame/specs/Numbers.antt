-- Numbers in frames: four bytes, the low byte first (rule F2).
use Rattle.std.specs.Prelude.{ℕ, ◌+◌, ◌*◌, ◌/◌, ◌%◌, List, [], ◌∷◌, ◌++◌, slice_index}

unfoldable pub four_bytes : ℕ → List ℕ
four_bytes x = (x % 256) ∷ (x / 256 % 256) ∷ (x / 65536 % 256) ∷ (x / 16777216 % 256) ∷ []

-- the bytes of a sequence of numbers
unfoldable pub bytes_of : List ℕ → List ℕ
bytes_of [] = []
bytes_of (x ∷ xs) = four_bytes x ++ bytes_of xs

-- the number whose low byte is the one at a place
unfoldable pub word_at : List ℕ → ℕ → ℕ
word_at bs at = slice_index bs at + 256 * slice_index bs (at + 1) + 65536 * slice_index bs (at + 2) + 16777216 * slice_index bs (at + 3)
