-- Frames put into lent bytes.
use Rattle.std.specs.Prelude.{List, ℕ, ◌+◌, ◌*◌, leb, length, take, drop}
use Rattle.base.specs.Choice.{choose}
use Rattle.frame.specs.Numbers.{bytes_of}
use Rattle.frame.specs.Parts.{pasted}

-- bytes with others from a place on; they stay where there is no room
abbrev pub put_at : List ℕ → ℕ → List ℕ → List ℕ
put_at buf at bs = choose (leb (at + length bs) (length buf)) (pasted buf at bs) buf

-- bytes with numbers from a place on
abbrev pub put_numbers : List ℕ → ℕ → List ℕ → List ℕ
put_numbers buf at ws = choose (leb (at + 4 * length ws) (length buf)) (pasted buf at (bytes_of ws)) buf

-- so many words from a place on
abbrev pub part : List ℕ → ℕ → ℕ → List ℕ
part l at count = take count (drop at l)
