-- What a struct or bytes that are handed always are, by their types.
use Rattle.std.specs.Prelude.{◌≡◌, ℕ, ◌<◌, List, length, slice_index}
use Rattle.base.specs.Limits.{width}
use Rattle.frame.specs.declared.Frame.{Frame}

-- a tally of each kind for each shell
pub record Shaped (f : Frame) : Type 0 where
  pub sent : length f.sent ≡ width
  pub taken : length f.taken ≡ width

abbrev pub Bytes : List ℕ → Type 0
Bytes bs = (i : ℕ) → i < length bs → slice_index bs i < 256
