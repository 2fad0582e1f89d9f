-- What is printed first.
use Rattle.std.specs.Prelude.{List, [], ◌++◌, ℕ, eqb}
use Rattle.base.specs.Choice.{choose}
use Rattle.text.specs.Text.{header, stop_text}

-- the header, and the line that stops the play, if one does
unfoldable pub opening_text : ℕ → ℕ → List ℕ
opening_text why line = header ++ choose (eqb why 0) [] (stop_text why line)
