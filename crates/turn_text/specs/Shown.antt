-- An event's line, of what is shown of the acting node.
use Rattle.std.specs.Prelude.{List, ℕ}
use Rattle.text.specs.Text.{row_text}
use Rattle.turn_text.specs.declared.Shown.{Shown}

abbrev pub shown_text : ℕ → ℕ → Shown → List ℕ
shown_text actor answer n = row_text actor answer n.phase n.pass n.dim n.flag n.busy
