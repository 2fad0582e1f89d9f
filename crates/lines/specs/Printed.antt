-- What is printed for a line of a script after the first.
use Rattle.std.specs.Prelude.{List, ℕ}
use Rattle.base.specs.Choice.{choose}
use Rattle.base.specs.Refusal.{number}
use Rattle.base.specs.declared.Refusal.{Refusal}
use Rattle.node.specs.declared.Node.{Node}
use Rattle.line_forms.specs.declared.Line.{Line}
use Rattle.board_states.specs.States.{node_at}
use Rattle.stage.specs.declared.Acted.{Acted}
use Rattle.text.specs.Text.{turn_text, stop_text}
use Rattle.turn_text.specs.declared.Shown.{Shown}
use Rattle.lines.specs.Told.{stops}

-- what is printed of a node
abbrev pub shown : Node → Shown
shown n = record { phase = n.phase; pass = n.pass; dim = n.dim; flag = n.flag; busy = n.busy }

-- what is printed for a line, by what became of it
abbrev pub line_text : Line → Acted → ℕ → List ℕ
line_text line r count =
    choose (stops line) (stop_text (number Refusal.Script) count)
    (turn_text r.actor r.answer (node_at r.stage r.actor))
