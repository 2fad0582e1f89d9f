-- How a script opens.
use Rattle.std.specs.Prelude.{List, ℕ, ltb, eqb, length}
use Rattle.base.specs.Choice.{choose, either}
use Rattle.base.specs.Refusal.{number}
use Rattle.base.specs.declared.Refusal.{Refusal}
use Rattle.script.specs.Script.{line_at}
use Rattle.line_forms.specs.declared.Line.{Line}
use Rattle.line_forms.specs.declared.Line.TheVariants.{Nodes, Sends, Delivers, Idles, Calls, Bad}
use Rattle.board_states.specs.States.{opening}
use Rattle.opening.specs.declared.Opened.{Opened}

-- nothing is played
abbrev pub shut : ℕ → ℕ → ℕ → Opened
shut at why line = record { stage = opening 0; at = at; why = why; line = line }

abbrev pub opened_by : ℕ → ℕ → Line → Opened
opened_by len next (Nodes P) =
    choose (either (eqb P 0) (ltb 16 P)) (shut len (number Refusal.Board) 1)
    (record { stage = opening P; at = next; why = 0; line = 0 })
opened_by len next (Sends kind a b) = shut len (number Refusal.Script) 1
opened_by len next (Delivers a b) = shut len (number Refusal.Script) 1
opened_by len next (Idles a) = shut len (number Refusal.Script) 1
opened_by len next (Calls a) = shut len (number Refusal.Script) 1
opened_by len next Bad = shut len (number Refusal.Script) 1

unfoldable pub opened : List ℕ → Opened
opened script =
    let first = line_at script 0 in
    choose (ltb 4096 (length script)) (shut (length script) (number Refusal.Script) 0)
    (opened_by (length script) first.next first.line)
