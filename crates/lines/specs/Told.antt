-- A line of a script after the first, as the player takes it.
use Rattle.std.specs.Prelude.{Bool, true, false, List, ℕ, ltb, length}
use Rattle.base.specs.Choice.{choose, both}
use Rattle.script.specs.Script.{line_at}
use Rattle.line_forms.specs.declared.Line.{Line}
use Rattle.line_forms.specs.declared.Line.TheVariants.{Nodes, Sends, Delivers, Idles, Calls, Bad}
use Rattle.script.specs.declared.Parsed.{Parsed}

-- the line as a board of so many nodes takes it
abbrev pub taken : ℕ → Line → Line
taken size (Nodes P) = Bad
taken size (Sends kind a b) = choose (both (ltb a size) (ltb b size)) (Sends kind a b) Bad
taken size (Delivers a b) = choose (both (ltb a size) (ltb b size)) (Delivers a b) Bad
taken size (Idles a) = choose (ltb a size) (Idles a) Bad
taken size (Calls a) = choose (ltb a size) (Calls a) Bad
taken size Bad = Bad

abbrev pub stops : Line → Bool
stops (Nodes P) = true
stops (Sends kind a b) = false
stops (Delivers a b) = false
stops (Idles a) = false
stops (Calls a) = false
stops Bad = true

-- after a line that stops the play there is none
unfoldable pub told_at : List ℕ → ℕ → ℕ → Parsed
told_at script at size =
    let p = line_at script at in
    let line = taken size p.line in
    record { line = line; next = choose (stops line) (length script) p.next }
