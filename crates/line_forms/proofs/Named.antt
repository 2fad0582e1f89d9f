-- Lines that name nodes of a board.
use mathlib.Core.Bool.{Bool, false}
use Prim.Native.Nat.{ℕ}
use lib.Dec.{ltb}
use Rattle.base.specs.Choice.{both}
use Rattle.line_forms.specs.declared.Line.{Line}
use Rattle.line_forms.specs.declared.Line.TheVariants.{Nodes, Sends, Delivers, Idles, Calls, Bad}

-- whether a line is an event of a board of so many nodes
abbrev pub is_event : ℕ → Line → Bool
is_event size (Nodes P) = false
is_event size (Sends kind a b) = both (ltb a size) (ltb b size)
is_event size (Delivers a b) = both (ltb a size) (ltb b size)
is_event size (Idles a) = ltb a size
is_event size (Calls a) = ltb a size
is_event size Bad = false
