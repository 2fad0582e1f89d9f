-- How many nodes a script tells, and how many sections its events have (rule K9).
use Rattle.std.specs.Prelude.{ℕ, ◌+◌, ◌-◌, ◌/◌}
use Rattle.line_forms.specs.declared.Line.{Line}
use Rattle.line_forms.specs.declared.Line.TheVariants.{Nodes, Sends, Delivers, Idles, Calls, Bad}

-- so many events in sections of 500, the last of the rest; no events are one section without
abbrev pub sections_for : ℕ → ℕ
sections_for events = (events - 1) / 500 + 1

-- the node count of a script, by its first line; 0 where it tells none
abbrev pub nodes_by : Line → ℕ
nodes_by (Nodes P) = P
nodes_by (Sends kind a b) = 0
nodes_by (Delivers a b) = 0
nodes_by (Idles a) = 0
nodes_by (Calls a) = 0
nodes_by Bad = 0
