-- The link that a line of a script delivers on.
use Rattle.std.specs.Prelude.{◌%◌}
use Rattle.line_forms.specs.declared.Line.{Line}
use Rattle.line_forms.specs.declared.Line.TheVariants.{Nodes, Sends, Delivers, Idles, Calls, Bad}
use Rattle.line_links.specs.declared.Ends.{Ends}

-- its ends, as bytes
abbrev pub ends_of : Line → Ends
ends_of (Nodes P) = record { from = 0; to = 0 }
ends_of (Sends kind a b) = record { from = 0; to = 0 }
ends_of (Delivers a b) = record { from = a % 256; to = b % 256 }
ends_of (Idles a) = record { from = 0; to = 0 }
ends_of (Calls a) = record { from = 0; to = 0 }
ends_of Bad = record { from = 0; to = 0 }
