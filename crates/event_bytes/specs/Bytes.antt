-- The bytes of an event (rule K9).
use Rattle.std.specs.Prelude.{List, [], ◌∷◌, ℕ, ◌%◌}
use Rattle.base.specs.declared.Kind.{Kind}
use Rattle.base.specs.declared.Kind.TheVariants.{Job, Note}
use Rattle.line_forms.specs.declared.Line.{Line}
use Rattle.line_forms.specs.declared.Line.TheVariants.{Nodes, Sends, Delivers, Idles, Calls, Bad}

abbrev pub letter_of : Kind → ℕ
letter_of Job = 115
letter_of Note = 116

abbrev pub four_of : ℕ → ℕ → ℕ → ℕ → List ℕ
four_of letter a b answer = letter ∷ (a % 256) ∷ (b % 256) ∷ (answer % 256) ∷ []

-- of a line that is no event, none
unfoldable pub event_bytes : Line → ℕ → List ℕ
event_bytes (Nodes P) answer = []
event_bytes (Sends kind a b) answer = four_of (letter_of kind) a b answer
event_bytes (Delivers a b) answer = four_of 100 a b answer
event_bytes (Idles a) answer = four_of 105 a 0 answer
event_bytes (Calls a) answer = four_of 98 a 0 answer
event_bytes Bad answer = []
