-- The events of a recording, as the player takes them (rule K6).
use Rattle.std.specs.Prelude.{ℕ, eqb}
use Rattle.base.specs.Choice.{choose}
use Rattle.base.specs.declared.Kind.TheVariants.{Job, Note}
use Rattle.line_forms.specs.declared.Line.{Line}
use Rattle.line_forms.specs.declared.Line.TheVariants.{Sends, Delivers, Idles, Calls, Bad}
use Rattle.recording.specs.Recording.{Recording, event_byte}

-- the line of a script that says the same
abbrev pub line_by : ℕ → ℕ → ℕ → Line
line_by letter a b =
    choose (eqb letter 115) (Sends Job a b)
    (choose (eqb letter 116) (Sends Note a b)
    (choose (eqb letter 100) (Delivers a b)
    (choose (eqb letter 105) (Idles a) (choose (eqb letter 98) (Calls a) Bad))))

-- of event i: its line, and its answer
unfoldable pub line_of : Recording → ℕ → Line
line_of r i = line_by (event_byte r.events i 0) (event_byte r.events i 1) (event_byte r.events i 2)

unfoldable pub answer_of : Recording → ℕ → ℕ
answer_of r i = event_byte r.events i 3

-- as many events are to be played as before, or none after this one, whose answer differs
unfoldable pub limit_of : Recording → ℕ → ℕ → ℕ → ℕ
limit_of r i answer most = choose (eqb answer (answer_of r i)) most i
