-- The events of a script that was played, each with the answer that was printed for it (rule K9).
use Rattle.std.specs.Prelude.{List, [], ◌++◌, ℕ, zero, suc, ◌+◌, ltb, leb, length, take, drop}
use Rattle.base.specs.Choice.{choose}
use Rattle.line_parts.specs.Parts.{is_number, value_after}
use Rattle.line_forms.specs.Forms.{before}
use Rattle.script.specs.Script.{line_at}
use Rattle.event_bytes.specs.Bytes.{event_bytes}

-- ---- The answer that is printed

-- of a printed line: the number between its first blank and its second; 0 where there is none
unfoldable pub answer_of : List ℕ → ℕ
answer_of line =
    let rest = drop (before 32 line + 1) line in
    let part = take (before 32 rest) rest in
    choose (is_number part) (value_after 0 part) 0

-- of a text from a place on: its first line, and where the next begins, or the text's end
abbrev pub line_from : List ℕ → ℕ → List ℕ
line_from text from = take (before 10 (drop from text)) (drop from text)

abbrev pub next_from : List ℕ → ℕ → ℕ
next_from text from =
    let n = before 10 (drop from text) in
    choose (ltb (from + n) (length text)) (from + n + 1) (length text)

-- where a text says why the play stopped: at the only letter s after its first line; its end where there is none
unfoldable pub stop_at : List ℕ → ℕ
stop_at text = let at = next_from text 0 in at + before 115 (drop at text)

-- ---- All events

-- the lines of a script from a place on, at most so many, with those of the printed text from its place on
unfoldable pub events_from : List ℕ → List ℕ → ℕ → ℕ → ℕ → List ℕ
events_from script text zero at from = []
events_from script text (suc most) at from =
    let p = line_at script at in
    choose (leb (length script) at) []
    (event_bytes p.line (answer_of (line_from text from)) ++ events_from script text most p.next (next_from text from))

-- those after the first line of each
unfoldable pub events_of : List ℕ → List ℕ → List ℕ
events_of script text = events_from script text (length script) (line_at script 0).next (next_from text 0)
