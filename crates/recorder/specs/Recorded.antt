-- The recording of a script that was played (rule K9).
use Rattle.std.specs.Prelude.{List, ℕ, ◌-◌, ◌*◌, ◌/◌, min, length}
use Rattle.base.specs.Choice.{list}
use Rattle.script.specs.Script.{line_at}
use Rattle.recording.specs.Recording.{Recording, made}
use Rattle.script_counts.specs.Counts.{sections_for, nodes_by}
use Rattle.script_events.specs.Events.{events_of}

-- how many of so many events section i has
abbrev pub size_of : ℕ → ℕ → ℕ
size_of events i = min 500 (events - 500 * i)

unfoldable pub counts_for : ℕ → List ℕ
counts_for events = list 0 (sections_for events) (size_of events)

-- with the answers of the text that was printed
unfoldable pub recording_of : List ℕ → List ℕ → Recording
recording_of script text =
    let events = events_of script text in
    made (nodes_by (line_at script 0).line) (counts_for (length events / 4)) events
