-- What the reader of recordings answers and leaves (rule K5).
use Rattle.std.specs.Prelude.{Bool, List, [], ◌∷◌, ℕ, ltb, length}
use Rattle.base.specs.Choice.{either}
use Rattle.base.specs.Refusal.{Answered, refused, found, when, in_order}
use Rattle.base.specs.declared.Refusal.{Refusal}
use Rattle.printing.specs.Put.{put}
use Rattle.recording.specs.Recording.{Recording, event_count, recording_in}
use Rattle.recording.specs.Test.{is_bad_in}
use Rattle.recording_read.specs.declared.Head.{Head}

abbrev pub head_of : Recording → Head
head_of r = record { nodes = r.nodes; sections = length r.counts; events = event_count r }

-- what is lent is too short for the counts, or for the events' bytes
abbrev pub is_short : Recording → ℕ → ℕ → Bool
is_short r counts events = either (ltb counts (length r.counts)) (ltb events (length r.events))

-- with so many words lent for counts, and so many bytes for events
abbrev pub read_answer : List ℕ → ℕ → ℕ → Answered Head
read_answer bs counts events =
    in_order refused
    (when (is_bad_in bs) Refusal.Recording ∷ when (is_short (recording_in bs) counts events) Refusal.Buffer ∷ [])
    (found (head_of (recording_in bs)))

-- lent memory with what is read at its start; refused, it stays
abbrev pub filled : List ℕ → List ℕ → Answered Head → List ℕ
filled l new (refused x) = l
filled l new (found head) = put l 0 new
