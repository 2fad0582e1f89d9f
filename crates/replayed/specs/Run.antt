-- A replay that ends well as a run (rule K8).
use Rattle.std.specs.Prelude.{◌≡◌, List, map, ℕ}
use Rattle.base.specs.Choice.{list}
use Rattle.items.specs.declared.Item.{Item}
use Rattle.line_forms.specs.declared.Line.{Line}
use Rattle.recording.specs.Recording.{Recording, event_count, recording_in}
use Rattle.replay_parts.specs.Events.{line_of, answer_of}
use Rattle.replays.specs.Replay.{replay_answer}
use Rattle.rehearsed.specs.Run.{Told, IsRun}

-- an event of a recording: its line, and the answer that stands with it
pub record Recorded : Type 0 where
  pub line : Line
  pub answer : ℕ

abbrev pub recorded : Recording → List Recorded
recorded r = list 0 (event_count r) (λ i. record { line = line_of r i; answer = answer_of r i })

-- the events, as they were played: with their lines and answers they are those of the recording; and without those
-- answered 15 they are a run of its board with these answers, for which rule P4 and rule P5 hold after each
pub record IsReplay (r : Recording) : Type 0 where
  pub told : List Told
  pub same : map (λ t. record { line = t.line; answer = t.answer }) told ≡ recorded r
  pub is_run : IsRun r.nodes told

-- FOR EVERY RECORDING and whatever is lent
abbrev pub EveryReplay : Type 0
EveryReplay =
    (bs : List ℕ) (items : List Item) (bytes : List ℕ) → (replay_answer bs items bytes).why ≡ 0
    → IsReplay (recording_in bs)
