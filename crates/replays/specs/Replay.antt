-- A recording played again on a fresh board, each answer held to the recorded one (rule K7).
use Rattle.std.specs.Prelude.{List, ℕ, zero, suc, ◌+◌, ltb, eqb}
use Rattle.base.specs.Choice.{choose}
use Rattle.base.specs.Refusal.{number}
use Rattle.base.specs.declared.Refusal.{Refusal}
use Rattle.recording.specs.Recording.{Recording, event_count, recording_in}
use Rattle.recording.specs.Test.{is_bad_in}
use Rattle.items.specs.declared.Item.{Item}
use Rattle.board_states.specs.States.{opening}
use Rattle.board_states.specs.declared.Stage.{Stage}
use Rattle.turns.specs.Events.{turn_of}
use Rattle.replay_parts.specs.Events.{line_of, answer_of}
use Rattle.replay_ends.specs.declared.Replayed.{Replayed}

-- how many events, from the first on, have answered as recorded, and what the lent places hold at the end
pub record Course : Type 0 where
  pub same : ℕ
  pub items : List Item
  pub bytes : List ℕ

abbrev pub course : ℕ → List Item → List ℕ → Course
course same items bytes = record { same = same; items = items; bytes = bytes }

-- so many events, from the one at position i on: after one whose answer differs none is played
unfoldable pub replay_from : Recording → ℕ → ℕ → Stage → List Item → List ℕ → Course
replay_from r zero i st items bytes = course i items bytes
replay_from r (suc more) i st items bytes =
    let t = turn_of st items bytes (line_of r i) in
    choose (eqb t.answer (answer_of r i)) (replay_from r more (i + 1) t.stage t.items t.bytes)
    (course i t.items t.bytes)

-- what is no recording is not played
unfoldable pub replay : List ℕ → List Item → List ℕ → Course
replay bs items bytes =
    let r = recording_in bs in
    choose (is_bad_in bs) (course 0 items bytes) (replay_from r (event_count r) 0 (opening r.nodes) items bytes)

-- 18; 19 with the position, from 0, of the first event whose answer differs; or 0 with the number of events
unfoldable pub replay_answer : List ℕ → List Item → List ℕ → Replayed
replay_answer bs items bytes =
    let same = (replay bs items bytes).same in
    choose (is_bad_in bs) (record { why = number Refusal.Recording; at = 0 })
    (choose (ltb same (event_count (recording_in bs))) (record { why = number Refusal.Differs; at = same })
    (record { why = 0; at = same }))
