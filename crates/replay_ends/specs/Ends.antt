-- How a replay starts, and how it ends.
use Rattle.std.specs.Prelude.{List, ℕ, ltb, eqb}
use Rattle.base.specs.Choice.{choose}
use Rattle.base.specs.Refusal.{number}
use Rattle.base.specs.declared.Refusal.{Refusal}
use Rattle.recording.specs.Recording.{event_count, recording_in}
use Rattle.recording.specs.Test.{is_bad_in}
use Rattle.board_states.specs.States.{opening}
use Rattle.replay_ends.specs.declared.Start.{Start}
use Rattle.replay_ends.specs.declared.Replayed.{Replayed}

-- a fresh board and all events; of what is refused no board and no event
unfoldable pub start_of : List ℕ → Start
start_of bs =
    let r = recording_in bs in
    choose (is_bad_in bs) (record { stage = opening 0; events = 0; why = number Refusal.Recording })
    (record { stage = opening r.nodes; events = event_count r; why = 0 })

-- how a replay ends, by how it starts and how many events, from the first on, have answered as recorded
abbrev pub end_of : ℕ → ℕ → ℕ → Replayed
end_of why events same =
    choose (eqb why 0)
    (choose (ltb same events) (record { why = number Refusal.Differs; at = same }) (record { why = 0; at = same }))
    (record { why = why; at = 0 })
