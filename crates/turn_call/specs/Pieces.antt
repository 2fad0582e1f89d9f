-- Definitions that only the contracts of private functions cite.
use Rattle.std.specs.Prelude.{Bool, true, false, List, ◌∷◌, ℕ}
use Rattle.frame.specs.Frame.{frame_bytes}
use Rattle.node.specs.Sums.{dims}
use Rattle.node.specs.Barrier.{frame_due}
use Rattle.node.specs.Answers.{Barrier, sent, waits, moved, left, barred, also}
use Rattle.node.specs.declared.Node.{Node}
use Rattle.node.specs.declared.Receivers.{Receivers}
use Rattle.state_calls.specs.On.{step_on}
use Rattle.states.specs.declared.State.{State}
use Rattle.under_way.specs.Frames.{place_size}
use Rattle.board_states.specs.States.{node_at}
use Rattle.board_states.specs.declared.Stage.{Stage}
use Rattle.turn_call.specs.Calling.{frame_acted_bytes}

-- the barrier call sends
abbrev pub is_sent : Barrier → Bool
is_sent (sent to length) = true
is_sent (waits clause) = false
is_sent moved = false
is_sent left = false
is_sent (barred x) = false

-- the bytes of the frame that is due
abbrev pub due : Node → List ℕ
due n = frame_bytes (dims n) (frame_due n)

abbrev pub to_list : Receivers → List ℕ
to_list to = to.first ∷ also to.extra

-- a node's barrier call with the bytes of a place sends
abbrev pub call_sends : State → Bool
call_sends s = is_sent (step_on s place_size).answer

-- the lent bytes with its frame at the receivers' places
abbrev pub frames_in : Stage → ℕ → List ℕ → ℕ → List ℕ → List ℕ
frames_in st headers bytes a to = frame_acted_bytes st headers bytes (due (node_at st a)) to
