-- The turn of an idle node, by those to whom a frame is due.
use Rattle.std.specs.Prelude.{List, ℕ, length, Option, Some, None, Result, Ok, Err}
use Rattle.base.specs.Choice.{choose}
use Rattle.base.specs.declared.Refusal.{Refusal}
use Rattle.node.specs.declared.Receivers.{Receivers}
use Rattle.second_frame.specs.Putting.{put_length, put_bytes}
use Rattle.due_bytes.specs.Bytes.{due_bytes, can_send}
use Rattle.node_turn.specs.declared.Turn.{Turn}
use Rattle.node_turn.specs.declared.Turn.TheVariants.{Sends}
use Rattle.node_look.specs.Looks.{look_turn}

-- by the length of the frame that was put, if one was
abbrev pub sent_turn : Receivers → Option ℕ → Result Turn Refusal
sent_turn to None = Err Refusal.Buffer
sent_turn to (Some count) = Ok (Sends to count)

-- the frame is sent, or does not fit the buffer; where it is due to nobody the node looks
abbrev pub decide_turn : List ℕ → List ℕ → ℕ → Option Receivers → ℕ → ℕ → ℕ → ℕ → Result Turn Refusal
decide_turn ws sums p (Some to) issued clause received room =
    sent_turn to (choose (can_send ws p (length sums)) (put_length (due_bytes ws sums p issued) room) None)
decide_turn ws sums p None issued clause received room = Ok (look_turn ws p clause received)

-- the lent bytes after it
abbrev pub decide_lent : List ℕ → List ℕ → ℕ → Option Receivers → ℕ → List ℕ → List ℕ
decide_lent ws sums p (Some to) issued buf =
    choose (can_send ws p (length sums)) (put_bytes (due_bytes ws sums p issued) buf) buf
decide_lent ws sums p None issued buf = buf
