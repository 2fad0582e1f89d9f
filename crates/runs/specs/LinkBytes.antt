-- The bytes on the links are the bytes that the barrier call has written (rule H3).
use Rattle.std.specs.Prelude.{◌≡◌, List, ◌++◌, ℕ, ◌<◌, length, take}
use Rattle.base.specs.Limits.{Limits}
use Rattle.frame.specs.Frame.{frame_bytes}
use Rattle.node.specs.Sums.{dims}
use Rattle.node.specs.Answers.{sent}
use Rattle.node.specs.Barrier.{frame_due, barrier, barrier_bytes}
use Rattle.node.specs.declared.Node.{Node}
use Rattle.events.specs.Board.{Board, calls, posted, step}

-- for every state, board and buffer: after an answer sent the buffer begins with the bytes that go on the links
pub record LinkBytes : Type 0 where
  -- they are those of the frame that is due, as many as the answer says
  pub written : (L : Limits) (n : Node) (buf to : List ℕ) (len : ℕ) → (barrier L n (length buf)).answer ≡ sent to len
      → take len (barrier_bytes L n buf) ≡ frame_bytes (dims n) (frame_due n)
  -- an event puts these last on the link to each receiver, and nothing else
  pub go_out : (L : Limits) (P : ℕ) (w : Board) (a : ℕ) (buf to : List ℕ) (len : ℕ) → a < P
      → (barrier L (w.nodes a) (length buf)).answer ≡ sent to len
      → (step L P w (calls a (length buf))).items
      ≡ w.items ++ posted a (take len (barrier_bytes L (w.nodes a) buf)) (w.count a) to
