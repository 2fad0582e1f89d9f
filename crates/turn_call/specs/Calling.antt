-- What a line of a barrier call does to a board and to the lent bytes: the headers are not handed, only how many are
-- lent.
use Rattle.std.specs.Prelude.{List, [], ◌∷◌, ℕ, ◌+◌, ltb}
use Rattle.base.specs.Choice.{choose}
use Rattle.frame.specs.Frame.{frame_bytes}
use Rattle.node.specs.Sums.{dims}
use Rattle.node.specs.Answers.{Barrier, sent, waits, moved, left, barred}
use Rattle.node.specs.Barrier.{frame_due}
use Rattle.state_calls.specs.On.{Kept, step_on}
use Rattle.states.specs.declared.State.{State}
use Rattle.under_way.specs.Frames.{place_size, room_for, framed}
use Rattle.board_states.specs.States.{state_at, node_at, changed}
use Rattle.stage.specs.Board.{frame_item, quiet}
use Rattle.board_states.specs.declared.Stage.{Stage}
use Rattle.stage.specs.declared.Acted.{Acted}
use Rattle.turn_frames.specs.Framing.{one_frame, two_frames}

module _ (st : Stage) (headers : ℕ) (bytes : List ℕ) where
  abbrev pub frame_acted : ℕ → State → List ℕ → Acted
  frame_acted a after [] = quiet st headers st a 20
  frame_acted a after (b ∷ []) = one_frame st headers bytes a after (frame_item a b (node_at st a))
  frame_acted a after (b ∷ c ∷ l) =
      two_frames st headers bytes a after (frame_item a b (node_at st a)) (frame_item a c (node_at st a))

  abbrev pub call_acted : ℕ → Kept Barrier → Barrier → Acted
  call_acted a r (sent to length) = frame_acted a r.state to
  call_acted a r (waits clause) = quiet st headers (changed st a r.state st.under) a 21
  call_acted a r moved = quiet st headers (changed st a r.state st.under) a 22
  call_acted a r left = quiet st headers (changed st a r.state st.under) a 23
  call_acted a r (barred x) = quiet st headers st a x

  unfoldable pub call_act : ℕ → Acted
  call_act a = let r = step_on (state_at st a) place_size in call_acted a r r.answer

  -- ---- The lent bytes after it

  abbrev pub frame_acted_bytes : List ℕ → List ℕ → List ℕ
  frame_acted_bytes frame [] = bytes
  frame_acted_bytes frame (b ∷ []) =
      choose (ltb st.under (room_for headers bytes)) (framed bytes st.under frame) bytes
  frame_acted_bytes frame (b ∷ c ∷ l) =
      choose (ltb (st.under + 1) (room_for headers bytes))
      (framed (framed bytes st.under frame) (st.under + 1) frame) bytes

  abbrev pub call_acted_bytes : ℕ → Barrier → List ℕ
  call_acted_bytes a (sent to length) =
      frame_acted_bytes (frame_bytes (dims (node_at st a)) (frame_due (node_at st a))) to
  call_acted_bytes a (waits clause) = bytes
  call_acted_bytes a moved = bytes
  call_acted_bytes a left = bytes
  call_acted_bytes a (barred x) = bytes

  unfoldable pub call_act_bytes : ℕ → List ℕ
  call_act_bytes a = call_acted_bytes a (step_on (state_at st a) place_size).answer
