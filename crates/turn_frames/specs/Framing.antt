-- The frame of a barrier call for one receiver or for two: the board after it, and the lent bytes. The headers are not
-- handed, only how many are lent.
use Rattle.std.specs.Prelude.{List, ◌++◌, ℕ, ◌+◌, ◌*◌, ltb, take, drop}
use Rattle.base.specs.Choice.{choose}
use Rattle.state_calls.specs.On.{step_bytes}
use Rattle.states.specs.declared.State.{State}
use Rattle.items.specs.declared.Item.{Item}
use Rattle.under_way.specs.Frames.{place_size, room_for}
use Rattle.board_states.specs.States.{state_at, changed}
use Rattle.stage.specs.Board.{quiet, put_one}
use Rattle.board_states.specs.declared.Stage.{Stage}
use Rattle.stage.specs.declared.Acted.{Acted}

-- the bytes of a place are what the barrier call of a state leaves in them, and the other bytes stay
unfoldable pub called_at : List ℕ → ℕ → State → List ℕ
called_at bytes place s =
    let part = drop (place_size * place) bytes in
    take (place_size * place) bytes ++ (step_bytes s (take place_size part) ++ drop place_size part)

module _ (st : Stage) (headers : ℕ) (bytes : List ℕ) where
  -- two headers are put after the last
  abbrev pub put_two : Stage → ℕ → ℕ → Item → Item → Acted
  put_two after actor answer it other =
      record {
        stage = after;
        actor = actor;
        answer = answer;
        gone = st.under;
        at = st.under;
        first = it;
        next = st.under + 1;
        second = other;
      }

  abbrev pub one_frame : ℕ → State → Item → Acted
  one_frame a after it =
      choose (ltb st.under (room_for headers bytes))
      (put_one st headers (changed st a after (st.under + 1)) a 20 it) (quiet st headers st a 15)

  abbrev pub two_frames : ℕ → State → Item → Item → Acted
  two_frames a after it other =
      choose (ltb (st.under + 1) (room_for headers bytes))
      (put_two (changed st a after (st.under + 2)) a 20 it other) (quiet st headers st a 15)

  -- ---- The lent bytes after it

  abbrev pub one_frame_bytes : ℕ → List ℕ
  one_frame_bytes a =
      choose (ltb st.under (room_for headers bytes)) (called_at bytes st.under (state_at st a)) bytes

  abbrev pub two_frames_bytes : ℕ → List ℕ
  two_frames_bytes a =
      choose (ltb (st.under + 1) (room_for headers bytes))
      (called_at (called_at bytes st.under (state_at st a)) (st.under + 1) (state_at st a)) bytes
