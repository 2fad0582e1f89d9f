-- What a line of a message sent does to a board: the headers are not handed, only how many are lent.
use Rattle.std.specs.Prelude.{List, ℕ, ◌+◌, ltb}
use Rattle.base.specs.Choice.{choose}
use Rattle.base.specs.Limits.{base}
use Rattle.base.specs.declared.Kind.{Kind}
use Rattle.node.specs.Answers.{Outcome, done, dropped, refused}
use Rattle.node.specs.Calls.{send}
use Rattle.state_calls.specs.On.{Kept, on_state}
use Rattle.under_way.specs.Frames.{room_for}
use Rattle.board_states.specs.States.{state_at, node_at, changed}
use Rattle.stage.specs.Board.{work_item, quiet, put_one}
use Rattle.board_states.specs.declared.Stage.{Stage}
use Rattle.stage.specs.declared.Acted.{Acted}

module _ (st : Stage) (headers : ℕ) (bytes : List ℕ) where
  abbrev pub send_acted : Kind → ℕ → ℕ → Kept Outcome → Outcome → Acted
  send_acted kind a b r done =
      choose (ltb st.under (room_for headers bytes))
      (put_one st headers (changed st a r.state (st.under + 1)) a 0 (work_item kind a b (node_at st a)))
      (quiet st headers st a 15)
  send_acted kind a b r dropped = quiet st headers st a 24
  send_acted kind a b r (refused x) = quiet st headers st a x

  abbrev pub send_act : Kind → ℕ → ℕ → Acted
  send_act kind a b = let r = on_state (λ n. send base n b) (state_at st a) in send_acted kind a b r r.answer
