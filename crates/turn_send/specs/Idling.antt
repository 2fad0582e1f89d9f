-- What a line of a node gone idle does to a board: the headers are not handed, only how many are lent.
use Rattle.std.specs.Prelude.{ℕ}
use Rattle.base.specs.Limits.{base}
use Rattle.node.specs.Answers.{outcome_number}
use Rattle.node.specs.Calls.{idle}
use Rattle.state_calls.specs.On.{on_state}
use Rattle.board_states.specs.States.{state_at, changed}
use Rattle.stage.specs.Board.{quiet}
use Rattle.board_states.specs.declared.Stage.{Stage}
use Rattle.stage.specs.declared.Acted.{Acted}

unfoldable pub idle_act : Stage → ℕ → ℕ → Acted
idle_act st headers a =
    let r = on_state (idle base) (state_at st a) in
    quiet st headers (changed st a r.state st.under) a (outcome_number r.answer)
