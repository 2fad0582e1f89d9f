-- `idle_act` does what a line of a node gone idle does.
use borrow.Author.Rules.{rules}
use mathlib.Core.Path.{◌≡◌, sym, ap, ◌∙◌}
use Rattle.base.specs.Limits.{base}
use Rattle.node.specs.Answers.{outcome_number}
use Rattle.node.specs.Calls.{idle}
use Rattle.answers.proofs.Laws.{outcome_by_words}
use Rattle.state_calls.specs.On.{on_state, replied}
use Rattle.board_states.specs.States.{state_at}
use Rattle.stage.specs.Board.{quiet}
use Rattle.turn_send.proofs.Known.{idle_by}
use Rattle.turn_send.proofs.idle_act.Statement.{statement}
use Rattle.turn_send.proofs.idle_act.Tie as tie

returns : tie.Need-returns
returns c =
    let board = c in
    let asked = board in
    let x = asked.args in
    let said = c.number_of.ensures ∙ ap outcome_number (outcome_by_words asked.go_idle-r.result.answer) in
    let e : on_state (idle base) (state_at x.st x.a) ≡ replied asked.go_idle-r.result =
    ap (on_state (idle base)) (sym asked.state_at-n.ensures.0) ∙ sym asked.go_idle-r.ensures in
    c.quiet.ensures
    ∙ (λ i. quiet x.st x.headers (board.with_state-after.ensures i) x.a (said i))
    ∙ sym (idle_by x.st x.headers x.a _ e)

pub idle_act_spec : {M : Type 1} → statement M
idle_act_spec =
    tie.close
    (tie.spec (λ c κs. search rules) (λ c κs. search rules) (λ c κs. search rules) (λ c κs. search rules)
    (λ c κs. search rules) returns)
