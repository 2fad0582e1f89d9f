-- `send_to` is `send` on the state.
use borrow.Author.Rules.{rules}
use Rattle.node.specs.Calls.{send}
use Rattle.state_calls.proofs.Called.{called}
use Rattle.value_calls.proofs.send_to.Statement.{statement}
use Rattle.value_calls.proofs.send_to.Tie as tie

returns : tie.Need-returns
returns c =
    let s = c in
    let l = s in
    let a = l.args in
    called _ l.of_build.ensures _ (λ L n. send L n a.to) _ _ s.send_to-answer.ensures

pub send_to_spec : {M : Type 1} → statement M
send_to_spec = tie.close (tie.spec (λ c κs. search rules) (λ c. search rules) (λ c κs. search rules) returns)
