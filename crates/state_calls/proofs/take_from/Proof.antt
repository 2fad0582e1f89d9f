-- `take_from` is `take` on the state.
use borrow.Author.Rules.{rules}
use Rattle.node.specs.Calls.{take}
use Rattle.state_calls.proofs.Called.{called}
use Rattle.state_calls.proofs.take_from.Statement.{statement}
use Rattle.state_calls.proofs.take_from.Tie as tie

returns : tie.Need-returns
returns c =
    let s = c in
    let l = s in
    let a = l.args in
    called _ l.of_build.ensures _ (λ L n. take L n a.kind a.from a.phase) _ _ s.take_from-answer.ensures

pub take_from_spec : {M : Type 1} → statement M
take_from_spec = tie.close (tie.spec (λ c κs. search rules) (λ c. search rules) (λ c κs. search rules) returns)
