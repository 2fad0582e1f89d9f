-- `frame_in` is `frame_in` on the state.
use borrow.Author.Rules.{rules}
use Rattle.node.specs.Calls.{frame_in}
use Rattle.state_calls.proofs.Called.{called}
use Rattle.value_calls.proofs.frame_in.Statement.{statement}
use Rattle.value_calls.proofs.frame_in.Tie as tie

returns : tie.Need-returns
returns c =
    let s = c in
    let l = s in
    let a = l.args in
    called _ l.of_build.ensures _ (λ L n. frame_in L n a.bytes.now) _ _ s.frame_in-answer.ensures

pub frame_in_spec : {M : Type 1} → statement M
frame_in_spec = tie.close (tie.spec (λ c κs. search rules) (λ c. search rules) (λ c κs. search rules) returns)
