-- `step` is the barrier call on the state, and leaves the lent bytes as it says.
use borrow.Author.Rules.{rules}
use Rattle.state_calls.proofs.Called.{stepped, stepped_bytes_lem}
use Rattle.value_calls.proofs.step.Statement.{statement}
use Rattle.value_calls.proofs.step.Tie as tie

returns : tie.Need-returns
returns c =
    let s = c in
    let l = s in
    let e = s.step-answer.ensures in
    (stepped _ l.of_build.ensures _ _ _ _ e.0 e.1.0, stepped_bytes_lem _ l.of_build.ensures _ _ _ e.1.1)

pub step_spec : {M : Type 1} → statement M
step_spec = tie.close (tie.spec (λ c κs. search rules) (λ c. search rules) (λ c κs. search rules) (λ c. search rules) returns)
