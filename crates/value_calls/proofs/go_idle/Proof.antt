-- `go_idle` is `idle` on the state.
use borrow.Author.Rules.{rules}
use Rattle.node.specs.Calls.{idle}
use Rattle.state_calls.proofs.Called.{called}
use Rattle.value_calls.proofs.go_idle.Statement.{statement}
use Rattle.value_calls.proofs.go_idle.Tie as tie

returns : tie.Need-returns
returns c =
    let s = c in
    let l = s in
    called _ l.of_build.ensures _ idle _ _ s.go_idle-answer.ensures

pub go_idle_spec : {M : Type 1} → statement M
go_idle_spec = tie.close (tie.spec (λ c κs. search rules) (λ c. search rules) (λ c κs. search rules) returns)
