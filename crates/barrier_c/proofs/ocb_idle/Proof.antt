-- `ocb_idle` answers `idle` on the words.
use borrow.Author.Rules.{rules}
use Rattle.node.specs.Calls.{idle}
use Rattle.barrier_c.proofs.Called.{told}
use Rattle.barrier_c.proofs.ocb_idle.Statement.{statement}
use Rattle.barrier_c.proofs.ocb_idle.Tie as tie

returns : tie.Need-returns
returns c =
    let s = c in
    let l = s in
    told _ l.of_build.ensures idle _ _ s.go_idle.result _ s.go_idle.ensures c.number_of.ensures

pub ocb_idle_spec : {M : Type 1} → statement M
ocb_idle_spec = tie.close (tie.spec (λ c κs. search rules) (λ c κs. search rules) (λ c κs. search rules) (λ c. search rules) returns)
