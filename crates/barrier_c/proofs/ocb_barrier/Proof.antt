-- `ocb_barrier` answers `barrier` on the words, and leaves what it says in all lent memory.
use borrow.Author.Rules.{rules}
use Rattle.barrier_c.proofs.Crossing.{crossed}
use Rattle.barrier_c.proofs.ocb_barrier.Statement.{statement}
use Rattle.barrier_c.proofs.ocb_barrier.Tie as tie

returns : tie.Need-returns
returns c =
    let s = c in
    crossed _ s.of_build.ensures _ _ _ s.step.result _ _ _ _ s.step.ensures c.answer_barrier.ensures

pub ocb_barrier_spec : {M : Type 1} → statement M
ocb_barrier_spec =
    tie.close
    (tie.spec (λ c κs. search rules) (λ c κs. search rules) (λ c κs. search rules) (λ c. search rules) (λ c. search rules)
    returns)
