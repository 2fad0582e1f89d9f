-- `ocb_take` answers `take` on the words.
use borrow.Author.Rules.{rules}
use Rattle.base.specs.declared.Kind.TheVariants.{Job}
use Rattle.node.specs.Calls.{take}
use Rattle.barrier_c.proofs.Called.{told}
use Rattle.barrier_c.proofs.ocb_take.Statement.{statement}
use Rattle.barrier_c.proofs.ocb_take.Tie as tie

returns : tie.Need-returns
returns c =
    let s = c in
    let l = s in
    let a = l.args in
    told _ l.of_build.ensures (λ L n. take L n Job a.from a.phase) _ _ s.take_from.result _ s.take_from.ensures c.number_of.ensures

pub ocb_take_spec : {M : Type 1} → statement M
ocb_take_spec = tie.close (tie.spec (λ c κs. search rules) (λ c κs. search rules) (λ c κs. search rules) (λ c. search rules) returns)
