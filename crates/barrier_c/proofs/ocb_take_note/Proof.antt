-- `ocb_take_note` answers `take` on the words.
use borrow.Author.Rules.{rules}
use Rattle.base.specs.declared.Kind.TheVariants.{Note}
use Rattle.node.specs.Calls.{take}
use Rattle.barrier_c.proofs.Called.{told}
use Rattle.barrier_c.proofs.ocb_take_note.Statement.{statement}
use Rattle.barrier_c.proofs.ocb_take_note.Tie as tie

returns : tie.Need-returns
returns c =
    let s = c in
    let l = s in
    let a = l.args in
    told _ l.of_build.ensures (λ L n. take L n Note a.from a.phase) _ _ s.take_from.result _ s.take_from.ensures c.number_of.ensures

pub ocb_take_note_spec : {M : Type 1} → statement M
ocb_take_note_spec = tie.close (tie.spec (λ c κs. search rules) (λ c κs. search rules) (λ c κs. search rules) (λ c. search rules) returns)
