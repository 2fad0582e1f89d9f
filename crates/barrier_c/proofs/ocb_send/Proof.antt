-- `ocb_send` answers `send` on the words.
use borrow.Author.Rules.{rules}
use Rattle.node.specs.Calls.{send}
use Rattle.barrier_c.proofs.Called.{told}
use Rattle.barrier_c.proofs.ocb_send.Statement.{statement}
use Rattle.barrier_c.proofs.ocb_send.Tie as tie

returns : tie.Need-returns
returns c =
    let s = c in
    let l = s in
    let a = l.args in
    told _ l.of_build.ensures (λ L n. send L n a.to) _ _ s.send_to.result _ s.send_to.ensures c.number_of.ensures

pub ocb_send_spec : {M : Type 1} → statement M
ocb_send_spec = tie.close (tie.spec (λ c κs. search rules) (λ c κs. search rules) (λ c κs. search rules) (λ c. search rules) returns)
