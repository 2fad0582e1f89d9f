-- `ocb_frame_in` answers `frame_in` on the words.
use borrow.Author.Rules.{rules}
use Rattle.node.specs.Calls.{frame_in}
use Rattle.barrier_c.proofs.Called.{told}
use Rattle.barrier_c.proofs.ocb_frame_in.Statement.{statement}
use Rattle.barrier_c.proofs.ocb_frame_in.Tie as tie

returns : tie.Need-returns
returns c =
    let s = c in
    let l = s in
    let a = l.args in
    told _ l.of_build.ensures (λ L n. frame_in L n a.bytes.now) _ _ s.frame_in.result _ s.frame_in.ensures c.number_of.ensures

pub ocb_frame_in_spec : {M : Type 1} → statement M
ocb_frame_in_spec = tie.close (tie.spec (λ c κs. search rules) (λ c κs. search rules) (λ c κs. search rules) (λ c. search rules) returns)
