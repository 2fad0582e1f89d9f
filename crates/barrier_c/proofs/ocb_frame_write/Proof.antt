-- `ocb_frame_write` answers `write_on`, and leaves what it says in all lent memory.
use borrow.Author.Rules.{rules}
use mathlib.Core.Path.{◌∙◌}
use Rattle.base.specs.Refusal.{number}
use Rattle.reasons.specs.Told.{answered_by}
use Rattle.reasons.proofs.Laws.{answered_by_words}
use Rattle.barrier_c.proofs.Frames.{frame_written}
use Rattle.barrier_c.proofs.ocb_frame_write.Statement.{statement}
use Rattle.barrier_c.proofs.ocb_frame_write.Tie as tie

returns : tie.Need-returns
returns c =
    let w = c in
    let l = w in
    let a = l.args in
    frame_written _ l.of_build.ensures a.nodes a.fields.now a.buf.now a.size.now
    (answered_by number w.write.result) _ _ _ (answered_by_words w.write.result ∙ w.write.ensures.0, w.write.ensures.1)
    c.answer_found.ensures

pub ocb_frame_write_spec : {M : Type 1} → statement M
ocb_frame_write_spec =
    tie.close
    (tie.spec (λ c κs. search rules) (λ c κs. search rules) (λ c κs. search rules) (λ c. search rules) returns)
