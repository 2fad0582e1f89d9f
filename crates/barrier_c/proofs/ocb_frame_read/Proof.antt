-- `ocb_frame_read` answers `read_frame`, and writes the fields where a frame is read.
use borrow.Author.Rules.{rules}
use mathlib.Core.Path.{ap, ◌∙◌}
use Rattle.reasons.proofs.Laws.{answered_by_words}
use Rattle.lookup_answers.specs.Words.{lookup_number}
use Rattle.barrier_c.proofs.Frames.{frame_read}
use Rattle.barrier_c.proofs.ocb_frame_read.Statement.{statement}
use Rattle.barrier_c.proofs.ocb_frame_read.Tie as tie

returns : tie.Need-returns
returns c =
    let r = c in
    let l = r in
    let a = l.args in
    frame_read _ l.of_build.ensures a.nodes a.bytes.now a.fields.now _ _ _ r.read.ensures
    (c.answer_read.ensures ∙ ap lookup_number (answered_by_words r.read.result))

pub ocb_frame_read_spec : {M : Type 1} → statement M
ocb_frame_read_spec =
    tie.close
    (tie.spec (λ c κs. search rules) (λ c κs. search rules) (λ c κs. search rules) returns)
