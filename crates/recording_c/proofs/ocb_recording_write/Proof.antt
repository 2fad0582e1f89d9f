-- `ocb_recording_write` answers `write_answer`, and leaves what it says in all lent memory.
use borrow.Author.Rules.{rules}
use mathlib.Core.Path.{◌∙◌}
use Rattle.reasons.proofs.Laws.{answered_by_words}
use Rattle.lookup_answers.specs.Words.{number_words}
use Rattle.recording_c.proofs.Told.{told}
use Rattle.recording_c.proofs.ocb_recording_write.Statement.{statement}
use Rattle.recording_c.proofs.ocb_recording_write.Tie as tie

returns : tie.Need-returns
returns c =
    let w = c.write.ensures in
    let t = told number_words _ _ _ _ _ (answered_by_words c.write.result ∙ w.0) c.answer_found.ensures in
    (t.0, (w.1, t.1))

pub ocb_recording_write_spec : {M : Type 1} → statement M
ocb_recording_write_spec =
    tie.close (tie.spec (λ c κs. search rules) (λ c κs. search rules) (λ c. search rules) returns)
