-- `ocb_recording_read` answers `read_answer`, and leaves what it says in all lent memory.
use borrow.Author.Rules.{rules}
use mathlib.Core.Path.{◌∙◌}
use Rattle.reasons.proofs.Laws.{answered_by_words}
use Rattle.recording_answers.specs.Words.{head_words}
use Rattle.recording_c.proofs.Told.{told}
use Rattle.recording_c.proofs.ocb_recording_read.Statement.{statement}
use Rattle.recording_c.proofs.ocb_recording_read.Tie as tie

returns : tie.Need-returns
returns c =
    let r = c.read.ensures in
    let t = told head_words _ _ _ _ _ (answered_by_words c.read.result ∙ r.0) c.answer_held.ensures in
    (t.0, (r.1.0, (r.1.1, t.1)))

pub ocb_recording_read_spec : {M : Type 1} → statement M
ocb_recording_read_spec =
    tie.close
    (tie.spec (λ c κs. search rules) (λ c κs. search rules) (λ c. search rules) (λ c. search rules) returns)
