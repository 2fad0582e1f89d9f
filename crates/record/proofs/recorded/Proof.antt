-- `recorded`: what is written is within the memory lent.
use borrow.Author.Rules.{rules}
use mathlib.Core.Path.{sym, ap, ◌∙◌}
use Rattle.base.specs.Refusal.{answered}
use Rattle.recorder.specs.Recorded.{recording_of}
use Rattle.recorder.proofs.Writing.{inside}
use Rattle.record.proofs.recorded.Statement.{statement}
use Rattle.record.proofs.recorded.Tie as tie

returns_2 : tie.Need-returns
returns_2 c =
    let w = c in
    let x = w.args in
    inside (recording_of x.script.now x.text.now) x.buf.now _ _
    (sym (ap answered c.in-Ok.is) ∙ w.put_recording.ensures.0) w.put_recording.ensures.1

pub recorded_spec : {M : Type 1} → statement M
recorded_spec =
    tie.close
    (tie.spec (λ c κs. search rules) (λ c. search rules) (λ c. search rules) (λ c. search rules) (λ c. search rules)
    (λ c. search rules) (λ c. search rules) returns_2)
