-- `answer_end` tells how a replay ends, and leaves how far it came.
use mathlib.Core.Path.{refl}
use borrow.Author.Tests.{eq-eqb, ne_eqb}
use Rattle.recording_answers.proofs.answer_end.Statement.{statement}
use Rattle.recording_answers.proofs.answer_end.Tie as tie

returns : tie.Need-returns-then-end-ne18
returns c = rw (ne_eqb _ _ c.if-end-ne18.true) (refl, refl)

returns_2 : tie.Need-returns-else-end-ne18
returns_2 c = rw (eq-eqb _ _ c.if-end-ne18.false) (refl, refl)

pub answer_end_spec : {M : Type 1} → statement M
answer_end_spec = tie.close (tie.spec returns returns_2)
