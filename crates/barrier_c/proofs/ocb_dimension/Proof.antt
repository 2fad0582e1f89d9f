-- `ocb_dimension` answers the lookup of a dimension.
use borrow.Author.Rules.{rules}
use mathlib.Core.Path.{◌∙◌}
use Rattle.reasons.proofs.Laws.{answered_by_words}
use Rattle.barrier_c.proofs.ocb_dimension.Statement.{statement}
use Rattle.barrier_c.proofs.ocb_dimension.Tie as tie

returns : tie.Need-returns
returns c = rw (← (answered_by_words c.dimension_of.result ∙ c.dimension_of.ensures)) c.answer_found.ensures

pub ocb_dimension_spec : {M : Type 1} → statement M
ocb_dimension_spec =
    tie.close
    (tie.spec (λ c κs. search rules) (λ c κs. search rules) returns)
