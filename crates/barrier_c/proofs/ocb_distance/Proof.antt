-- `ocb_distance` answers the lookup of a distance.
use borrow.Author.Rules.{rules}
use mathlib.Core.Path.{◌∙◌}
use Rattle.reasons.proofs.Laws.{answered_by_words}
use Rattle.barrier_c.proofs.ocb_distance.Statement.{statement}
use Rattle.barrier_c.proofs.ocb_distance.Tie as tie

returns : tie.Need-returns
returns c = rw (← (answered_by_words c.distance_of.result ∙ c.distance_of.ensures)) c.answer_found.ensures

pub ocb_distance_spec : {M : Type 1} → statement M
ocb_distance_spec =
    tie.close
    (tie.spec (λ c κs. search rules) (λ c κs. search rules) returns)
