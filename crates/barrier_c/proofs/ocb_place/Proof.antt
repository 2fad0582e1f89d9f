-- `ocb_place` answers the lookup of a place.
use borrow.Author.Rules.{rules}
use mathlib.Core.Path.{◌∙◌}
use Rattle.lookup_answers.proofs.Laws.{placed_by_words}
use Rattle.barrier_c.proofs.ocb_place.Statement.{statement}
use Rattle.barrier_c.proofs.ocb_place.Tie as tie

returns : tie.Need-returns
returns c = rw (← (placed_by_words c.place_of.result ∙ c.place_of.ensures)) c.answer_placed.ensures

pub ocb_place_spec : {M : Type 1} → statement M
ocb_place_spec =
    tie.close
    (tie.spec (λ c κs. search rules) (λ c κs. search rules) returns)
