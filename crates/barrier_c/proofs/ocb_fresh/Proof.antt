-- `ocb_fresh` answers `fresh`, and writes the words where it is done.
use borrow.Author.Rules.{rules}
use mathlib.Core.Path.{ap, ◌∙◌}
use Rattle.node.specs.Answers.{outcome_number}
use Rattle.answers.proofs.Laws.{outcome_by_words}
use Rattle.barrier_c.proofs.ocb_fresh.Statement.{statement}
use Rattle.barrier_c.proofs.ocb_fresh.Tie as tie

returns : tie.Need-returns
returns c =
    let s = c in
    let l = s in
    let e = s.fresh.ensures in
    rw (← l.of_build.ensures) (c.number_of.ensures ∙ ap outcome_number (outcome_by_words s.fresh.result ∙ e.0), e.1)

pub ocb_fresh_spec : {M : Type 1} → statement M
ocb_fresh_spec = tie.close (tie.spec (λ c κs. search rules) (λ c κs. search rules) (λ c κs. search rules) (λ c. search rules) returns)
