-- `acting` reads what is printed of a node from its words.
use mathlib.Core.Path.{ap, ◌∙◌}
use borrow.Author.Rules.{rules}
use Rattle.states.specs.declared.State.{State}
use Rattle.lines.proofs.Texts.{shown_words, shown_held}
use Rattle.lines.proofs.acting.Statement.{statement}
use Rattle.lines.proofs.acting.Tie as tie

returns : tie.Need-returns
returns c =
    ap (λ (s : State). shown_words s.words) c.state_at-s.ensures.0
    ∙ shown_held _

pub acting_spec : {M : Type 1} → statement M
acting_spec =
    tie.close
    (tie.spec (λ c κs. search rules) (λ c. search rules) (λ c. search rules) (λ c. search rules) (λ c. search rules)
    (λ c. search rules) returns)
