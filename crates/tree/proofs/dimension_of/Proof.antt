-- `dimension_of` answers `dimension_lookup` with the limits of this build.
use borrow.Author.Rules.{rules}
use mathlib.Core.Path.{ap, ◌∙◌}
use Rattle.tree.specs.Lookups.{dimension_lookup}
use Rattle.tree.proofs.dimension_of.Statement.{statement}
use Rattle.tree.proofs.dimension_of.Tie as tie

returns : tie.Need-returns
returns c = c.dimension_for.ensures ∙ ap (λ L. dimension_lookup L c.args.nodes) c.of_build.ensures

pub dimension_of_spec : {M : Type 1} → statement M
dimension_of_spec = tie.close (tie.spec (λ c κs. search rules) (λ c κs. search rules) returns)
