-- `distance_of` answers `distance_lookup` with the limits of this build.
use borrow.Author.Rules.{rules}
use mathlib.Core.Path.{ap, ◌∙◌}
use Rattle.tree.specs.Lookups.{distance_lookup}
use Rattle.distances.proofs.distance_of.Statement.{statement}
use Rattle.distances.proofs.distance_of.Tie as tie

returns : tie.Need-returns
returns c =
    let a = c.args in
    c.distance_for.ensures ∙ ap (λ L. distance_lookup L a.nodes a.a a.b) c.of_build.ensures

pub distance_of_spec : {M : Type 1} → statement M
distance_of_spec = tie.close (tie.spec (λ c κs. search rules) (λ c κs. search rules) returns)
