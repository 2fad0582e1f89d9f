-- `place_of` answers `place_lookup` with the limits of this build.
use borrow.Author.Rules.{rules}
use mathlib.Core.Path.{ap, ◌∙◌}
use Rattle.tree.specs.Lookups.{place_lookup}
use Rattle.lookups.proofs.place_of.Statement.{statement}
use Rattle.lookups.proofs.place_of.Tie as tie

returns : tie.Need-returns
returns c =
    let a = c.args in
    c.place_for.ensures ∙ ap (λ L. place_lookup L a.nodes a.dimension a.node) c.of_build.ensures

pub place_of_spec : {M : Type 1} → statement M
place_of_spec = tie.close (tie.spec (λ c κs. search rules) (λ c κs. search rules) returns)
