-- `distance_for` answers `distance_lookup`.
use borrow.Author.Rules.{rules}
use borrow.Author.Tests.{le-leb, lt-leb, eq-eqb, ne_eqb}
use native.Mathlib.Omega.{arith}
use mathlib.Core.Path.{◌≡◌, sym, ap, ◌∙◌}
use Rattle.base.specs.Limits.{limits_of}
use Rattle.base.specs.Refusal.{refused, found, answered}
use Rattle.base.proofs.Limits.{last_low}
use Rattle.tree.specs.Tree.{distance, distance_below}
use Rattle.tree.specs.Lookups.{distance_lookup}
use Rattle.tree.proofs.Lookups.{board_good, dimension_refused, dimension_found}
use Rattle.std.proofs.Common.{Err}
use Rattle.distances.proofs.distance_for.Goals as goal

pub returns-in_err-p : goal.returns-in_err-p
unfolding distance_lookup
returns-in_err-p c =
    let passed : c.from_residual.result ≡ Err c.in_err-p.field-0.0 = search rules in
    let b = dimension_refused _ _ _ (sym c.in_err-p.ensures) in
    ap answered passed ∙ rw b.0 (ap refused b.1)

pub returns-then-nodes-a : goal.returns-then-nodes-a
unfolding distance_lookup
returns-then-nodes-a c = rw ((dimension_found _ _ _ (sym c.in_ok-p.ensures)).0, le-leb _ _ c.if-nodes-a.true)

pub returns-then-nodes-b : goal.returns-then-nodes-b
unfolding distance_lookup
returns-then-nodes-b c =
    rw ((dimension_found _ _ _ (sym c.in_ok-p.ensures)).0, lt-leb _ _ c.if-nodes-a.false, le-leb _ _ c.if-nodes-b.true)

pub returns-then-a-b : goal.returns-then-a-b
unfolding distance_lookup
returns-then-a-b c =
    rw (
      (dimension_found _ _ _ (sym c.in_ok-p.ensures)).0,
      lt-leb _ _ c.if-nodes-a.false,
      lt-leb _ _ c.if-nodes-b.false,
      eq-eqb _ _ c.if-a-b.true,
    )

pub parted_below-requires : goal.parted_below-requires
parted_below-requires c =
    let k = dimension_found _ _ _ (sym c.in_ok-p.ensures) in
    let g = board_good (limits_of c.args.limits) _ k.0 in
    (g.0, omega (arith, last_low c.args.limits), k.1)

pub returns : goal.returns
unfolding distance_lookup distance
returns c =
    let k = dimension_found _ _ _ (sym c.in_ok-p.ensures) in
    rw (
      k.0,
      lt-leb _ _ c.if-nodes-a.false,
      lt-leb _ _ c.if-nodes-b.false,
      ne_eqb _ _ c.if-a-b.false,
    )
    (ap found (c.parted_below.ensures ∙ ap (distance_below _ _ _) k.1))
