-- `place_for` answers `place_lookup`.
use Rattle.std.proofs.Common.{rules, arith, ◌≡◌, ◌≤◌, Err}
use borrow.Author.Tests.{le-leb, lt-leb}
use mathlib.Core.Path.{sym, ap, subst, ◌∙◌}
use Rattle.base.specs.Limits.{limits_of}
use Rattle.base.specs.Refusal.{refused, found}
use Rattle.base.proofs.Limits.{last_low}
use Rattle.tree.specs.Tree.{place_in, place}
use Rattle.tree.specs.Lookups.{place_lookup, placed_answer}
use Rattle.tree.proofs.Runs.{below_has, run_up}
use Rattle.tree.proofs.Lookups.{board_good, dimension_refused, dimension_found}
use Rattle.lookups.proofs.place_for.Goals as goal

pub returns-in_err-p : goal.returns-in_err-p
unfolding place_lookup
returns-in_err-p c =
    let passed : c.from_residual.result ≡ Err c.in_err-p.field-0.0 = search rules in
    let b = dimension_refused _ _ _ (sym c.in_err-p.ensures) in
    ap placed_answer passed ∙ rw b.0 (ap refused b.1)

pub returns-then-nodes-node : goal.returns-then-nodes-node
unfolding place_lookup
returns-then-nodes-node c = rw ((dimension_found _ _ _ (sym c.in_ok-p.ensures)).0, le-leb _ _ c.if-nodes-node.true)

pub returns-then-p-dimension : goal.returns-then-p-dimension
unfolding place_lookup
returns-then-p-dimension c =
    let k = dimension_found _ _ _ (sym c.in_ok-p.ensures) in
    rw (k.0, lt-leb _ _ c.if-nodes-node.false, le-leb _ _ (rw k.1 at c.if-p-dimension.true))

pub run_below-requires : goal.run_below-requires
run_below-requires c =
    let k = dimension_found _ _ _ (sym c.in_ok-p.ensures) in
    let g = board_good (limits_of c.args.b) _ k.0 in
    (g.0, omega (arith, last_low c.args.b))

pub place_in-requires : goal.place_in-requires
place_in-requires c =
    let x = c.args in
    subst (λ r. (r.low ≤ x.node) × (x.node ≤ r.high)) (sym c.run_below.ensures) (below_has _ _ _ c.if-nodes-node.false)

pub returns : goal.returns
unfolding place_lookup place
returns c =
    let k = dimension_found _ _ _ (sym c.in_ok-p.ensures) in
    let low = rw k.1 at c.if-p-dimension.false in
    rw (k.0, lt-leb _ _ c.if-nodes-node.false, lt-leb _ _ low)
    (ap found (c.place_in.ensures ∙ ap (λ r. place_in r c.args.node) (c.run_below.ensures ∙ run_up _ _ _ _ k.1)))
