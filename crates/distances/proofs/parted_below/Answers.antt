use Rattle.std.proofs.Common.{rules, arith, refl, ◌≡◌, ◌-◌}
use mathlib.Core.Path.{◌∙◌, sym, ap}
use Rattle.tree.specs.Tree.{run_below, distance_below}
use Rattle.tree.proofs.Distances.{walk_run, walk_together, walk_apart}
use Rattle.distances.proofs.parted_below.Goals as goal

pub loop-k-init : goal.loop-k-init
unfolding run_below
loop-k-init c =
    let z : c.args.p - c.args.p ≡ 0 = omega arith in
    (rw z, refl, search rules, search rules)

pub invariant_of-run : goal.invariant_of-run
invariant_of-run c = record { in_range = (c.loop-k.invariant.2, c.loop-k.invariant.3) }

pub returns-then-not-has : goal.returns-then-not-has
returns-then-not-has c =
    let x = c.args in
    let l = c.loop-k in
    let apart = walk_apart x.nodes x.a x.b x.p l.k _ _ c.requires.2 c.loop-k-test.true l.auto.k l.invariant.0 c.part-run.ensures in
    apart (sym c.has.ensures ∙ c.if-not-has.true) ∙ l.invariant.1

pub loop-k-preserved : goal.loop-k-preserved
loop-k-preserved c =
    let x = c.args in
    let l = c.loop-k in
    let r = c.part-run.result in
    let together = walk_together x.nodes x.a x.b x.p l.k _ _ c.requires.2 c.loop-k-test.true l.auto.k l.invariant.0 c.part-run.ensures in (
      walk_run x.nodes x.a x.b x.p l.k _ _ c.requires.2 c.loop-k-test.true l.auto.k l.invariant.0 c.part-run.ensures,
      together (sym c.has.ensures ∙ c.if-not-has.false) ∙ l.invariant.1,
      r.in_range.0,
      r.in_range.1,
    )

pub returns : goal.returns
unfolding distance_below
returns c =
    let z : 0 ≡ c.loop-k.k = omega arith in
    ap (distance_below c.args.nodes c.args.a c.args.b) z ∙ c.loop-k.invariant.1
