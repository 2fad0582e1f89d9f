use Rattle.std.proofs.Common.{rules}
use Rattle.tree.specs.Tree.{run_below}
use Rattle.tree.proofs.Runs.{below_step}
use Rattle.lookups.proofs.run_below.Goals as goal

pub loop-init : goal.loop-init
unfolding run_below
loop-init c = search rules

pub loop-preserved : goal.loop-preserved
loop-preserved c =
    let r = c.part-run.result in
    (rw below_step (cc), r.in_range.0, r.in_range.1)
