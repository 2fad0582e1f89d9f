-- `run_below` is `run_below`: after so many turns the run is that of so many splits.
use Rattle.std.proofs.Common.{◌≡◌, ◌≤◌, ◌<◌}
use Rattle.base.specs.Limits.{base}
use Rattle.tree.specs.Tree.{run_below}
use Rattle.lookups.proofs.run_below.Given as goal

abbrev pub invariant-loop : goal.invariant-loop
invariant-loop l =
    (record { low = l.run.0; high = l.run.1.0 } ≡ run_below l.nodes l.counter l.node)
    × (l.run.0 ≤ base.nodes)
    × (l.run.1.0 < base.nodes)
