-- `parted_below` is `distance_below`: as long as no dimension parts them, b is in the run of a.
use Rattle.std.proofs.Common.{◌≡◌, ◌≤◌, ◌<◌, ◌-◌}
use Rattle.base.specs.Limits.{base}
use Rattle.tree.specs.Tree.{run_below, distance_below}
use Rattle.distances.proofs.parted_below.Given as goal

abbrev pub invariant-loop-k : goal.invariant-loop-k
invariant-loop-k l =
    (record { low = l.run.0; high = l.run.1.0 } ≡ run_below l.nodes (l.p - l.k) l.a)
    × (distance_below l.nodes l.a l.b l.k ≡ distance_below l.nodes l.a l.b l.p)
    × (l.run.0 ≤ base.nodes)
    × (l.run.1.0 < base.nodes)
