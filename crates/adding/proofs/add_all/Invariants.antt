-- The first i numbers are added, and the other sums are as they were.
use Rattle.std.proofs.Common.{◌≤◌}
use Rattle.adding.proofs.Adding.{Upto}
use Rattle.adding.proofs.add_all.Given as goal

abbrev pub invariant-loop-i : goal.invariant-loop-i
invariant-loop-i g l = (l.i ≤ l.count) × Upto l.initial.sums l.to l.s l.from l.limit l.i l.sums
