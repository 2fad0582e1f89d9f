use Rattle.std.proofs.Common.{◌-◌, length}
use Rattle.rehearsal.proofs.Played.{Kept}
use Rattle.rehearsal.proofs.play_script.Given as goal

abbrev pub invariant-loop-at : goal.invariant-loop-at
invariant-loop-at l =
    Kept l.fn.script l.fn.items l.fn.bytes l.fn.out l.at l.count l.st l.items l.bytes l.out l.printed

abbrev pub decreases-loop-at : goal.decreases-loop-at
decreases-loop-at l = length l.script - l.at
