use Rattle.std.proofs.Common.{◌-◌}
use Rattle.replays.proofs.Played.{Inv}
use Rattle.replays.proofs.play_again.Given as goal

abbrev pub invariant-loop-i : goal.invariant-loop-i
invariant-loop-i l = Inv l.fn.recording l.fn.items l.fn.bytes l.i l.most l.st l.items l.bytes

abbrev pub decreases-loop-i : goal.decreases-loop-i
decreases-loop-i l = l.most - l.i
