-- `copy_numbers`: before the i-th number is copied, those before it are.
use Rattle.std.proofs.Common.{◌≡◌, ◌++◌, drop}
use Rattle.base.specs.Choice.{list}
use Rattle.frame.specs.Frame.{number_at}
use Rattle.wire_read.proofs.copy_numbers.Given as goal

abbrev pub invariant-loop-i : goal.invariant-loop-i
invariant-loop-i l = l.words ≡ list 0 l.i (number_at l.bytes) ++ drop l.i l.fn.words
