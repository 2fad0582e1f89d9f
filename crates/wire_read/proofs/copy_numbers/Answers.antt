use Rattle.std.proofs.Common.{arith}
use Rattle.frame.specs.Frame.{number_at}
use Rattle.wire_read.proofs.Copies.{copy_more}
use Rattle.wire_read.proofs.copy_numbers.Goals as goal

pub loop-i-preserved : goal.loop-i-preserved
loop-i-preserved c =
    rw c.word_at.ensures
    (copy_more (number_at c.args.bytes.now) c.args.words.now _ c.loop-i.i (omega arith) c.loop-i.invariant)
