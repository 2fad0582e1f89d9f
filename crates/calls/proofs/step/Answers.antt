-- `step` is the barrier call on the words, and leaves the lent bytes as it says.
use Rattle.std.proofs.Common.{arith}
use Rattle.base.proofs.Limits.{fits_of}
use Rattle.on_words.proofs.Room.{stepped}
use Rattle.calls.proofs.step.Goals as goal

pub returns : goal.returns
returns c = stepped _ (fits_of c.args.b (omega arith)) _ c.args.buf.now c.step.result _ _ c.step.ensures
