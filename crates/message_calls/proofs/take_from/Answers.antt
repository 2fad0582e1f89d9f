-- `take_from` answers `take` on the words.
use Rattle.std.proofs.Common.{arith}
use Rattle.base.specs.Limits.{limits_of}
use Rattle.base.proofs.Limits.{fits_of}
use Rattle.node.specs.Calls.{take}
use Rattle.on_words.proofs.Room.{called}
use Rattle.message_calls.proofs.take_from.Goals as goal

pub returns : goal.returns
returns c =
    let L = limits_of c.args.b in
    called L (fits_of c.args.b (omega arith)) _ (λ n. take L n c.args.kind c.args.from c.args.phase) _ _ c.take_from.ensures
