-- `frame_in` answers `frame_in` on the words.
use Rattle.std.proofs.Common.{arith}
use Rattle.base.specs.Limits.{limits_of}
use Rattle.base.proofs.Limits.{fits_of}
use Rattle.node.specs.Calls.{frame_in}
use Rattle.on_words.proofs.Room.{called}
use Rattle.calls.proofs.frame_in.Goals as goal

pub returns : goal.returns
returns c =
    let L = limits_of c.args.b in
    called L (fits_of c.args.b (omega arith)) _ (λ n. frame_in L n c.args.bytes.now) _ _ c.frame_in.ensures
