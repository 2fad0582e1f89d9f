-- `send_to` answers `send` on the words.
use Rattle.std.proofs.Common.{arith}
use Rattle.base.specs.Limits.{limits_of}
use Rattle.base.proofs.Limits.{fits_of}
use Rattle.node.specs.Calls.{send}
use Rattle.on_words.proofs.Room.{called}
use Rattle.message_calls.proofs.send_to.Goals as goal

pub returns : goal.returns
returns c =
    let L = limits_of c.args.b in
    called L (fits_of c.args.b (omega arith)) _ (λ n. send L n c.args.to) _ _ c.send_to.ensures
