-- `frame_act` writes the frame for its receivers.
use mathlib.Core.Path.{◌∙◌}
use Rattle.turn_call.proofs.Known.{one_due, two_due}
use Rattle.turn_call.proofs.frame_act.Goals as goal

pub returns-in-None-clause-memory : goal.returns-in-None-clause-memory
returns-in-None-clause-memory c =
    let x = c.args in
    rw c.in-None.is (c.one_frame.ensures.memory ∙ one_due x.st x.headers x.bytes.now x.a c.requires)

pub returns-in-Some-clause-memory : goal.returns-in-Some-clause-memory
returns-in-Some-clause-memory c =
    let x = c.args in
    rw c.in-Some.is (c.two_frames.ensures.memory ∙ two_due x.st x.headers x.bytes.now x.a c.requires)
