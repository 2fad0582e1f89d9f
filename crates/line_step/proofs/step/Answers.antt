-- The code does what `Steps.antt` says, call by call.
use Rattle.line_step.specs.Steps.{stepped, stepped_items, stepped_bytes}
use Rattle.line_step.proofs.step.Goals as goal

pub returns-clause-answer : goal.returns-clause-answer
unfolding stepped
returns-clause-answer c = cc

pub returns-clause-headers : goal.returns-clause-headers
unfolding stepped_items
returns-clause-headers c = cc

pub returns-clause-frames : goal.returns-clause-frames
unfolding stepped_bytes
returns-clause-frames c = cc
