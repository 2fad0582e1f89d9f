-- `answer_of` is `answer_of`.
use Rattle.std.proofs.Common.{◌∙◌}
use Rattle.script_events.proofs.Events.{told}
use Rattle.script_events.proofs.answer_of.Goals as goal

pub returns : goal.returns
returns c =
    c.unwrap_or.ensures ∙ told _ _ _ c.after.ensures c.up_to-part.ensures _ c.number_of.ensures
