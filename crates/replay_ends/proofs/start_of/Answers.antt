-- `start_of` is `start_of`.
use borrow.Author.Tests.{not-true, not-false}
use native.Mathlib.Omega.{arith}
use mathlib.Core.Path.{◌≡◌, sym, ◌∙◌}
use mathlib.Core.Bool.{true, false}
use lib.ListN.{length-drop}
use Rattle.recording.specs.Recording.{recording_in}
use Rattle.recording.specs.Test.{is_bad_in}
use Rattle.recording.proofs.Tests.{held_sizes}
use Rattle.replay_ends.specs.Ends.{start_of}
use Rattle.replay_ends.proofs.start_of.Goals as goal

pub returns-then-not-is_recording : goal.returns-then-not-is_recording
unfolding start_of
returns-then-not-is_recording c =
    let bad : is_bad_in c.args.recording.now ≡ true =
    not-false _ (sym c.is_recording.ensures ∙ c.if-not-is_recording.true) in
    rw (bad, c.open_stage.ensures)

-- the table is within the bytes
pub overflow_sub-result : goal.overflow_sub-result
overflow_sub-result c =
    let w = held_sizes _ (not-true _ (sym c.is_recording.ensures ∙ c.if-not-is_recording.false)) in omega arith

pub overflow_cast-result : goal.overflow_cast-result
overflow_cast-result c =
    let w = held_sizes _ (not-true _ (sym c.is_recording.ensures ∙ c.if-not-is_recording.false)) in omega arith

pub returns : goal.returns
unfolding start_of recording_in
returns c =
    let good : is_bad_in c.args.recording.now ≡ false =
    not-true _ (sym c.is_recording.ensures ∙ c.if-not-is_recording.false) in
    rw (good, c.open_stage-2.ensures, c.byte_at-nodes.ensures, c.sections_of.ensures.0, length-drop)
