-- `is_recording` makes the tests of bytes in their order.
use native.Mathlib.Omega.{arith}
use mathlib.Core.Bool.{not}
use mathlib.Core.Path.{sym, ap, ◌∙◌}
use Prim.Native.Nat.{◌-◌}
use lib.ListN.{length, drop, length-drop}
use lib.Seq.{take_all}
use Rattle.recording.specs.Recording.{bodies}
use Rattle.recording.proofs.Tests.{bad_short, bad_many, bad_placed, bad_held}
use Rattle.recording_test.proofs.is_recording.Goals as goal

pub returns-then-bytes-lt2 : goal.returns-then-bytes-lt2
returns-then-bytes-lt2 c = sym (ap not (bad_short _ (omega arith)))

pub returns-then-bytes-head : goal.returns-then-bytes-head
returns-then-bytes-head c = sym (ap not (bad_short _ (omega arith)))

pub returns-then-sections-gt32 : goal.returns-then-sections-gt32
returns-then-sections-gt32 c = sym (ap not (bad_many _ (omega arith)))

pub returns-then-not-is_placed : goal.returns-then-not-is_placed
returns-then-not-is_placed c =
    let n = c.sections_of-sections in
    let no = sym c.is_placed.ensures ∙ c.if-not-is_placed.true in
    sym (ap not (bad_placed _ n.result n.ensures.0 no))

pub returns : goal.returns
returns c =
    let n = c.sections_of-sections in
    let yes = sym c.is_placed.ensures ∙ c.if-not-is_placed.false in
    let held = bad_held _ n.result n.ensures.0 (omega arith) yes in
    let at = bodies n.result in
    let bs = c.args.bytes.now in
    let events = take_all (length bs - at) (drop at bs) (omega (arith, length-drop at bs)) in
    ap not (c.is_bad.ensures ∙ held _ _ _ c.byte_at.ensures c.total_of-total.ensures events)
