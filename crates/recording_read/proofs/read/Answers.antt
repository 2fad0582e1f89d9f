-- `read` refuses bytes that are no recording and memory that is too short, and else puts the counts and the events.
use borrow.Author.Tests.{not-true, not-false}
use native.Mathlib.Omega.{arith}
use mathlib.Core.Bool.{Bool, true, false, not}
use mathlib.Core.List.{List}
use mathlib.Core.Path.{◌≡◌, sym, ◌∙◌}
use Prim.Native.Nat.{ℕ, ◌+◌, ◌*◌, ◌-◌}
use lib.ListN.{length, take, drop, length-drop}
use lib.Seq.{take_all}
use Rattle.recording.specs.Recording.{bodies}
use Rattle.recording.specs.Test.{is_bad_in}
use Rattle.recording.proofs.Tests.{held_sizes}
use Rattle.recording_read.proofs.Reading.{is_bad_lem, few_words, few_bytes, is_read}
use Rattle.recording_read.proofs.read.Goals as goal

pub returns-then-not-is_recording : goal.returns-then-not-is_recording
returns-then-not-is_recording c =
    let r = is_bad_lem _ _ _ (not-false _ (sym c.is_recording.ensures ∙ c.if-not-is_recording.true)) in
    record { answer = r.0; counts = r.1.0; events = r.1.1 }

good : (bs : List ℕ) (r : Bool) → r ≡ not (is_bad_in bs) → r ≡ true → is_bad_in bs ≡ false
good bs r e t = not-true _ (sym e ∙ t)

-- the events' bytes
text : (bs : List ℕ) (n : ℕ) → take (length bs - (2 + 4 * n)) (drop (2 + 4 * n) bs) ≡ drop (bodies n) bs
text bs n = take_all (length bs - (2 + 4 * n)) (drop (2 + 4 * n) bs) (omega (arith, length-drop (2 + 4 * n) bs))

pub slice_bounds-text-count : goal.slice_bounds-text-count
slice_bounds-text-count c =
    let s = held_sizes _ (good _ _ c.is_recording.ensures c.if-not-is_recording.false) in
    omega arith

pub slice_bounds-text-start : goal.slice_bounds-text-start
slice_bounds-text-start c =
    let s = held_sizes _ (good _ _ c.is_recording.ensures c.if-not-is_recording.false) in
    omega arith

pub returns-then-counts-sections : goal.returns-then-counts-sections
returns-then-counts-sections c =
    let n = c.sections_of-sections in
    let r = few_words _ _ _ (good _ _ c.is_recording.ensures c.if-not-is_recording.false) _ _ n.ensures.0 (text c.args.bytes.now n.result) (omega arith) in
    record { answer = r.0; counts = r.1.0; events = r.1.1 }

pub returns-then-events-text : goal.returns-then-events-text
returns-then-events-text c =
    let n = c.sections_of-sections in
    let r = few_bytes _ _ _ (good _ _ c.is_recording.ensures c.if-not-is_recording.false) _ _ n.ensures.0 (text c.args.bytes.now n.result) (omega arith) (omega arith) in
    record { answer = r.0; counts = r.1.0; events = r.1.1 }

pub put_counts-requires : goal.put_counts-requires
put_counts-requires c =
    let s = held_sizes _ (good _ _ c.is_recording.ensures c.if-not-is_recording.false) in
    (omega arith, omega arith)

pub overflow_cast-result-3 : goal.overflow_cast-result-3
overflow_cast-result-3 c =
    let s = held_sizes _ (good _ _ c.is_recording.ensures c.if-not-is_recording.false) in
    let n = c.sections_of-sections.result in
    rw (text c.args.bytes.now n) (omega (arith, length-drop (bodies n) c.args.bytes.now))

pub returns : goal.returns
returns c =
    let n = c.sections_of-sections in
    let r =
    is_read _ _ _ (good _ _ c.is_recording.ensures c.if-not-is_recording.false) _ _ n.ensures.0 (text c.args.bytes.now n.result) (omega arith) (omega arith) _ _ _ c.byte_at.ensures
    c.put_counts.ensures c.put_bytes.ensures.memory in
    record { answer = r.0; counts = r.1.0; events = r.1.1 }
