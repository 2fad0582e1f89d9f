-- `put_events`: what is put, and what the lines that are left say, is all.
use borrow.Author.Rules.{rules}
use mathlib.Core.Path.{◌≡◌, refl, ap, ◌∙◌}
use Prim.Native.Nat.{◌≤◌, ◌-◌}
use native.Mathlib.Omega.{arith}
use lib.ListN.{length}
use Rattle.printing.specs.Put.{put, ends}
use Rattle.printing.proofs.Putting.{Written, length_put}
use Rattle.script_events.specs.Events.{events_from, events_of}
use Rattle.script_events.proofs.Events.{turn, less, last}
use Rattle.script_events.proofs.put_events.Statement.{statement}
use Rattle.script_events.proofs.put_events.Tie as tie

abbrev invariant-loop : tie.invariant-loop-at
invariant-loop events₀ script text at₀ from₀ end₀ events at from end =
    let rest = events_from script text (length script) at from in
    (end ≤ length events) × (length events ≡ length events₀)
    × Written events₀ 0 (events_of script text) (put events end rest) (ends events end rest)

abbrev decreases-loop : tie.decreases-loop-at
decreases-loop events₀ script text at₀ from₀ end₀ events at from end = length script - at

loop_holds : tie.Need-loop-at-init invariant-loop decreases-loop
unfolding events_of
loop_holds c = (omega arith, refl, rw (c.line_at-at.ensures, c.next_from-from.ensures) (refl, refl))

loop-less : tie.Need-loop-at-smaller invariant-loop decreases-loop
loop-less c =
    let l = c in
    less _ _ _ l.loop-at-test.true l.line_at-p.ensures

loop_again : tie.Need-loop-at-preserved invariant-loop decreases-loop
loop_again c =
    let p = c in
    let a = p in
    let l = a in
    let i = l.loop-at.invariant in
    let w = p.put_event-end.ensures in
    let n : length p.put_event-end.new.events ≡ length l.loop-at.events =
    ap length w.0 ∙ length_put _ _ _ in (
      omega arith,
      n ∙ i.1,
      turn _ _ _ _ _ _ _ _ _ _ _ _ _ l.loop-at-test.true l.line_at-p.ensures a.answer_at.ensures
          c.next_from-from-in-loop-at.ensures i.2 w,
    )

same_length : tie.Need-shape_of-events invariant-loop decreases-loop
same_length c = c.loop-at.invariant.1

returns : tie.Need-returns invariant-loop decreases-loop
returns c = let l = c.loop-at in last _ _ _ _ _ _ _ _ c.loop-at-test.false l.invariant.0 l.invariant.2

pub put_events_spec : {M : Type 1} → statement M
put_events_spec =
    tie.close
    (tie.spec invariant-loop decreases-loop (λ c κs. search rules) (λ c κs. search rules) loop_holds (λ c κs. search rules)
    (λ c κs. search rules) (λ c κs. search rules) (λ c κs. search rules) loop-less loop_again same_length returns)
