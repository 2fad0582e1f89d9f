-- `events_good`: what is left to test at event i is the test of the events from i on.
use borrow.Author.Rules.{rules}
use borrow.Author.Tests.{not-true, not-false}
use native.Mathlib.Nat.{sub-zero}
use native.Mathlib.Omega.{arith}
use mathlib.Core.List.{List}
use mathlib.Core.Path.{◌≡◌, sym, ◌∙◌}
use Prim.Native.Nat.{ℕ, ◌+◌, ◌-◌, ◌*◌, ◌/◌, ◌≤◌}
use lib.ListN.{length}
use Rattle.base.specs.Choice.{both, every}
use Rattle.base.proofs.Laws.{every_here, every_end}
use Rattle.recording.specs.Test.{good_at, good_events}
use Rattle.recording_events.proofs.events_good.Statement.{statement}
use Rattle.recording_events.proofs.events_good.Tie as tie

abbrev invariant-loop : tie.invariant-loop-i
invariant-loop nodes events n i₀ i =
    (i ≤ n) × (good_events nodes events ≡ every i (n - i) (good_at nodes events))

abbrev decreases-loop : tie.decreases-loop-i
decreases-loop nodes events n i₀ i = n - i

start : (nodes : ℕ) (events : List ℕ)
    → good_events nodes events ≡ every 0 (length events / 4 - 0) (good_at nodes events)
unfolding good_events
start nodes events = rw sub-zero

loop_holds : tie.Need-loop-i-init invariant-loop decreases-loop
loop_holds c = (search rules, start _ _)

-- the test of event i, and of the events after it
turn : (c : tie.After-event_good invariant-loop decreases-loop)
    → let l = c in
    let x = l.args in
    let f = good_at x.nodes x.events.now in
    let n = length x.events.now / 4 in
    good_events x.nodes x.events.now
    ≡ both c.event_good.result (every (l.loop-i.i + 1) (n - (l.loop-i.i + 1)) f)
turn c =
    let i = c.before.before.before.before in
    let l = i in
    let z : 4 * l.loop-i.i + 0 ≡ 4 * l.loop-i.i = omega arith in
    l.loop-i.invariant.1 ∙ every_here _ _ _ i.loop-i-test.true ∙ rw (z, c.event_good.ensures)

returns : tie.Need-returns-then-not-event_good invariant-loop decreases-loop
returns c = sym (turn c.before ∙ rw c.if-not-event_good.true)

loop_again : tie.Need-loop-i-preserved invariant-loop decreases-loop
loop_again c = (search rules, turn c.before ∙ rw c.if-not-event_good.false)

returns_2 : tie.Need-returns invariant-loop decreases-loop
returns_2 c = sym (c.loop-i.invariant.1 ∙ every_end _ _ _ c.loop-i-test.false)

pub events_good_spec : {M : Type 1} → statement M
events_good_spec =
    tie.close
    (tie.spec invariant-loop decreases-loop loop_holds (λ c. search rules) (λ c. search rules) (λ c. search rules)
    (λ c. search rules) (λ c. search rules) (λ c. search rules) (λ c. search rules) (λ c. search rules)
    (λ c κs. search rules) returns (λ c. search rules) (λ c. search rules) loop_again returns_2)
