-- `is_placed`: what is left to test at section i is the test of the sections from i on.
use borrow.Author.Rules.{rules}
use borrow.Author.Tests.{eq-eqb, ne_eqb}
use native.Mathlib.Omega.{arith}
use mathlib.Core.Path.{◌≡◌, sym, ◌∙◌}
use Prim.Native.Nat.{◌+◌, ◌-◌, ◌*◌, ◌≤◌}
use lib.Dec.{eqb}
use Rattle.base.specs.Choice.{both}
use Rattle.recording.specs.Recording.{bodies, count_at}
use Rattle.recording.specs.Test.{placed}
use Rattle.recording.proofs.Tests.{placed_start, placed_here, placed_end}
use Rattle.recording_test.proofs.is_placed.Statement.{statement}
use Rattle.recording_test.proofs.is_placed.Tie as tie

-- a body has at most 65,535 events, so each place is in range
abbrev invariant-loop : tie.invariant-loop-i
invariant-loop bytes sections at₀ i₀ at i =
    (i ≤ sections) × (at ≤ 1000000 * (i + 1))
    × (placed bytes (bodies sections) 0 sections ≡ placed bytes at i (sections - i))

abbrev decreases-loop : tie.decreases-loop-i
decreases-loop bytes sections at₀ i₀ at i = sections - i

loop_holds : tie.Need-loop-i-init invariant-loop decreases-loop
loop_holds c = (omega arith, omega arith, placed_start _ _ _)

-- the test of section i, and of the sections after it
turn : (c : tie.After-number_at invariant-loop decreases-loop)
    → let l = c in
    let x = l.args in
    let bs = x.bytes.now in
    placed bs (bodies x.sections) 0 x.sections
    ≡ both (eqb c.number_at.result l.loop-i.at)
    (placed bs (l.loop-i.at + 4 * count_at bs l.loop-i.i) (l.loop-i.i + 1) (x.sections - (l.loop-i.i + 1)))
turn c =
    c.loop-i.invariant.2
    ∙ placed_here _ _ _ _ c.loop-i-test.true
    ∙ rw c.number_at.ensures.0

returns : tie.Need-returns-then-number_at-at invariant-loop decreases-loop
returns c = sym (turn c.before ∙ rw (ne_eqb _ _ c.if-number_at-at.true))

loop_again : tie.Need-loop-i-preserved invariant-loop decreases-loop
loop_again c = (
  omega arith,
  omega arith,
  turn c.before.before ∙ rw (eq-eqb _ _ c.if-number_at-at.false, c.number_at-in-loop-i.ensures.0),
)

returns_2 : tie.Need-returns invariant-loop decreases-loop
returns_2 c = sym (c.loop-i.invariant.2 ∙ placed_end _ _ _ _ c.loop-i-test.false)

pub is_placed_spec : {M : Type 1} → statement M
is_placed_spec =
    tie.close
    (tie.spec invariant-loop decreases-loop (λ c. search rules) (λ c. search rules) (λ c. search rules) loop_holds
    (λ c. search rules) (λ c. search rules) (λ c κs. search rules) returns (λ c. search rules) (λ c. search rules)
    (λ c κs. search rules) (λ c. search rules) (λ c. search rules) (λ c. search rules) (λ c. search rules)
    loop_again returns_2)
