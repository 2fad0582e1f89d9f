-- `total_of`: before a count is added, those before it are.
use borrow.Author.Rules.{rules}
use native.Mathlib.Omega.{arith}
use mathlib.Core.Path.{◌≡◌, sym, ap, ◌∙◌}
use Prim.Native.Nat.{◌*◌, ◌-◌, ◌≤◌}
use lib.ListN.{length, take}
use lib.Seq.{take_all}
use Rattle.recording.specs.Test.{sum}
use Rattle.write_parts.proofs.Growing.{sum_none, sum_more}
use Rattle.write_parts.proofs.total_of.Statement.{statement}
use Rattle.write_parts.proofs.total_of.Tie as tie

abbrev invariant-loop : tie.invariant-loop-i
invariant-loop counts total₀ i₀ i-end total i =
    (i ≤ length counts) × (total ≡ sum (take i counts)) × (total ≤ i * 4294967295)

abbrev decreases-loop : tie.decreases-loop-i
decreases-loop counts total₀ i₀ i-end total i = length counts - i

loop_holds : tie.Need-loop-i-init invariant-loop decreases-loop
loop_holds c = (omega arith, sym sum_none, omega arith)

loop_again : tie.Need-loop-i-preserved invariant-loop decreases-loop
loop_again c =
    let b = c in
    let x = c.shared_slice_known-1.given b.loop-i.i in
    let l = b.args.counts.now in (
      omega arith,
      omega (arith, sum_more l b.loop-i.i c.loop-i-test.true),
      omega arith,
    )

returns : tie.Need-returns invariant-loop decreases-loop
returns c = c.loop-i.invariant.1 ∙ ap sum (take_all _ _ c.loop-i-test.false)

pub total_of_spec : {M : Type 1} → statement M
total_of_spec =
    tie.close
    (tie.spec invariant-loop decreases-loop loop_holds (λ c. omega arith) (λ c. search rules)
    (λ c. omega (arith, c.shared_slice_known-1.given c.loop-i.i))
    (λ c. omega (arith, c.shared_slice_known-1.given c.loop-i.i)) (λ c. search rules)
    (λ c. search rules) loop_again returns)
