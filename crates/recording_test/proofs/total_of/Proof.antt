-- `total_of`: before section i is counted, the events of those before it are.
use borrow.Author.Rules.{rules}
use native.Mathlib.Omega.{arith}
use mathlib.Core.Path.{◌≡◌, refl}
use Prim.Native.Nat.{◌-◌, ◌*◌, ◌≤◌}
use Rattle.base.specs.Choice.{list}
use Rattle.recording.specs.Recording.{count_at}
use Rattle.recording.specs.Test.{sum}
use Rattle.recording.proofs.Sums.{sum_more}
use Rattle.recording_test.proofs.total_of.Statement.{statement}
use Rattle.recording_test.proofs.total_of.Tie as tie

abbrev invariant-loop : tie.invariant-loop-i
invariant-loop bytes sections total₀ i₀ total i =
    (i ≤ sections) × (total ≤ 65535 * i) × (total ≡ sum (list 0 i (count_at bytes)))

abbrev decreases-loop : tie.decreases-loop-i
decreases-loop bytes sections total₀ i₀ total i = sections - i

loop_holds : tie.Need-loop-i-init invariant-loop decreases-loop
unfolding sum
loop_holds c = (omega arith, omega arith, refl)

loop_again : tie.Need-loop-i-preserved invariant-loop decreases-loop
loop_again c = (omega arith, omega arith, rw sum_more (cc))

returns : tie.Need-returns invariant-loop decreases-loop
returns c = let e : c.loop-i.i ≡ c.args.sections = omega arith in cc

pub total_of_spec : {M : Type 1} → statement M
total_of_spec =
    tie.close
    (tie.spec invariant-loop decreases-loop loop_holds (λ c. search rules) (λ c. search rules) (λ c κs. search rules)
    (λ c. search rules) (λ c. search rules) (λ c. search rules) (λ c. search rules) loop_again returns)
