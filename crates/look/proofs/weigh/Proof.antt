-- `weigh`: the largest so far and the shells from m on are at most a number where all the shells are.
use borrow.Author.Tests.{le-leb}
use native.Mathlib.Nat.{le_of_lt}
use native.Mathlib.Omega.{arith}
use native.Mathlib.Numerals.{add-one}
use mathlib.Core.Path.{◌≡◌, refl, sym, ap, ◌∙◌}
use mathlib.Core.Bool.{Bool, true, false}
use Prim.Native.Nat.{ℕ, suc, ◌+◌, ◌-◌, ◌<◌}
use lib.Dec.{leb}
use Rattle.base.specs.Choice.{both, every}
use Rattle.base.proofs.Laws.{every_here, every_end}
use Rattle.layout.specs.Held.{first_from, sum_of}
use Rattle.adding.proofs.Places.{next_fits, fewer}
use Rattle.look.specs.Pieces.{shell_at_most}
use Rattle.look.proofs.weigh.Statement.{statement}
use Rattle.look.proofs.weigh.Tie as tie

abbrev invariant-loop : tie.invariant-loop-m
invariant-loop limit s sums p k most₀ m₀ most m =
    (k < m)
    × ((n : ℕ) → both (leb most n) (every m (p - m) (shell_at_most limit (sum_of p sums) (first_from s p k 0) n))
    ≡ every (suc k) (p - suc k) (shell_at_most limit (sum_of p sums) (first_from s p k 0) n))

abbrev decreases-loop : tie.decreases-loop-m
decreases-loop limit s sums p k most₀ m₀ most m = p - m

grouped : (a b c : Bool) → both (both a b) c ≡ both a (both b c)
grouped true b c = refl
grouped false b c = refl

alone : (t : Bool) → t ≡ both t true
alone true = refl
alone false = refl

loop_holds : tie.Need-loop-m-init invariant-loop decreases-loop
loop_holds c = (omega arith, λ n. rw (le-leb 0 n (omega arith), add-one c.args.k))

loop_again : tie.Need-loop-m-preserved invariant-loop decreases-loop
loop_again c =
    let i = c in
    let l = i in
    let a = l.args in
    let m = l.loop-m.m in (
      omega arith,
      λ n.
          let f = shell_at_most a.limit (sum_of a.p a.sums.now) (first_from a.s.now a.p a.k 0) n in
          let rest = every (m + 1) (a.p - (m + 1)) f in
          let more : leb c.larger-most.result n ≡ both (leb l.loop-m.most n) (f m) =
          c.larger-most.ensures n ∙ (λ t. both (leb l.loop-m.most n) (c.shell_excess.ensures n t)) in
          (λ t. both (more t) rest)
          ∙ grouped (leb l.loop-m.most n) (f m) rest
          ∙ ap (both (leb l.loop-m.most n)) (sym (every_here m a.p f i.loop-m-test.true))
          ∙ l.loop-m.invariant.1 n,
    )

returns : tie.Need-returns invariant-loop decreases-loop
returns c =
    let l = c in
    let a = l.args in
    λ n.
    let f = shell_at_most a.limit (sum_of a.p a.sums.now) (first_from a.s.now a.p a.k 0) n in
    alone (leb l.loop-m.most n)
    ∙ ap (both (leb l.loop-m.most n)) (sym (every_end l.loop-m.m a.p f c.loop-m-test.false))
    ∙ l.loop-m.invariant.1 n

pub weigh_spec : {M : Type 1} → statement M
weigh_spec =
    tie.close
    (tie.spec invariant-loop decreases-loop (λ c. let f = c.requires in next_fits _ _ f.low f.few) loop_holds
    (λ c κs. (c.requires, le_of_lt c.loop-m.invariant.0, c.loop-m-test.true)) (λ c κs. tt)
    (λ c. next_fits _ _ c.loop-m-test.true c.requires.few) (λ c. fewer _ _ c.loop-m-test.true) loop_again
    returns)
