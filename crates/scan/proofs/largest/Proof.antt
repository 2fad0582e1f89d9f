-- `largest`: the largest so far and the words from i on are within a limit where all the words are.
use borrow.Author.Tests.{le-leb}
use mathlib.Core.Path.{◌≡◌, refl, sym, ap, ◌∙◌}
use mathlib.Core.Bool.{Bool, true, false}
use Prim.Native.Nat.{ℕ, ◌+◌, ◌-◌, zero-le}
use lib.Dec.{leb}
use lib.ListN.{length}
use mir.Facts.{Fits-below}
use Rattle.base.specs.Choice.{both, every}
use Rattle.base.proofs.Laws.{every_here, every_end}
use Rattle.layout.specs.Held.{word}
use Rattle.stored.specs.Held.{is_low, low_after}
use Rattle.scanned.proofs.Places.{Read, read}
use Rattle.scan.proofs.largest.Statement.{statement}
use Rattle.scan.proofs.largest.Tie as tie

abbrev invariant-loop : tie.invariant-loop-i
invariant-loop s most₀ i₀ i-end most i =
    (limit : ℕ) → both (leb most limit) (every i (length s - i) (is_low limit s)) ≡ low_after limit s 0 (length s)

abbrev decreases-loop : tie.decreases-loop-i
decreases-loop s most₀ i₀ i-end most i = i-end - i

grouped : (a b c : Bool) → both (both a b) c ≡ both a (both b c)
grouped true b c = refl
grouped false b c = refl

alone : (t : Bool) → t ≡ both t true
alone true = refl
alone false = refl

place : (c : tie.In-loop-i invariant-loop decreases-loop) → Read c.loop-i.i (length c.args.s.now)
place c = read _ _ c.loop-i-test.true c.requires

loop_again : tie.Need-loop-i-preserved invariant-loop decreases-loop
loop_again c =
    let i = c.before.before in
    let l = i in
    let ws = l.args.s.now in
    let n = l.loop-i.i in
    λ limit.
    let rest = every (n + 1) (length ws - (n + 1)) (is_low limit ws) in
    ap (λ t. both t rest) (c.larger-most.ensures limit)
    ∙ grouped (leb l.loop-i.most limit) (leb (word ws n) limit) rest
    ∙ ap (both (leb l.loop-i.most limit)) (sym (every_here n (length ws) (is_low limit ws) i.loop-i-test.true))
    ∙ l.loop-i.invariant limit

returns : tie.Need-returns invariant-loop decreases-loop
returns c =
    let l = c in
    let ws = l.args.s.now in
    λ limit.
    alone (leb l.loop-i.most limit)
    ∙ ap (both (leb l.loop-i.most limit))
    (sym (every_end l.loop-i.i (length ws) (is_low limit ws) c.loop-i-test.false))
    ∙ l.loop-i.invariant limit

pub largest_spec : {M : Type 1} → statement M
largest_spec =
    tie.close
    (tie.spec invariant-loop decreases-loop (λ c. Fits-below tt c.requires) (λ c limit. rw (le-leb 0 limit zero-le))
    (λ c. (place c).wide) (λ c. (place c).scaled) (λ c. c.loop-i-test.true) (λ c κs. tt)
    (λ c. (place c.before.before).next) (λ c. (place c.before.before).less) loop_again returns)
