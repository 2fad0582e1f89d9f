-- `put_bytes`: the bytes that have room are put one by one.
use Rattle.std.proofs.Common.{◌≡◌, ◌∙◌, refl, sym, arith, length, take, drop}
use Prim.Native.Nat.{◌+◌, ◌-◌}
use lib.ListN.{length-take, length-drop}
use lib.Seq.{take_all}
use Rattle.printing.proofs.Putting.{copied, more_taken}
use Rattle.printing.proofs.put_bytes.Goals as goal

pub loop-i-init : goal.loop-i-init
loop-i-init c = refl

pub loop-i-preserved : goal.loop-i-preserved
loop-i-preserved c = more_taken _ _ _ (omega arith) (omega arith) c.loop-i.invariant

pub returns-clause-memory : goal.returns-clause-memory
returns-clause-memory c =
    let l = c.loop-i.place-items in
    let at = c.min-start.result in
    let k = at + c.min.result - at in
    let whole : length (take k (drop at c.args.out.now)) ≡ k = rw (length-take, length-drop) (omega arith) in
    let e : c.loop-i.i ≡ k = omega (arith, whole) in
    let now = sym (take_all _ l (omega arith)) ∙ c.loop-i.invariant in
    copied _ _ _ _ _ _ _ c.min-start.ensures c.min.ensures refl (rw e at now)
