-- Each turn copies one item down; at the end nothing is left to move.
use Rattle.std.proofs.Common.{◌-◌, ◌∙◌, sym, ap, refl, length, length-set}
use Rattle.item_changes.specs.Places.{moved}
use Rattle.item_changes.proofs.Lists.{moves_one, moves_all, moves_none}
use Rattle.item_changes.proofs.remove_item.Goals as goal

pub loop-i-preserved : goal.loop-i-preserved
loop-i-preserved c =
    let e = moves_one c.loop-i.items _ c.loop-i.i c.last_of-i-end.result c.loop-i-test.true refl in
    (simp length-set c.loop-i.invariant.0, sym e ∙ c.loop-i.invariant.1)

pub returns : goal.returns
returns c =
    let e = moves_none c.loop-i.items c.loop-i.i c.last_of-i-end.result c.loop-i-test.false in
    sym e ∙ c.loop-i.invariant.1
    ∙ ap (λ k. moved c.args.items.now c.args.at (k - c.args.at)) c.last_of-i-end.ensures
    ∙ moves_all c.args.items.now c.args.n c.args.at (length c.args.items.now)
