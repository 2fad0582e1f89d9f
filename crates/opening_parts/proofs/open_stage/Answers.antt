-- `open_stage` is `opening`.
use native.Mathlib.Omega.{arith}
use mathlib.Core.Path.{◌≡◌, ap, ◌∙◌}
use lib.ListN.{set}
use Rattle.opening_parts.proofs.Starts.{filled, fill_none, fill_next, fill_all}
use Rattle.opening_parts.proofs.open_stage.Goals as goal

pub loop-a-init : goal.loop-a-init
loop-a-init c = fill_none c.args.size _ c.none-states.ensures

pub loop-a-preserved : goal.loop-a-preserved
loop-a-preserved c =
    let size = c.args.size in
    let a = c.loop-a.a in
    ap (λ l. set l a c.fresh.result) c.loop-a.invariant
    ∙ ap (set (filled size a) a) c.fresh.ensures
    ∙ fill_next size a c.loop-a-test.true

pub returns : goal.returns
returns c =
    let size = c.args.size in
    ap (λ l. record { states = l; size = size; under = 0 }) c.loop-a.invariant ∙ fill_all size c.loop-a.a (omega arith)
