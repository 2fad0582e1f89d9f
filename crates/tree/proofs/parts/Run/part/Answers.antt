-- `part` is `part`: the test picks the left part or the right.
use mathlib.Core.Path.{sym, ◌∙◌}
use native.Mathlib.Omega.{arith}
use Rattle.tree.proofs.Runs.{run_is, part_left, part_right}
use Rattle.tree.proofs.parts.Run.part.Goals as goal

pub returns-then-node-middle : goal.returns-then-node-middle
returns-then-node-middle c =
    let m = c.middle-middle.ensures.0 in
    sym (part_left _ _ (omega arith) ∙ run_is _ _ _ (omega arith) (sym m))

pub returns : goal.returns
returns c =
    let m = c.middle-middle.ensures.0 in
    sym (part_right _ _ (omega arith) ∙ run_is _ _ _ (omega arith) (omega arith))
