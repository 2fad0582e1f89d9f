-- `across_from` is `across`.
use Rattle.std.proofs.Common.{arith}
use mathlib.Core.Path.{sym, ◌∙◌}
use Rattle.tree.specs.Lookups.{nodes_of}
use Rattle.tree.proofs.Places.{across_left, across_right}
use Rattle.lookups.proofs.across_from.Goals as goal

pub returns-then-node-next : goal.returns-then-node-next
returns-then-node-next c = let x = c.args in sym (across_left (nodes_of x.r) x.node (omega arith) ∙ (omega arith))

pub returns-else-node-next : goal.returns-else-node-next
returns-else-node-next c = let x = c.args in sym (across_right (nodes_of x.r) x.node (omega arith) ∙ (omega arith))
