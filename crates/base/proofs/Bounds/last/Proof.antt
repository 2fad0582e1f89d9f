-- `last` is `last_of`.
use borrow.Author.Rules.{rules}
use borrow.Author.Tests.{lt-ltb, le-ltb}
use native.Mathlib.Omega.{arith}
use mathlib.Core.Path.{sym}
use Rattle.base.specs.Limits.{base}
use Rattle.base.proofs.Laws.{choose_yes, choose_no}
use Rattle.base.proofs.Bounds.last.Statement.{statement}
use Rattle.base.proofs.Bounds.last.Tie as tie

returns : tie.Need-returns-then-handed-lt-NODES
returns c = (sym (choose_yes _ _ (lt-ltb _ base.nodes c.if-handed-lt-NODES.true)), omega (arith, c.if-handed-lt-NODES.true))

returns_2 : tie.Need-returns-else-handed-lt-NODES
returns_2 c = (sym (choose_no _ _ (le-ltb _ base.nodes c.if-handed-lt-NODES.false)), omega arith)

pub last_spec : {M : Type 1} → statement M
last_spec = tie.close (tie.spec (λ c. search rules) (λ c. search rules) returns returns_2)
