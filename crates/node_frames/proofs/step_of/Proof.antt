-- `step_of` is `step_number`.
use borrow.Author.Rules.{rules}
use borrow.Author.Tests.{eq-eqb, ne_eqb}
use mathlib.Core.Path.{sym}
use Rattle.base.proofs.Laws.{choose_yes, choose_no}
use Rattle.node_frames.proofs.step_of.Statement.{statement}
use Rattle.node_frames.proofs.step_of.Tie as tie

returns : tie.Need-returns-then-pass-eq1
returns c = sym (choose_yes _ _ (eq-eqb _ _ c.if-pass-eq1.true))

returns_2 : tie.Need-returns-else-pass-eq1
returns_2 c = sym (choose_no _ _ (ne_eqb _ _ c.if-pass-eq1.false))

pub step_of_spec : {M : Type 1} → statement M
step_of_spec = tie.close (tie.spec (λ c. search rules) returns returns_2)
