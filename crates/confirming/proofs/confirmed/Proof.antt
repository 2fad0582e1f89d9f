-- `confirmed` is `added`: the sum grows where no clause fails.
use borrow.Author.Tests.{eq-eqb, ne_eqb}
use mathlib.Core.Path.{sym, ◌∙◌}
use Rattle.base.proofs.Laws.{choose_yes, choose_no}
use Rattle.confirming.proofs.confirmed.Statement.{statement}
use Rattle.confirming.proofs.confirmed.Tie as tie

returns : tie.Need-returns-then-clause-ne-NO_CLAUSE
returns c = c.tested.ensures ∙ sym (choose_no _ _ (ne_eqb _ _ c.if-clause-ne-NO_CLAUSE.true))

add-t6 : tie.Need-overflow_add-result
add-t6 c = record { fits = c.requires c.if-clause-ne-NO_CLAUSE.false }

returns_2 : tie.Need-returns
returns_2 c = sym (choose_yes _ _ (eq-eqb _ _ c.if-clause-ne-NO_CLAUSE.false))

pub confirmed_spec : {M : Type 1} → statement M
confirmed_spec = tie.close (tie.spec (λ c κs. tt) returns add-t6 returns_2)
