-- `bound_for`: 0 where no frame is stored.
use borrow.Author.Tests.{eq-eqb, ne_eqb}
use Rattle.scan_tests.proofs.bound_for.Statement.{statement}
use Rattle.scan_tests.proofs.bound_for.Tie as tie

returns : tie.Need-returns-then-mark-eq0
returns c = rw (eq-eqb _ _ c.if-mark-eq0.true)

returns_2 : tie.Need-returns
returns_2 c = rw (ne_eqb _ _ c.if-mark-eq0.false)

pub bound_for_spec : {M : Type 1} → statement M
bound_for_spec = tie.close (tie.spec returns returns_2)
