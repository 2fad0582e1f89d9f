-- `before_position`: what the pass gives.
use borrow.Author.Tests.{eq-eqb, ne_eqb}
use Rattle.scan_tests.proofs.before_position.Statement.{statement}
use Rattle.scan_tests.proofs.before_position.Tie as tie

returns : tie.Need-returns-then-pass-eq1
returns c = rw (eq-eqb _ _ c.if-pass-eq1.true)

returns_2 : tie.Need-returns
returns_2 c = rw (ne_eqb _ _ c.if-pass-eq1.false)

pub before_position_spec : {M : Type 1} → statement M
before_position_spec = tie.close (tie.spec returns returns_2)
