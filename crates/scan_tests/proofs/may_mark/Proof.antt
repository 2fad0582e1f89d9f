-- `may_mark`: 0, or 1 where a frame is awaited.
use borrow.Author.Tests.{eq-eqb, ne_eqb}
use Rattle.scan_tests.proofs.may_mark.Statement.{statement}
use Rattle.scan_tests.proofs.may_mark.Tie as tie

returns : tie.Need-returns-then-mark-eq0
returns c = rw (eq-eqb _ _ c.if-mark-eq0.true)

returns_2 : tie.Need-returns-then-mark-ne1
returns_2 c = rw (ne_eqb _ _ c.if-mark-eq0.false, ne_eqb _ _ c.if-mark-ne1.true)

returns_3 : tie.Need-returns
returns_3 c = rw c.if-mark-ne1.false

pub may_mark_spec : {M : Type 1} → statement M
may_mark_spec = tie.close (tie.spec returns returns_2 returns_3)
