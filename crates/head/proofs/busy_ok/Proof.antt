-- `busy_ok` is `busy_test`.
use borrow.Author.Tests.{eq-eqb, ne_eqb}
use Rattle.head.proofs.busy_ok.Statement.{statement}
use Rattle.head.proofs.busy_ok.Tie as tie

returns : tie.Need-returns-then-busy-ne1
returns c = rw (ne_eqb _ _ c.if-busy-ne1.true)

returns_2 : tie.Need-returns-then-pass-ne1
returns_2 c = rw (eq-eqb _ _ c.if-busy-ne1.false, ne_eqb _ _ c.if-pass-ne1.true)

returns_3 : tie.Need-returns-then-dim-ne0
returns_3 c =
    rw (eq-eqb _ _ c.if-busy-ne1.false, eq-eqb _ _ c.if-pass-ne1.false, ne_eqb _ _ c.if-dim-ne0.true)

returns-4 : tie.Need-returns
returns-4 c =
    rw (eq-eqb _ _ c.if-busy-ne1.false, eq-eqb _ _ c.if-pass-ne1.false, eq-eqb _ _ c.if-dim-ne0.false)

pub busy_ok_spec : {M : Type 1} → statement M
busy_ok_spec =
    tie.close (tie.spec returns returns_2 returns_3 returns-4)
