-- `total_ok`: all steps pass, and `total_tested`.
use borrow.Author.Tests.{eq-eqb, ne_eqb}
use Rattle.scan_tests.proofs.total_ok.Statement.{statement}
use Rattle.scan_tests.proofs.total_ok.Tie as tie

returns : tie.Need-returns-then-not-passed
returns c = rw c.if-not-passed.true

returns_2 : tie.Need-returns-then-pass-eq1
returns_2 c = let e = c in rw (e.if-not-passed.false, eq-eqb _ _ c.if-pass-eq1.true)

returns_3 : tie.Need-returns
returns_3 c =
    let o = c in
    let e = o in
    rw (e.if-not-passed.false, ne_eqb _ _ o.if-pass-eq1.false)

pub total_ok_spec : {M : Type 1} → statement M
total_ok_spec = tie.close (tie.spec returns returns_2 returns_3)
