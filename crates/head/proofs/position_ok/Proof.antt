-- `position_ok` is `position_test`.
use borrow.Author.Rules.{rules}
use borrow.Author.Tests.{eq-eqb, ne_eqb}
use mathlib.Core.Path.{sym}
use Rattle.head.proofs.position_ok.Statement.{statement}
use Rattle.head.proofs.position_ok.Tie as tie

returns : tie.Need-returns-then-pass-eq1
returns c = rw (eq-eqb _ _ c.if-p-eq0.true, eq-eqb _ _ c.if-pass-eq1.true)

returns_2 : tie.Need-returns-else-pass-eq1
returns_2 c = rw (eq-eqb _ _ c.if-p-eq0.true, ne_eqb _ _ c.if-pass-eq1.false)

returns_3 : tie.Need-returns-then-not-is_pass
returns_3 c =
    let i = c.is_pass in
    rw (ne_eqb _ _ c.if-p-eq0.false, sym i.ensures, c.if-not-is_pass.true)

returns-4 : tie.Need-returns
returns-4 c =
    let i = c.is_pass in
    rw (ne_eqb _ _ c.if-p-eq0.false, sym i.ensures, c.if-not-is_pass.false)

pub position_ok_spec : {M : Type 1} → statement M
position_ok_spec =
    tie.close (tie.spec returns returns_2 (λ c κs. search rules) returns_3 returns-4)
