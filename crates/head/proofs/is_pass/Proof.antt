-- `is_pass`: one test or the other.
use borrow.Author.Tests.{eq-eqb, ne_eqb}
use Rattle.head.proofs.is_pass.Statement.{statement}
use Rattle.head.proofs.is_pass.Tie as tie

returns : tie.Need-returns-then-pass-eq1
returns c = rw (eq-eqb _ _ c.if-pass-eq1.true)

returns_2 : tie.Need-returns-else-pass-eq1
returns_2 c = rw (ne_eqb _ _ c.if-pass-eq1.false)

pub is_pass_spec : {M : Type 1} → statement M
is_pass_spec =
    tie.close (tie.spec returns returns_2)
