-- `awaits_at`: not alone in dimension 0.
use borrow.Author.Tests.{eq-eqb, ne_eqb}
use native.Mathlib.Omega.{arith}
use Rattle.scan_tests.proofs.awaits_at.Statement.{statement}
use Rattle.scan_tests.proofs.awaits_at.Tie as tie

returns : tie.Need-returns-then-k-gt0
returns c =
    let k = c.args.k in
    rw (ne_eqb k 0 (λ e. omega arith))

returns_2 : tie.Need-returns
returns_2 c =
    let k = c.args.k in
    rw (eq-eqb k 0 (omega arith))

pub awaits_at_spec : {M : Type 1} → statement M
awaits_at_spec = tie.close (tie.spec returns returns_2)
