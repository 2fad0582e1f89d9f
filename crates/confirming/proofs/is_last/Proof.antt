-- `is_last`: k is below p where it is the last.
use borrow.Author.Rules.{rules}
use borrow.Author.Tests.{le-ltb, ne_eqb}
use native.Mathlib.Numerals.{add-one}
use native.Mathlib.Omega.{arith}
use mathlib.Core.Path.{sym, ap, ◌∙◌}
use Prim.Native.Nat.{suc}
use lib.Dec.{eqb}
use Rattle.confirming.proofs.is_last.Statement.{statement}
use Rattle.confirming.proofs.is_last.Tie as tie

returns : tie.Need-returns-then-k-p
returns c = let a = c.args in ap (λ m. eqb m a.p) (add-one a.k)

returns_2 : tie.Need-returns-else-k-p
returns_2 c =
    let a = c.args in
    let far = c.if-k-p.false in
    le-ltb a.k a.p (omega (arith, far)) ∙ sym (ne_eqb (suc a.k) a.p (λ e. omega (arith, far, e)))

pub is_last_spec : {M : Type 1} → statement M
is_last_spec = tie.close (tie.spec (λ c. search rules) returns returns_2)
