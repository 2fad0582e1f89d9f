-- `dimension_for` answers `dimension_lookup`: the leading zeros of P − 1 give the dimension.
use borrow.Author.Rules.{rules}
use borrow.Author.Tests.{le-ltb, lt-ltb, eq-eqb, ne_eqb}
use native.Mathlib.Omega.{arith}
use mathlib.Core.Path.{ap}
use lib.Count.{leading_le}
use Prim.Native.Nat.{suc, ◌≤◌}
use Rattle.base.specs.Limits.{last_of}
use Rattle.base.specs.Refusal.{found}
use Rattle.tree.specs.Lookups.{dimension_lookup}
use Rattle.tree.proofs.Dimension.{dimension_one, dimension_zeros}
use Rattle.tree.proofs.dimension_for.Statement.{statement}
use Rattle.tree.proofs.dimension_for.Tie as tie

returns : tie.Need-returns-then-nodes-eq0
unfolding dimension_lookup
returns c = simp (eq-eqb _ _ c.if-nodes-eq0.true)

returns_2 : tie.Need-returns-then-most-nodes
unfolding dimension_lookup
returns_2 c =
    let a = c.args in
    simp (ne_eqb _ _ c.if-nodes-eq0.false, lt-ltb (suc (last_of a.b)) a.nodes (omega arith))

returns_3 : tie.Need-returns-then-nodes-eq1
unfolding dimension_lookup
returns_3 c =
    let a = c.args in
    simp (c.if-nodes-eq1.true, le-ltb (suc (last_of a.b)) 1 (omega arith), dimension_one)

returns-4 : tie.Need-returns
unfolding dimension_lookup
returns-4 c =
    let a = c.args in
    let low : a.nodes ≤ suc (last_of a.b) = omega arith in
    simp (ne_eqb _ _ c.if-nodes-eq0.false, le-ltb (suc (last_of a.b)) a.nodes low)
    (ap found (omega (
      arith,
      dimension_zeros 32 a.nodes (omega (arith, c.if-nodes-eq0.false, c.if-nodes-eq1.false)) (omega arith),
    )))

pub dimension_for_spec : {M : Type 1} → statement M
dimension_for_spec =
    tie.close (tie.spec (λ c. search rules) (λ c. search rules) returns returns_2 returns_3 (λ c. search rules) (λ c. leading_le _ _) returns-4)
