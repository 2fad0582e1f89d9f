-- `larger`: it is within a limit where both are.
use borrow.Author.Tests.{le-leb, lt-leb}
use native.Mathlib.Decide.{dec_le}
use native.Mathlib.Omega.{arith}
use mathlib.Core.Path.{◌≡◌, refl, ◌∙◌}
use mathlib.Core.Bool.{Bool, true, false}
use Prim.Native.Nat.{ℕ, ◌≤◌}
use lib.Dec.{leb}
use Rattle.base.specs.Choice.{both}
use Rattle.scan_tests.proofs.larger.Statement.{statement}
use Rattle.scan_tests.proofs.larger.Tie as tie

-- the larger of two numbers decides
over : (x y limit : ℕ) → x ≤ y → leb y limit ≡ both (leb x limit) (leb y limit)
over x y limit h = go (dec_le y limit)
  where
    go : Dec (y ≤ limit) → leb y limit ≡ both (leb x limit) (leb y limit)
    go (yes l) = rw (le-leb y limit l, le-leb x limit (omega arith))
    go (no l) = rw (lt-leb y limit (omega arith)) (none (leb x limit))
      where
        none : (t : Bool) → false ≡ both t false
        none true = refl
        none false = refl

swapped : (s t : Bool) → both s t ≡ both t s
swapped true true = refl
swapped true false = refl
swapped false true = refl
swapped false false = refl

returns : tie.Need-returns-then-a-b
returns c = let a = c.args in λ limit. over a.a a.b limit (omega (arith, c.if-a-b.true))

returns_2 : tie.Need-returns
returns_2 c =
    let a = c.args in
    λ limit. over a.b a.a limit (omega (arith, c.if-a-b.false)) ∙ swapped (leb a.b limit) (leb a.a limit)

pub larger_spec : {M : Type 1} → statement M
larger_spec = tie.close (tie.spec returns returns_2)
