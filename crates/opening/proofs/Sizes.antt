-- The sizes of a board that can be played.
use mathlib.Core.Path.{◌≡◌}
use mathlib.Core.Bool.{false}
use Prim.Native.Nat.{ℕ, ◌≤◌, ◌<◌}
use native.Mathlib.Omega.{arith}
use lib.Dec.{eqb, ltb}
use borrow.Author.Tests.{ltb-false, eqb-false}
use Rattle.base.specs.Choice.{either}
use Rattle.base.proofs.Laws.{either_false}

pub size_good : (size : ℕ) → either (eqb size 0) (ltb 16 size) ≡ false → size ≤ 16
size_good size e = ltb-false 16 size (either_false (eqb size 0) (ltb 16 size) e).1

pub size_some : (size : ℕ) → either (eqb size 0) (ltb 16 size) ≡ false → 0 < size
size_some size e =
    let n = eqb-false size 0 (either_false (eqb size 0) (ltb 16 size) e).0 in omega (arith, n)
