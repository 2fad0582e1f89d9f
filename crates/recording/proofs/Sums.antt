-- Sums of values listed by a rule.
use mathlib.Core.Path.{◌≡◌, ap, ◌∙◌}
use mathlib.Core.List.{List, [], ◌∷◌, ◌++◌}
use Prim.Native.Nat.{ℕ, ◌+◌}
use native.Mathlib.Omega.{arith}
use Rattle.base.specs.Choice.{list}
use Rattle.base.proofs.Laws.{list_more}
use Rattle.recording.specs.Test.{sum}

pub sum_append : (ns ms : List ℕ) → sum (ns ++ ms) ≡ sum ns + sum ms
unfolding sum
sum_append [] ms = omega arith
sum_append (n ∷ ns) ms = omega (arith, sum_append ns ms)

-- one value more at the end
pub sum_more : (n : ℕ) (f : ℕ → ℕ) → sum (list 0 (n + 1) f) ≡ sum (list 0 n f) + f n
unfolding sum
sum_more n f =
    let z : 0 + n ≡ n = omega arith in
    ap sum (list_more 0 n f) ∙ sum_append (list 0 n f) (f (0 + n) ∷ []) ∙ rw z (omega arith)
