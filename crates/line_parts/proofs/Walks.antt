-- The digits among bytes.
use mathlib.Core.Path.{◌≡◌, refl}
use mathlib.Core.Bool.{Bool, true, false, ◌&&◌}
use mathlib.Core.List.{List, [], ◌∷◌}
use Prim.Native.Nat.{ℕ}
use lib.Dec.{leb}
use Rattle.std.specs.List.{list_all}
use Rattle.std.specs.Char.{is_ascii_digit}
use Rattle.base.specs.Choice.{both}
use Rattle.line_parts.specs.Parts.{all_digits}

-- the test of each byte, joined
pub all_same : (s : List ℕ) → list_all is_ascii_digit s ≡ all_digits s
all_same [] = refl
all_same (x ∷ s) = go (leb 48 x) (leb x 57) (all_same s)
  where
    go : (t u : Bool) {a b : Bool} → a ≡ b → (t && u && a) ≡ both (both t u) b
    go true true e = e
    go true false e = refl
    go false u e = refl
