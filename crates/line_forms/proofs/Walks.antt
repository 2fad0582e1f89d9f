-- What the search for a byte finds.
use borrow.Author.Tests.{ltb-false}
use native.Mathlib.Omega.{arith}
use mathlib.Core.Path.{◌≡◌, refl}
use mathlib.Core.Bool.{Bool, true, false, not, cond}
use mathlib.Core.List.{List, [], ◌∷◌}
use Prim.Native.Nat.{ℕ, suc, ◌+◌, ◌≤◌}
use lib.Dec.{eqb, ltb}
use lib.ListN.{length}
use Rattle.std.proofs.Common.{Some, None, unwrap_or}
use Rattle.std.specs.List.{position, position_or_len}
use Rattle.base.specs.Choice.{choose}
use Rattle.line_forms.specs.Forms.{before}

pub before_within : (byte : ℕ) (s : List ℕ) → before byte s ≤ length s
unfolding before
before_within byte [] = omega arith
before_within byte (x ∷ s) = go (eqb x byte) (before_within byte s)
  where
    go : (t : Bool) {n m : ℕ} → n ≤ m → choose t 0 (suc n) ≤ suc m
    go true h = omega arith
    go false h = omega arith

place : (byte : ℕ) (s : List ℕ) → position_or_len (λ x. eqb x byte) s ≡ before byte s
unfolding before
place byte [] = refl
place byte (x ∷ s) = go (eqb x byte) (place byte s)
  where
    go : (t : Bool) {n m : ℕ} → n ≡ m → cond (not t) (1 + n) 0 ≡ choose t 0 (suc m)
    go true e = refl
    go false e = omega arith

pub found : (byte : ℕ) (s : List ℕ) → unwrap_or (position (λ x. eqb x byte) s) (length s) ≡ before byte s
found byte s =
    let n = position_or_len (λ x. eqb x byte) s in
    go (ltb n (length s)) (place byte s) (ltb-false n (length s))
  where
    go : (t : Bool) {n : ℕ} → n ≡ before byte s → (t ≡ false → length s ≤ n)
        → unwrap_or (cond t (Some n) None) (length s) ≡ before byte s
    go true e h = e
    go false e h = let w = before_within byte s in let l = h refl in omega arith
