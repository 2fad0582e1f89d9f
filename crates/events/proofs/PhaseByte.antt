-- Where two phases are within one of one another, the difference of their bytes tells which is later.
use mathlib.Core.Path.{◌≡◌}
use mathlib.Core.Logic.{◌⊎◌, inl, inr}
use Prim.Native.Nat.{ℕ, suc, ◌+◌, ◌%◌, ◌≤◌, ◌<◌}
use native.Mathlib.Decide.{ℕ_discrete, dec_lt}
use native.Mathlib.Omega.{arith}
use Rattle.frame.specs.Timing.{difference}

-- the difference of the bytes of two phases
abbrev pub apart : ℕ → ℕ → ℕ
apart x y = difference (x % 256) (y % 256)

pub apart_same : (x y : ℕ) → x ≤ suc y → y ≤ suc x → apart x y ≡ 0 → x ≡ y
apart_same x y a b e = omega arith

pub apart_late : (x y : ℕ) → x ≤ suc y → y ≤ suc x → apart x y ≡ 255 → x < y
apart_late x y a b e = omega arith

-- the next byte is that of the next phase
pub next_byte : (c : ℕ) → (c % 256 + 1) % 256 ≡ suc c % 256
next_byte c = omega arith

-- not behind: now or early
pub now_or_early : (x y : ℕ) → x ≤ suc y → y ≤ x → (apart x y ≡ 0) ⊎ (apart x y ≡ 1)
now_or_early x y a b = go (ℕ_discrete x y)
  where
    go : Dec (x ≡ y) → (apart x y ≡ 0) ⊎ (apart x y ≡ 1)
    go (yes e) = inl (omega arith)
    go (no e) = inr (omega arith)

-- never foreign
pub not_foreign : (x y : ℕ) → x ≤ suc y → y ≤ suc x → (apart x y ≡ 0) ⊎ ((apart x y ≡ 1) ⊎ (apart x y ≡ 255))
not_foreign x y a b = go (ℕ_discrete x y) (dec_lt x y)
  where
    go : Dec (x ≡ y) → Dec (x < y) → (apart x y ≡ 0) ⊎ ((apart x y ≡ 1) ⊎ (apart x y ≡ 255))
    go (yes e) d = inl (omega arith)
    go (no e) (yes d) = inr (inr (omega arith))
    go (no e) (no d) = inr (inl (omega arith))
