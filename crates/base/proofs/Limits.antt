-- Laws of the limits: what they come to in the largest build bounds them in every build.
use Prim.Native.Nat.{ℕ, zero, suc, ◌-◌, ◌*◌, ◌≤◌, ◌<◌}
use native.Mathlib.Omega.{arith}
use lib.Dec.{ltb}
use borrow.Author.Tests.{ltb-true}
use Rattle.base.specs.Limits.{Limits, field_limit, taken_limit, base, Fits, last_of, limits_of}
use Rattle.base.specs.declared.Bounds.{Bounds}
use Rattle.base.proofs.Laws.{cases}

pub mul_low : (a c b d : ℕ) → a ≤ c → b ≤ d → a * b ≤ c * d
mul_low zero c b d k l = omega arith
mul_low (suc a) zero b d k l = absurd (omega arith)
mul_low (suc a) (suc c) b d k l = let i = mul_low a c b d (omega arith) l in omega arith

-- the highest number of a node is that of a board of the largest build
pub last_low : (b : Bounds) → last_of b < base.nodes
last_low b = cases (λ n. n < base.nodes) (ltb b.last base.nodes) _ _ (λ e. ltb-true _ _ e) (λ e. omega arith)

pub fits_of : (b : Bounds) → b.sends < 65536 → Fits (limits_of b)
fits_of b l = record { nodes = last_low b; sends = omega arith }

pub fits_base : Fits base
fits_base = record { nodes = omega arith; sends = omega arith }

module _ (L : Limits) (fit : Fits L) where
  pub field_low : field_limit L ≤ field_limit base
  field_low = mul_low L.nodes base.nodes L.sends base.sends fit.nodes fit.sends

  pub taken_low : taken_limit L ≤ taken_limit base
  taken_low = mul_low (L.nodes - 1) (base.nodes - 1) L.sends base.sends (let n = fit.nodes in omega arith) fit.sends
