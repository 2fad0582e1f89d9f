-- The limits of a build (rule N3): how many nodes a board may have, and how many messages a node may send in a phase.
use Rattle.std.specs.Prelude.{ℕ, suc, ◌-◌, ◌*◌, ◌≤◌, ltb}
use Rattle.base.specs.Choice.{choose}
use Rattle.base.specs.declared.Bounds.{Bounds}

pub record Limits : Type 0 where
  pub nodes : ℕ
  pub sends : ℕ

-- the bound of a number in a frame (rule F2), and of a sum (clause 3 of rule N15)
abbrev pub field_limit : Limits → ℕ
field_limit L = L.nodes * L.sends

-- how many messages a node may take in a phase: S from each other node
abbrev pub taken_limit : Limits → ℕ
taken_limit L = (L.nodes - 1) * L.sends

-- the limits of the largest build
abbrev pub base : Limits
base = record { nodes = 96; sends = 65535 }

-- How many shells a state or a frame has room for: the dimension of the largest board.
abbrev pub width : ℕ
width = 7

-- a pair that the largest build has room for
pub record Fits (L : Limits) : Type 0 where
  pub nodes : L.nodes ≤ base.nodes
  pub sends : L.sends ≤ base.sends

-- The highest number of a node, as a call is handed it. A byte can hold more than the largest build has, and then stands for the highest
-- there, so that every pair fits.
abbrev pub last_of : Bounds → ℕ
last_of b = choose (ltb b.last base.nodes) b.last (base.nodes - 1)

-- the pair that a call is handed
abbrev pub limits_of : Bounds → Limits
limits_of b = record { nodes = suc (last_of b); sends = b.sends }
