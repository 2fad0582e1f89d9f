-- The boards to try (rule T8) and the limits of the largest build (rule N3), as the rows of one table.
use Rattle.std.specs.Prelude.{◌≡◌, List, [], ◌∷◌, ℕ}
use Rattle.base.specs.Limits.{base, field_limit, taken_limit, width}
use Rattle.base.specs.Refusal.{number, Answered, refused, found}
use Rattle.base.specs.declared.Refusal.{Refusal}
use Rattle.tree.specs.Tree.{Place, alone, hermit, neighbour, messenger}
use Rattle.tree.specs.Lookups.{dimension_lookup, place_lookup, distance_lookup}
use Rattle.frame.specs.Frame.{frame_length}
use Rattle.frame.specs.Timing.{timing}
use Rattle.frame.specs.declared.Timing.{Timing}
use Rattle.frame.specs.declared.Timing.TheVariants.{Early, Late}

-- what is asked of the definitions, and what they must answer
pub data Row : Type 0 where
  -- a limit, and its number
  limit : ℕ → ℕ → Row
  -- P
  dimension : ℕ → Answered ℕ → Row
  -- P, dimension, node
  place : ℕ → ℕ → ℕ → Answered Place → Row
  -- P, node, node
  distance : ℕ → ℕ → ℕ → Answered ℕ → Row
  -- p, dimension: the length of a pass 1 frame
  first_length : ℕ → ℕ → ℕ → Row
  -- the phase bytes of a node and of a frame
  phases : ℕ → ℕ → Timing → Row

abbrev pub Holds : Row → Type 0
Holds (limit is x) = is ≡ x
Holds (dimension P x) = dimension_lookup base P ≡ x
Holds (place P k a x) = place_lookup base P k a ≡ x
Holds (distance P a b x) = distance_lookup base P a b ≡ x
Holds (first_length p k x) = frame_length p 1 k ≡ x
Holds (phases node other x) = timing other node ≡ x

abbrev pub All : List Row → Type 0
All [] = Unit {0}
All (r ∷ rs) = Holds r × All rs

abbrev pub table : List Row
table =
    -- nodes of a board, messages that a node sends and takes in a phase, a number in a frame, shells that a node holds
    limit base.nodes 96
    ∷ limit base.sends 65535
    ∷ limit (taken_limit base) 6225825
    ∷ limit (field_limit base) 6291360
    ∷ limit width 7
    -- dimensions, and numbers of nodes that no board has
    ∷ dimension 1 (found 0)
    ∷ dimension 2 (found 1)
    ∷ dimension 3 (found 2)
    ∷ dimension 5 (found 3)
    ∷ dimension 96 (found 7)
    ∷ dimension 0 (refused (number Refusal.Board))
    ∷ dimension 97 (refused (number Refusal.Board))
    -- node 2 of 6 in each dimension
    ∷ place 6 0 2 (found alone)
    ∷ place 6 1 2 (found (messenger 0 1))
    ∷ place 6 2 2 (found (neighbour 5))
    -- a hermit
    ∷ place 5 2 2 (found (hermit 3))
    -- distances on a board of 6
    ∷ distance 6 1 2 (found 1)
    ∷ distance 6 2 5 (found 2)
    -- lengths, the longest of all among them (rule F3)
    ∷ first_length 7 0 68
    ∷ first_length 3 2 20
    -- phase bytes on either side of 255 (rule F5)
    ∷ phases 0 255 Late
    ∷ phases 255 0 Early
    ∷ []
