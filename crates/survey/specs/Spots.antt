-- What the test of a step knows of the node.
use Rattle.std.specs.Prelude.{Bool, true, false, ℕ}
use Rattle.base.specs.Limits.{Limits}
use Rattle.base.specs.Refusal.{Answered, refused, found}
use Rattle.tree.specs.Tree.{Place, alone, hermit, neighbour, messenger}
use Rattle.tree.specs.Lookups.{place_lookup}
use Rattle.survey.specs.declared.Spot.{Spot}

-- the place is that of a node that is alone
abbrev pub lone_answer : Answered Place → Bool
lone_answer (refused x) = false
lone_answer (found alone) = true
lone_answer (found (hermit next)) = false
lone_answer (found (neighbour b)) = false
lone_answer (found (messenger b h)) = false

unfoldable pub lone : Limits → ℕ → ℕ → Bool
lone L P a = lone_answer (place_lookup L P 0 a)

abbrev pub spot_at : Limits → ℕ → ℕ → ℕ → ℕ → ℕ → ℕ → Spot
spot_at L p nodes number pass dim agreed =
    record { dims = p; alone = lone L nodes number; pass = pass; dim = dim; agreed = agreed }
