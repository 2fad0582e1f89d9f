-- The tree lookups as a caller meets them: any numbers in, a refusal or a value out.
use Rattle.std.specs.Prelude.{Bool, [], ◌∷◌, ℕ, ltb, leb, eqb, Result, Ok, Err}
use Rattle.base.specs.Choice.{either}
use Rattle.base.specs.Limits.{Limits}
use Rattle.base.specs.Refusal.{number, Answered, refused, found, when, in_order}
use Rattle.base.specs.declared.Refusal.{Refusal}
use Rattle.tree.specs.Tree.{Run as Nodes, dimension, Place, alone, hermit, neighbour, messenger, place, distance}
use Rattle.tree.specs.declared.Placed.{Placed}
use Rattle.tree.specs.declared.Placed.TheVariants.{Alone, Hermit, Neighbour, Messenger}
use Rattle.tree.specs.declared.parts.Run.{Run}

-- no board has P nodes (rule T1)
abbrev pub bad_board : Limits → ℕ → Bool
bad_board L P = either (eqb P 0) (ltb L.nodes P)

-- the orders of refusals are those of rule R3
unfoldable pub dimension_lookup : Limits → ℕ → Answered ℕ
dimension_lookup L P = in_order refused (when (bad_board L P) Refusal.Board ∷ []) (found (dimension P))

unfoldable pub place_lookup : Limits → ℕ → ℕ → ℕ → Answered Place
place_lookup L P k a =
    in_order refused
    (when (bad_board L P) Refusal.Board
    ∷ when (leb P a) Refusal.Stranger
    ∷ when (leb (dimension P) k) Refusal.Field
    ∷ [])
    (found (place P k a))

unfoldable pub distance_lookup : Limits → ℕ → ℕ → ℕ → Answered ℕ
distance_lookup L P a b =
    in_order refused
    (when (bad_board L P) Refusal.Board
    ∷ when (either (leb P a) (leb P b)) Refusal.Stranger
    ∷ when (eqb a b) Refusal.Itself
    ∷ [])
    (found (distance P a b))

-- the nodes of a run in code
abbrev pub nodes_of : Run → Nodes
nodes_of r = record { low = r.low; high = r.high }

-- what each case of a place in code stands for
abbrev pub place_of : Placed → Place
place_of Alone = alone
place_of (Hermit next) = hermit next
place_of (Neighbour b) = neighbour b
place_of (Messenger b h) = messenger b h

abbrev pub placed_answer : Result Placed Refusal → Answered Place
placed_answer (Ok placed) = found (place_of placed)
placed_answer (Err r) = refused (number r)
