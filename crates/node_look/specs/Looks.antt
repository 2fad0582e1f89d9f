-- The turn of a node that looks: on, or it waits for the clause that is named.
use Rattle.std.specs.Prelude.{Bool, List, ℕ, ◌%◌, ltb, leb, eqb, length}
use Rattle.base.specs.Choice.{choose, both}
use Rattle.layout.specs.Places.{head_words, at_pass, at_dim, at_agreed}
use Rattle.layout.specs.Held.{word}
use Rattle.node_turn.specs.Turn.{onward_turn}
use Rattle.node_turn.specs.declared.Turn.{Turn}
use Rattle.node_turn.specs.declared.Turn.TheVariants.{Waits, Leaves}

-- the words have a position in a dimension of a board of p dimensions
abbrev pub has_step : List ℕ → ℕ → Bool
has_step ws p = both (leb head_words (length ws)) (ltb (word ws at_dim) p)

-- where they do not, the node leaves
unfoldable pub look_turn : List ℕ → ℕ → ℕ → ℕ → Turn
look_turn ws p clause received =
    choose (has_step ws p)
    (choose (eqb clause 7) (onward_turn p (word ws at_pass) (word ws at_dim) (word ws at_agreed) received)
    (Waits (clause % 256)))
    Leaves
