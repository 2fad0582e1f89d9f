-- The words of a state by value: where they hold none, and those of a node that has just started.
use Rattle.std.specs.Prelude.{ℕ, replicate}
use Rattle.base.specs.Limits.{base}
use Rattle.node_fresh.specs.Fresh.{fresh_words}
use Rattle.states.specs.declared.State.{State}

-- the words of a board of 16 nodes
abbrev pub most : ℕ
most = 60

abbrev pub no_state : State
no_state = record { words = replicate most 0 }

-- words that hold no state where there is no such node, or no room for its board
unfoldable pub fresh_state : ℕ → ℕ → State
fresh_state P a = record { words = fresh_words base P a no_state.words }
