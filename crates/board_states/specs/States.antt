-- The states of a rehearsal's board, and what is read and changed of them.
use Rattle.std.specs.Prelude.{ℕ, get_or, set}
use Rattle.base.specs.Choice.{list}
use Rattle.node.specs.declared.Node.{Node}
use Rattle.layout.specs.Held.{unpacked}
use Rattle.states.specs.Words.{no_state, fresh_state}
use Rattle.states.specs.declared.State.{State}
use Rattle.board_states.specs.declared.Stage.{Stage}

-- a board of up to 16 nodes, all fresh, and no item under way; a place that the board doesn't have holds no state
abbrev pub opening : ℕ → Stage
opening P = record { states = list 0 16 (fresh_state P); size = P; under = 0 }

abbrev pub state_at : Stage → ℕ → State
state_at st a = get_or st.states a no_state

-- node a, as its words hold it
abbrev pub node_at : Stage → ℕ → Node
node_at st a = unpacked (state_at st a).words

-- node a has another state, and so many items are under way
abbrev pub changed : Stage → ℕ → State → ℕ → Stage
changed st a s under = record { states = set st.states a s; size = st.size; under = under }
