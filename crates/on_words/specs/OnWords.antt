-- A call on words: what it answers, and the words and the lent bytes after it.
use Rattle.std.specs.Prelude.{List, ℕ}
use Rattle.base.specs.Choice.{choose}
use Rattle.base.specs.Limits.{Limits}
use Rattle.base.specs.Refusal.{number}
use Rattle.base.specs.declared.Refusal.{Refusal}
use Rattle.node.specs.Answers.{Given, Outcome, refused, Barrier, barred}
use Rattle.node.specs.Barrier.{barrier, barrier_bytes}
use Rattle.node.specs.declared.Node.{Node}
use Rattle.layout.specs.Held.{unpacked, is_whole, holding}

-- words that are no state, or too few for the board that they name, give this
abbrev pub no_state : ℕ
no_state = number Refusal.State

abbrev pub answer_on : Limits → (Node → Given Outcome) → List ℕ → Outcome
answer_on L call ws = choose (is_whole L ws) (call (unpacked ws)).answer (refused no_state)

abbrev pub words_on : Limits → (Node → Given Outcome) → List ℕ → List ℕ
words_on L call ws = choose (is_whole L ws) (holding ws (call (unpacked ws)).node) ws

-- ---- The barrier call, with a buffer of so many bytes

abbrev pub barrier_on : Limits → List ℕ → ℕ → Barrier
barrier_on L ws room = choose (is_whole L ws) (barrier L (unpacked ws) room).answer (barred no_state)

abbrev pub barrier_state : Limits → List ℕ → ℕ → List ℕ
barrier_state L ws room = choose (is_whole L ws) (holding ws (barrier L (unpacked ws) room).node) ws

abbrev pub barrier_buffer : Limits → List ℕ → List ℕ → List ℕ
barrier_buffer L ws buf = choose (is_whole L ws) (barrier_bytes L (unpacked ws) buf) buf
