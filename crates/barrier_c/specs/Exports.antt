-- What the exported functions answer and leave in lent memory.
use Rattle.std.specs.Prelude.{List, ℕ}
use Rattle.base.specs.Limits.{Limits}
use Rattle.node.specs.Answers.{Given, Outcome, outcome_number}
use Rattle.node.specs.declared.Node.{Node}
use Rattle.on_words.specs.OnWords as onWords
pub use Rattle.on_words.specs.OnWords.{words_on, barrier_on, barrier_state, barrier_buffer}
pub use Rattle.answers.specs.Words.{receiver_words, detail_words}
pub use Rattle.lookup_answers.specs.Words.{lookup_number, number_words, place_words}

-- the number of a call's answer
abbrev pub answer_on : Limits → (Node → Given Outcome) → List ℕ → ℕ
answer_on L call ws = outcome_number (onWords.answer_on L call ws)
