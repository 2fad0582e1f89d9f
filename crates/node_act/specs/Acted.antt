-- What a turn, or a refusal in place of one, is answered with, and the words after it.
use Rattle.std.specs.Prelude.{List, ℕ, Result, Ok, Err}
use Rattle.node.specs.declared.Step.{Step}
use Rattle.node_turn.specs.Turn.{answer_of, words_after}
use Rattle.node_turn.specs.declared.Turn.{Turn}

abbrev pub answer_to : {E : Type 0} → Result Turn E → Result Step E
answer_to (Ok t) = Ok (answer_of t)
answer_to (Err e) = Err e

abbrev pub words_left : {E : Type 0} → List ℕ → ℕ → Result Turn E → List ℕ
words_left ws p (Ok t) = words_after ws p t
words_left ws p (Err e) = ws
