-- A call on a state by value: its answer, and the state after it.
use Rattle.std.specs.Prelude.{List, ℕ}
use Rattle.base.specs.Limits.{base}
use Rattle.node.specs.Answers.{Given, Outcome, outcome_of, Barrier, barrier_of}
use Rattle.node.specs.declared.Node.{Node}
use Rattle.on_words.specs.OnWords.{answer_on, words_on, barrier_on, barrier_state, barrier_buffer}
use Rattle.states.specs.declared.State.{State}
use Rattle.state_calls.specs.declared.Reply.{Reply}
use Rattle.state_calls.specs.declared.StepReply.{StepReply}

-- what a call makes of a state
pub record Kept (A : Type 0) : Type 0 where
  pub state : State
  pub answer : A

abbrev pub keep : {A : Type 0} → State → A → Kept A
keep s x = record { state = s; answer = x }

unfoldable pub on_state : (Node → Given Outcome) → State → Kept Outcome
on_state call s =
    keep (record { words = words_on base call s.words })
    (answer_on base call s.words)

-- the barrier call, with a buffer of so many bytes
unfoldable pub step_on : State → ℕ → Kept Barrier
step_on s room =
    keep (record { words = barrier_state base s.words room })
    (barrier_on base s.words room)

unfoldable pub step_bytes : State → List ℕ → List ℕ
step_bytes s buf = barrier_buffer base s.words buf

-- ---- What the functions return

abbrev pub replied : Reply → Kept Outcome
replied r = keep r.state (outcome_of r.answer)

abbrev pub step_replied : StepReply → Kept Barrier
step_replied r = keep r.state (barrier_of r.answer)
