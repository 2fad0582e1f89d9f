-- What an answer stands for, by a rule that numbers its refusals, and what the barrier call says beside its number, in lent words.
use Rattle.std.specs.Prelude.{List, [], ◌∷◌, ℕ, Result, Ok, Err}
use Rattle.node.specs.Answers.{Outcome, refused, outcome_of, Barrier, sent, waits, moved, left, barred, barrier_of}
use Rattle.node.specs.declared.Accepted.{Accepted}
use Rattle.node.specs.declared.Step.{Step}

abbrev pub outcome_by : {E : Type 0} → (E → ℕ) → Result Accepted E → Outcome
outcome_by code (Ok accepted) = outcome_of (Ok accepted)
outcome_by code (Err e) = refused (code e)

abbrev pub barrier_by : {E : Type 0} → (E → ℕ) → Result Step E → Barrier
barrier_by code (Ok step) = barrier_of (Ok step)
barrier_by code (Err e) = barred (code e)

-- five words: how many receivers, the first, the second, the frame's length, and the clause that a wait names
abbrev pub receiver_words : List ℕ → ℕ → List ℕ
receiver_words [] length = 0 ∷ 0 ∷ 0 ∷ length ∷ 0 ∷ []
receiver_words (a ∷ []) length = 1 ∷ a ∷ 0 ∷ length ∷ 0 ∷ []
receiver_words (a ∷ b ∷ l) length = 2 ∷ a ∷ b ∷ length ∷ 0 ∷ []

-- by the answer; the words stay where the call is refused
abbrev pub detail_words : List ℕ → Barrier → List ℕ
detail_words ds (sent to length) = receiver_words to length
detail_words ds (waits clause) = 0 ∷ 0 ∷ 0 ∷ 0 ∷ clause ∷ []
detail_words ds moved = 0 ∷ 0 ∷ 0 ∷ 0 ∷ 0 ∷ []
detail_words ds left = 0 ∷ 0 ∷ 0 ∷ 0 ∷ 0 ∷ []
detail_words ds (barred x) = ds
