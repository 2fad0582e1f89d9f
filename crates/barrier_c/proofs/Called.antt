-- Laws of the calls on words: this build's limits, and answers as numbers.
use mathlib.Core.Path.{◌≡◌, ap, ◌∙◌}
use mathlib.Core.List.{List}
use Prim.Native.Nat.{ℕ}
use Rattle.std.specs.Prelude.{Result}
use Rattle.base.specs.Limits.{Limits, base}
use Rattle.base.specs.Refusal.{number}
use Rattle.base.specs.declared.Refusal.{Refusal}
use Rattle.node.specs.Answers.{Given, Outcome, outcome_number, outcome_of}
use Rattle.node.specs.declared.Accepted.{Accepted}
use Rattle.node.specs.declared.Node.{Node}
use Rattle.on_words.specs.OnWords as onWords
use Rattle.answers.specs.Words.{outcome_by}
use Rattle.answers.proofs.Laws.{outcome_by_words}
use Rattle.barrier_c.specs.Exports.{answer_on, words_on}

-- a call of the crate below on these words
pub called : (L : Limits) → L ≡ base → (call : Limits → Node → Given Outcome) (ws after : List ℕ) (o : Outcome) (x : ℕ)
    → (o ≡ onWords.answer_on L (call L) ws) × (after ≡ words_on L (call L) ws)
    → x ≡ outcome_number o
    → (x ≡ answer_on base (call base) ws) × (after ≡ words_on base (call base) ws)
called L e call ws after o x q r =
    let a : o ≡ onWords.answer_on base (call base) ws = rw e at q.0 in (r ∙ ap outcome_number a, rw e at q.1)

-- the same, where the answer is one in code
pub told : (L : Limits) → L ≡ base → (call : Limits → Node → Given Outcome) (ws after : List ℕ) (r : Result Accepted Refusal) (x : ℕ)
    → (outcome_of r ≡ onWords.answer_on L (call L) ws) × (after ≡ words_on L (call L) ws)
    → x ≡ outcome_number (outcome_by number r)
    → (x ≡ answer_on base (call base) ws) × (after ≡ words_on base (call base) ws)
told L e call ws after r x q g = called L e call ws after (outcome_of r) x q (g ∙ ap outcome_number (outcome_by_words r))
