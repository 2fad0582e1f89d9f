-- Definitions that only the contracts of private functions cite: words whose state passed the test, and what a call on them does.
use Rattle.std.specs.Prelude.{◌≡◌, true, List, ℕ, Result}
use Rattle.base.specs.declared.Refusal.{Refusal}
use Rattle.base.specs.Limits.{Limits}
use Rattle.node.specs.State.{valid}
use Rattle.node.specs.Answers.{Given, Outcome, outcome_of}
use Rattle.node.specs.declared.Accepted.{Accepted}
use Rattle.node.specs.declared.Node.{Node}
use Rattle.layout.specs.Held.{unpacked, is_whole, is_ready, answer_on, words_on}

-- the words hold a state that passes the test
pub record Passed (L : Limits) (ws : List ℕ) : Type 0 where
  pub whole : is_whole L ws ≡ true
  pub valid : valid L (unpacked ws) ≡ true

-- what a call on them answers, and the words after it, whatever room there is for the sums
pub record Answers (L : Limits) (call : Node → Given Outcome) (ws after : List ℕ) (r : Result Accepted Refusal) : Type 0 where
  pub on : (room : ℕ) → is_ready L room ws ≡ true
      → (outcome_of r ≡ answer_on L room call ws) × (after ≡ words_on L room call ws)
