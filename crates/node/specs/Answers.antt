-- What the calls answer, and what each case of an answer in code stands for.
use Rattle.std.specs.Prelude.{List, [], ◌∷◌, ℕ, Option, Some, None, Result, Ok, Err}
use Rattle.base.specs.Refusal.{number}
use Rattle.base.specs.declared.Refusal.{Refusal}
use Rattle.node.specs.declared.Node.{Node}
use Rattle.node.specs.declared.Accepted.{Accepted}
use Rattle.node.specs.declared.Accepted.TheVariants.{Done, Dropped}
use Rattle.node.specs.declared.Step.{Step}
use Rattle.node.specs.declared.Step.TheVariants.{Sends, Waits, Moved, Left}

-- the state that a call gives back, and its answer
pub record Given (A : Type 0) : Type 0 where
  pub node : Node
  pub answer : A

abbrev pub give : {A : Type 0} → Node → A → Given A
give n a = record { node = n; answer = a }

pub data Outcome : Type 0 where
  done dropped : Outcome
  refused : ℕ → Outcome

-- a barrier call: sent, to the receivers, a frame of a length; waits, for a clause; moved; left; refused
pub data Barrier : Type 0 where
  sent : List ℕ → ℕ → Barrier
  waits : ℕ → Barrier
  moved left : Barrier
  barred : ℕ → Barrier

-- the numbers of answers (rule N18)
abbrev pub outcome_number : Outcome → ℕ
outcome_number done = 0
outcome_number dropped = 24
outcome_number (refused x) = x

abbrev pub barrier_number : Barrier → ℕ
barrier_number (sent to length) = 20
barrier_number (waits clause) = 21
barrier_number moved = 22
barrier_number left = 23
barrier_number (barred x) = x

abbrev pub outcome_of : Result Accepted Refusal → Outcome
outcome_of (Ok Done) = done
outcome_of (Ok Dropped) = dropped
outcome_of (Err r) = refused (number r)

abbrev pub also : Option ℕ → List ℕ
also None = []
also (Some b) = b ∷ []

abbrev pub barrier_of : Result Step Refusal → Barrier
barrier_of (Ok (Sends to length)) = sent (to.first ∷ also to.extra) length
barrier_of (Ok (Waits clause)) = waits clause
barrier_of (Ok Moved) = moved
barrier_of (Ok Left) = left
barrier_of (Err r) = barred (number r)
