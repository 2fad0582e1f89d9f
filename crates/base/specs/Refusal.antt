-- Refusals: their words and numbers (rule R1), and how they are given in a stated order (rule R2).
use Rattle.std.specs.Prelude.{Bool, List, [], ◌∷◌, ℕ, Result, Ok, Err}
use Rattle.base.specs.Choice.{choose}
use Rattle.base.specs.declared.Refusal.{Refusal}
use Rattle.base.specs.declared.Refusal.TheVariants.{
  Board,
  Stranger,
  Itself,
  Resting,
  SentOut,
  TakenFull,
  Early,
  Foreign,
  Length,
  Field,
  Partner,
  Working,
  State,
  Buffer,
  Crowded,
  Nothing,
  Script,
  Recording,
  Differs,
}

abbrev pub number : Refusal → ℕ
number Board = 1
number Stranger = 2
number Itself = 3
number Resting = 4
number SentOut = 5
number TakenFull = 6
number Early = 7
number Foreign = 8
number Length = 9
number Field = 10
number Partner = 11
number Working = 12
number State = 13
number Buffer = 14
number Crowded = 15
number Nothing = 16
number Script = 17
number Recording = 18
number Differs = 19

-- What a lookup answers: a refusal by its number, or a value.
pub data Answered (A : Type 0) : Type 0 where
  refused : ℕ → Answered A
  found : A → Answered A

-- what an answer in code stands for
abbrev pub answered : {A : Type 0} → Result A Refusal → Answered A
answered (Ok a) = found a
answered (Err r) = refused (number r)

-- A condition, and the refusal that is given where it is met.
pub record Check : Type 0 where
  pub met : Bool
  pub word : Refusal

abbrev pub when : Bool → Refusal → Check
when t w = record { met = t; word = w }

-- the first condition that is met gives the refusal; where none is, the call is accepted
abbrev pub in_order : {A : Type 0} → (ℕ → A) → List Check → A → A
in_order refuse [] accepted = accepted
in_order refuse (c ∷ cs) accepted = choose c.met (refuse (number c.word)) (in_order refuse cs accepted)
