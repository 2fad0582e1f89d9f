-- The refusals of send and take after that of the state, by the numbers that they look at.
use Rattle.std.specs.Prelude.{not, List, [], ◌∷◌, ℕ, leb, eqb, ⊤}
use Rattle.base.specs.Limits.{Limits, taken_limit}
use Rattle.base.specs.Refusal.{Answered, refused, found, Check, when, in_order}
use Rattle.base.specs.declared.Refusal.{Refusal}
use Rattle.frame.specs.Timing.{timing}
use Rattle.node.specs.Calls.{is_early, is_foreign_work}

-- the first that is met is given
abbrev pub first_met : List Check → Answered ⊤
first_met cs = in_order refused cs (found tt)

abbrev pub send_tests : Limits → ℕ → ℕ → ℕ → ℕ → ℕ → List Check
send_tests L nodes number busy sends to =
    when (leb nodes to) Refusal.Stranger
    ∷ when (eqb to number) Refusal.Itself
    ∷ when (not (eqb busy 1)) Refusal.Resting
    ∷ when (leb L.sends sends) Refusal.SentOut
    ∷ []

abbrev pub take_tests : Limits → ℕ → ℕ → ℕ → ℕ → ℕ → ℕ → List Check
take_tests L nodes number here takes from phase =
    when (leb nodes from) Refusal.Stranger
    ∷ when (eqb from number) Refusal.Itself
    ∷ when (is_early (timing phase here)) Refusal.Early
    ∷ when (is_foreign_work (timing phase here)) Refusal.Foreign
    ∷ when (leb (taken_limit L) takes) Refusal.TakenFull
    ∷ []
