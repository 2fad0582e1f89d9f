-- What an answer stands for, by a rule that numbers its refusals.
use Rattle.std.specs.Prelude.{ℕ, Result, Ok, Err}
use Rattle.base.specs.Refusal.{Answered, refused, found}

abbrev pub answered_by : {A E : Type 0} → (E → ℕ) → Result A E → Answered A
answered_by code (Ok a) = found a
answered_by code (Err e) = refused (code e)
