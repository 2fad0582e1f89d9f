-- What an answer whose refusals are words stands for by their numbers.
use mathlib.Core.Path.{◌≡◌, refl}
use Rattle.std.specs.Prelude.{Result, Ok, Err}
use Rattle.base.specs.Refusal.{number, answered}
use Rattle.base.specs.declared.Refusal.{Refusal}
use Rattle.reasons.specs.Told.{answered_by}

pub answered_by_words : {A : Type 0} (answer : Result A Refusal) → answered_by number answer ≡ answered answer
answered_by_words (Ok a) = refl
answered_by_words (Err r) = refl
