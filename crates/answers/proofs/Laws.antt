-- What answers whose refusals are words stand for by their numbers.
use mathlib.Core.Path.{◌≡◌, refl}
use Rattle.std.specs.Prelude.{Result, Ok, Err}
use Rattle.base.specs.Refusal.{number}
use Rattle.base.specs.declared.Refusal.{Refusal}
use Rattle.node.specs.Answers.{outcome_of, barrier_of}
use Rattle.node.specs.declared.Accepted.{Accepted}
use Rattle.node.specs.declared.Step.{Step}
use Rattle.answers.specs.Words.{outcome_by, barrier_by}

pub outcome_by_words : (answer : Result Accepted Refusal) → outcome_by number answer ≡ outcome_of answer
outcome_by_words (Ok accepted) = refl
outcome_by_words (Err r) = refl

pub barrier_by_words : (answer : Result Step Refusal) → barrier_by number answer ≡ barrier_of answer
barrier_by_words (Ok step) = refl
barrier_by_words (Err r) = refl
