-- What the place of a node whose refusals are words stands for by their numbers.
use mathlib.Core.Path.{◌≡◌, refl}
use Rattle.std.specs.Prelude.{Result, Ok, Err}
use Rattle.base.specs.Refusal.{number}
use Rattle.base.specs.declared.Refusal.{Refusal}
use Rattle.tree.specs.Lookups.{placed_answer}
use Rattle.tree.specs.declared.Placed.{Placed}
use Rattle.lookup_answers.specs.Words.{placed_by}

pub placed_by_words : (answer : Result Placed Refusal) → placed_by number answer ≡ placed_answer answer
placed_by_words (Ok placed) = refl
placed_by_words (Err r) = refl
