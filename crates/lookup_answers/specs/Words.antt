-- The answers of lookups and of the frame reader as numbers, and what is found in lent words.
use Rattle.std.specs.Prelude.{List, [], ◌∷◌, ℕ, Result, Ok, Err}
use Rattle.base.specs.Refusal.{Answered, refused, found}
use Rattle.tree.specs.Lookups.{place_of}
use Rattle.tree.specs.Tree.{Place, alone, hermit, neighbour, messenger}
use Rattle.tree.specs.declared.Placed.{Placed}

-- a lookup, or the frame reader: its number, 0 where it is found
abbrev pub lookup_number : {A : Type 0} → Answered A → ℕ
lookup_number (refused x) = x
lookup_number (found a) = 0

-- what it found, in lent words; they stay where it is refused
abbrev pub number_words : Answered ℕ → List ℕ → List ℕ
number_words (refused x) ws = ws
number_words (found x) ws = x ∷ []

-- the place of a node, by a rule that numbers its refusals
abbrev pub placed_by : {E : Type 0} → (E → ℕ) → Result Placed E → Answered Place
placed_by code (Ok placed) = found (place_of placed)
placed_by code (Err e) = refused (code e)

-- the kind of a place (0 alone, 1 hermit, 2 neighbour, 3 messenger), the awaited node, and the hermit; 0 where there is
-- none
abbrev pub place_words : Answered Place → List ℕ → List ℕ
place_words (refused x) ws = ws
place_words (found alone) ws = 0 ∷ 0 ∷ 0 ∷ []
place_words (found (hermit next)) ws = 1 ∷ next ∷ 0 ∷ []
place_words (found (neighbour b)) ws = 2 ∷ b ∷ 0 ∷ []
place_words (found (messenger b h)) ws = 3 ∷ b ∷ h ∷ []
