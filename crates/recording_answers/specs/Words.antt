-- What is told of a recording that was read, and of a replay, in lent words.
use Rattle.std.specs.Prelude.{List, [], ◌∷◌, ℕ, eqb}
use Rattle.base.specs.Choice.{choose}
use Rattle.base.specs.Refusal.{number, Answered, refused, found}
use Rattle.base.specs.declared.Refusal.{Refusal}
use Rattle.recording_read.specs.declared.Head.{Head}
use Rattle.replay_ends.specs.declared.Replayed.{Replayed}

-- what a recording has: nodes, sections, events; the words stay where it is refused
abbrev pub head_words : Answered Head → List ℕ → List ℕ
head_words (refused x) ws = ws
head_words (found h) ws = h.nodes ∷ h.sections ∷ h.events ∷ []

-- how many events were played, or the position of the first that differs; the word stays where nothing was played
abbrev pub position_words : Replayed → List ℕ → List ℕ
position_words r ws = choose (eqb r.why (number Refusal.Recording)) ws (r.at ∷ [])
