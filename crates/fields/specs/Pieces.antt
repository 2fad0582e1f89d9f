-- Definitions that only the contracts of private functions cite: the bytes put together from words.
use Rattle.std.specs.Prelude.{List, [], ◌∷◌, ◌++◌, ℕ, ◌-◌, ltb, length, get_or}
use Rattle.base.specs.Choice.{choose}
use Rattle.base.specs.Refusal.{Answered, refused, found}
use Rattle.frame.specs.Numbers.{bytes_of}
use Rattle.wire.specs.Wire.{part}
use Rattle.field_words.specs.Words.{at_phase, at_dim, at_sender, at_issued, at_received, at_agreed, at_sent, at_taken}

-- the words from a place up to another
abbrev pub between : List ℕ → ℕ → ℕ → List ℕ
between ws from end = part ws from (end - from)

-- the numbers of a frame of pass 1, and of pass 2
abbrev pub first_numbers : ℕ → List ℕ → List ℕ
first_numbers p ws =
    let k = get_or ws at_dim 0 in
    between ws (at_sent k) (at_sent p) ++ between ws (at_taken k) (at_taken p) ++ between ws at_issued at_agreed

abbrev pub second_numbers : List ℕ → List ℕ
second_numbers ws = between ws at_agreed (at_sent 0) ++ between ws at_issued at_received

-- the head of a frame
abbrev pub head_with : ℕ → List ℕ → List ℕ
head_with pass ws = pass ∷ get_or ws at_phase 0 ∷ get_or ws at_dim 0 ∷ get_or ws at_sender 0 ∷ []

-- a frame of these numbers
abbrev pub bytes_with : ℕ → List ℕ → List ℕ → List ℕ
bytes_with pass ws xs = head_with pass ws ++ bytes_of xs

-- what is answered where these bytes are put into a buffer of so many
abbrev pub put_answer : List ℕ → ℕ → Answered ℕ
put_answer bytes room = choose (ltb room (length bytes)) (refused 14) (found (length bytes))
