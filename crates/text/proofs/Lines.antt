-- The pieces of the line of a stop, put one after the other, are the line.
use mathlib.Core.Path.{◌≡◌}
use mathlib.Core.List.{List, [], ◌∷◌, ◌++◌, append_assoc}
use Prim.Native.Nat.{ℕ}
use Rattle.printing.specs.Put.{digits}
use Rattle.text.specs.Text.{stop_text}

-- "stop " and " at line "
abbrev pub stop : List ℕ
stop = 115 ∷ 116 ∷ 111 ∷ 112 ∷ 32 ∷ []

abbrev pub at_line : List ℕ
at_line = 32 ∷ 97 ∷ 116 ∷ 32 ∷ 108 ∷ 105 ∷ 110 ∷ 101 ∷ 32 ∷ []

pub stop_text_lem : (why line : ℕ) → stop ++ digits why ++ at_line ++ digits line ++ (10 ∷ []) ≡ stop_text why line
unfolding stop_text
stop_text_lem why line = simp append_assoc
