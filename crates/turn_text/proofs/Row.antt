-- The pieces of the line of an event, put one after the other, are the line.
use mathlib.Core.Path.{◌≡◌}
use mathlib.Core.Bool.{Bool}
use mathlib.Core.List.{List, [], ◌∷◌, ◌++◌, append_assoc}
use Prim.Native.Nat.{ℕ}
use Rattle.printing.specs.Put.{digits}
use Rattle.text.specs.Text.{bit, row_text}

abbrev pub field : ℕ → List ℕ
field x = digits x ++ (32 ∷ [])

pub row_text_lem : (actor answer phase pass dim : ℕ) (flag busy : Bool)
    → field actor ++ field answer ++ field phase ++ field pass ++ field dim
    ++ (bit flag ∷ 32 ∷ bit busy ∷ 10 ∷ []) ≡ row_text actor answer phase pass dim flag busy
unfolding row_text
row_text_lem actor answer phase pass dim flag busy = simp append_assoc
