-- Text and decimal numbers put into a lent buffer (rule S9).
use Rattle.std.specs.Prelude.{List, [], ◌∷◌, ◌++◌, ℕ, ◌+◌, ◌-◌, ◌/◌, ◌%◌, min, ltb, length, take, drop}
use Rattle.base.specs.Choice.{choose}

-- decimal digits of a number below 10,000; of a larger one the last four
unfoldable pub digits : ℕ → List ℕ
digits x =
    choose (ltb x 10) ((48 + x) ∷ [])
    (choose (ltb x 100) ((48 + x / 10) ∷ (48 + x % 10) ∷ [])
    (choose (ltb x 1000) ((48 + x / 100) ∷ (48 + x / 10 % 10) ∷ (48 + x % 10) ∷ [])
    ((48 + x / 1000 % 10) ∷ (48 + x / 100 % 10) ∷ (48 + x / 10 % 10) ∷ (48 + x % 10) ∷ [])))

-- text put into a lent buffer from a place on; what has no room is left out
unfoldable pub put : List ℕ → ℕ → List ℕ → List ℕ
put out at text = take at out ++ (take (length out - at) text ++ drop (at + length text) out)

-- where the text ends: the place after it, or the end of the buffer
abbrev pub ends : List ℕ → ℕ → List ℕ → ℕ
ends out at text = min (at + length text) (length out)
