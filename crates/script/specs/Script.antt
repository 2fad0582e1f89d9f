-- The lines of a script (rule S2, rule S3).
use Rattle.std.specs.Prelude.{List, [], ◌∷◌, ℕ, zero, suc, ◌+◌, ltb, length, take, drop}
use Rattle.base.specs.Choice.{choose}
use Rattle.line_forms.specs.Forms.{before, one_number, two_numbers}
use Rattle.line_forms.specs.declared.Line.{Line}
use Rattle.line_forms.specs.declared.Line.TheVariants.{Bad}
use Rattle.script.specs.declared.Parsed.{Parsed}

-- ---- Parts between blanks

-- the parts of a line, parted by each single blank
unfoldable pub parts_within : ℕ → List ℕ → List (List ℕ)
parts_within zero bs = bs ∷ []
parts_within (suc most) bs =
    let n = before 32 bs in
    let rest = parts_within most (drop (n + 1) bs) in
    choose (ltb n (length bs)) (take n bs ∷ rest) (bs ∷ [])

abbrev pub parts : List ℕ → List (List ℕ)
parts bs = parts_within (length bs) bs

-- ---- Lines

abbrev pub by_parts : List (List ℕ) → Line
by_parts [] = Bad
by_parts (w ∷ []) = Bad
by_parts (w ∷ x ∷ []) = one_number w x
by_parts (w ∷ x ∷ y ∷ []) = two_numbers w x y
by_parts (w ∷ x ∷ y ∷ z ∷ l) = Bad

-- what the bytes of a line say, its newline left out
unfoldable pub line_of : List ℕ → Line
line_of bs = by_parts (parts bs)

-- the line that begins at a place, and where the next begins; a line without a newline is not of the stated form
unfoldable pub line_at : List ℕ → ℕ → Parsed
line_at text at =
    let rest = drop at text in
    let n = before 10 rest in
    choose (ltb n (length rest)) (record { line = line_of (take n rest); next = at + n + 1 })
    (record { line = Bad; next = length text })
