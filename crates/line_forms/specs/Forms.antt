-- What a word and its numbers say as a line, and the bytes before a byte (rule S2, rule S3).
use Rattle.std.specs.Prelude.{List, [], ◌∷◌, ℕ, suc, eqb}
use Rattle.base.specs.Choice.{choose, both}
use Rattle.base.specs.declared.Kind.TheVariants.{Job, Note}
use Rattle.line_parts.specs.Parts.{is_number, value_after, is_nodes, is_letter}
use Rattle.line_forms.specs.declared.Line.{Line}
use Rattle.line_forms.specs.declared.Line.TheVariants.{Nodes, Sends, Delivers, Idles, Calls, Bad}

-- how many bytes stand before the first of a kind; all where there is none
unfoldable pub before : ℕ → List ℕ → ℕ
before byte [] = 0
before byte (x ∷ xs) = choose (eqb x byte) 0 (suc (before byte xs))

-- a line with one number, and one with two
abbrev pub with_one : (ℕ → Line) → List ℕ → Line
with_one line x = choose (is_number x) (line (value_after 0 x)) Bad

abbrev pub with_two : (ℕ → ℕ → Line) → List ℕ → List ℕ → Line
with_two line x y = choose (both (is_number x) (is_number y)) (line (value_after 0 x) (value_after 0 y)) Bad

abbrev pub one_number : List ℕ → List ℕ → Line
one_number w x =
    choose (is_nodes w) (with_one Nodes x)
    (choose (is_letter 105 w) (with_one Idles x) (choose (is_letter 98 w) (with_one Calls x) Bad))

abbrev pub two_numbers : List ℕ → List ℕ → List ℕ → Line
two_numbers w x y =
    choose (is_letter 115 w) (with_two (Sends Job) x y)
    (choose (is_letter 116 w) (with_two (Sends Note) x y) (choose (is_letter 100 w) (with_two Delivers x y) Bad))
