-- The parts of a line: numbers and words (rule S3).
use Rattle.std.specs.Prelude.{Bool, true, List, [], ◌∷◌, ℕ, ◌+◌, ◌-◌, ◌*◌, leb, eqb, length, get_or}
use Rattle.base.specs.Choice.{choose, both}

-- ---- Numbers, decimal

abbrev pub is_digit : ℕ → Bool
is_digit x = both (leb 48 x) (leb x 57)

abbrev pub all_digits : List ℕ → Bool
all_digits [] = true
all_digits (x ∷ xs) = both (is_digit x) (all_digits xs)

-- the value of digits, with what stands before them
abbrev pub value_after : ℕ → List ℕ → ℕ
value_after v [] = v
value_after v (x ∷ xs) = value_after (10 * v + (x - 48)) xs

-- one to three digits, and 0 first only alone
abbrev pub is_number : List ℕ → Bool
is_number bs =
    both (both (leb 1 (length bs)) (leb (length bs) 3))
    (both (all_digits bs) (choose (eqb (get_or bs 0 0) 48) (eqb (length bs) 1) true))

-- ---- Words

-- the word "nodes", and a word of one letter
abbrev pub is_nodes : List ℕ → Bool
is_nodes w =
    both (eqb (length w) 5)
    (both (eqb (get_or w 0 0) 110)
    (both (eqb (get_or w 1 0) 111)
    (both (eqb (get_or w 2 0) 100) (both (eqb (get_or w 3 0) 101) (eqb (get_or w 4 0) 115)))))

abbrev pub is_letter : ℕ → List ℕ → Bool
is_letter letter w = both (eqb (length w) 1) (eqb (get_or w 0 0) letter)
