-- Choice by a test, tests joined, and values listed by a rule.
use Rattle.std.specs.Prelude.{Bool, true, false, List, [], ◌∷◌, ℕ, zero, suc}

-- a where the test holds, else b
abbrev pub choose : {A : Type 0} → Bool → A → A → A
choose true a b = a
choose false a b = b

abbrev pub both : Bool → Bool → Bool
both true b = b
both false b = false

abbrev pub either : Bool → Bool → Bool
either true b = true
either false b = b

-- the test holds at start, start + 1, .., count of them
abbrev pub every : ℕ → ℕ → (ℕ → Bool) → Bool
every start zero f = true
every start (suc count) f = both (f start) (every (suc start) count f)

-- f start, f (start + 1), .., count of them
abbrev pub list : {A : Type 0} → ℕ → ℕ → (ℕ → A) → List A
list start zero f = []
list start (suc count) f = f start ∷ list (suc start) count f
