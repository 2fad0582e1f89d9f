-- A fact of every value of a list.
use mathlib.Core.List.{List, [], ◌∷◌, ◌++◌}

abbrev pub All : {A : Type 0} → (A → Type 0) → List A → Type 0
All F [] = Unit {0}
All F (x ∷ xs) = F x × All F xs

pub all_append : {A : Type 0} (F : A → Type 0) (xs ys : List A) → All F xs → All F ys → All F (xs ++ ys)
all_append F [] ys h k = k
all_append F (x ∷ xs) ys h k = (h.0, all_append F xs ys h.1 k)

pub all_map : {A : Type 0} (F G : A → Type 0) → ((x : A) → F x → G x) → (xs : List A) → All F xs → All G xs
all_map F G f [] h = tt
all_map F G f (x ∷ xs) h = (f x h.0, all_map F G f xs h.1)

pub all_mid : {A : Type 0} (F : A → Type 0) (xs ys : List A) (x : A) → All F (xs ++ x ∷ ys) → F x × All F (xs ++ ys)
all_mid F [] ys x h = h
all_mid F (z ∷ xs) ys x h = let r = all_mid F xs ys x h.1 in (r.0, (h.0, r.1))
