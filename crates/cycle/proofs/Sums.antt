-- Sums over an interval, functions changed at one place, and counts in a list.
use mathlib.Core.Path.{◌≡◌, refl, sym, ap, ◌∙◌}
use mathlib.Core.Logic.{◌≢◌, ◌⊎◌, inl, inr}
use mathlib.Core.List.{List, [], ◌∷◌, ◌++◌}
use Prim.Native.Nat.{ℕ, zero, suc, ◌+◌, ◌*◌, ◌≤◌, ◌<◌, zero-le}
use native.Mathlib.Nat.{add-zero, add-suc, add_assoc}
use native.Mathlib.Decide.{ℕ_discrete, dec_lt, dec_le}
use native.Mathlib.Omega.{arith}
use lib.ListN.{length, take, get_or, length-append, get_or-append}
use lib.Seq.{take-append-le, get_or-take, get_or-append_seam, length-take-le}

-- ---- a function changed at one place

abbrev pub pick {ℓ} : {A : Type ℓ} {B : Type 0} → Dec B → A → A → A
pick (yes h) a b = a
pick (no h) a b = b

abbrev pub update : {A : Type 0} → (ℕ → A) → ℕ → A → ℕ → A
update f i v j = pick (ℕ_discrete j i) v (f j)

pub update_same : {A : Type 0} (f : ℕ → A) (i : ℕ) (v : A) → update f i v i ≡ v
update_same {A} f i v = go (ℕ_discrete i i)
  where
    go : (d : Dec (i ≡ i)) → pick d v (f i) ≡ v
    go (yes h) = refl
    go (no h) = absurd (h refl)

pub update_other : {A : Type 0} (f : ℕ → A) (i : ℕ) (v : A) (j : ℕ) → j ≢ i → update f i v j ≡ f j
update_other {A} f i v j n = go (ℕ_discrete j i)
  where
    go : (d : Dec (j ≡ i)) → pick d v (f j) ≡ f j
    go (yes h) = absurd (n h)
    go (no h) = refl

-- ---- sums: sum f lo n is f lo + .. + f (lo + n - 1)

abbrev pub sum : (ℕ → ℕ) → ℕ → ℕ → ℕ
sum f low zero = 0
sum f low (suc n) = sum f low n + f (low + n)

pub sum_split : (f : ℕ → ℕ) (low m n : ℕ) → sum f low (m + n) ≡ sum f low m + sum f (low + m) n
sum_split f low m zero = simp add-zero
sum_split f low m (suc n) = rw (add-suc, sum_split f low m n, add_assoc low m n) (omega arith)

pub sum_ext : (f g : ℕ → ℕ) (low n : ℕ) → ((i : ℕ) → low ≤ i → i < low + n → f i ≡ g i) → sum f low n ≡ sum g low n
sum_ext f g low zero h = refl
sum_ext f g low (suc n) h =
    let e = h (low + n) (omega arith) (omega arith) in
    let r = sum_ext f g low n (λ i a b. h i a (omega arith)) in
    omega arith

pub sum_le : (f g : ℕ → ℕ) (low n : ℕ) → ((i : ℕ) → low ≤ i → i < low + n → f i ≤ g i) → sum f low n ≤ sum g low n
sum_le f g low zero h = zero-le
sum_le f g low (suc n) h =
    let e = h (low + n) (omega arith) (omega arith) in
    let r = sum_le f g low n (λ i a b. h i a (omega arith)) in
    omega arith

pub sum_plus : (f g : ℕ → ℕ) (low n : ℕ) → sum (λ i. f i + g i) low n ≡ sum f low n + sum g low n
sum_plus f g low zero = refl
sum_plus f g low (suc n) = let r = sum_plus f g low n in omega arith

pub sum_zero : (low n : ℕ) → sum (λ i. 0) low n ≡ 0
sum_zero low zero = refl
sum_zero low (suc n) = let r = sum_zero low n in omega arith

-- pointwise below and no less in total: pointwise equal
pub sum_tight : (f g : ℕ → ℕ) (low n : ℕ) → ((i : ℕ) → low ≤ i → i < low + n → f i ≤ g i) → sum g low n ≤ sum f low n
    → (i : ℕ) → low ≤ i → i < low + n → g i ≡ f i
sum_tight f g low zero h t i a b = absurd (omega arith)
sum_tight f g low (suc n) h t i a b =
    go (λ t' b'. sum_tight f g low n (λ j c d. h j c (omega arith)) t' i a b') (ℕ_discrete i (low + n))
  where
    le_last : f (low + n) ≤ g (low + n)
    le_last = h (low + n) (omega arith) (omega arith)

    le_rest : sum f low n ≤ sum g low n
    le_rest = sum_le f g low n (λ j c d. h j c (omega arith))

    go : (sum g low n ≤ sum f low n → i < low + n → g i ≡ f i) → Dec (i ≡ low + n) → g i ≡ f i
    go ih (yes e) = rw e (omega (arith, le_last, le_rest))
    go ih (no ne) = ih (omega (arith, le_last, le_rest)) (omega arith)

pub sum_update_out : (f : ℕ → ℕ) (i v low n : ℕ) → (i < low) ⊎ (low + n ≤ i) → sum (update f i v) low n ≡ sum f low n
sum_update_out f i v low n (inl l) = sum_ext (update f i v) f low n (λ j a b. update_other f i v j (omega arith))
sum_update_out f i v low n (inr l) = sum_ext (update f i v) f low n (λ j a b. update_other f i v j (omega arith))

pub sum_update : (f : ℕ → ℕ) (i v low n : ℕ) → low ≤ i → i < low + n → sum (update f i v) low n + f i ≡ sum f low n + v
sum_update f i v low zero a b = absurd (omega arith)
sum_update f i v low (suc n) a b = go (λ b'. sum_update f i v low n a b') (ℕ_discrete i (low + n))
  where
    go : (i < low + n → sum (update f i v) low n + f i ≡ sum f low n + v) → Dec (i ≡ low + n)
        → sum (update f i v) low (suc n) + f i ≡ sum f low (suc n) + v
    go ih (yes e) =
        let o = sum_update_out f i v low n (inr (omega arith)) in
        let s : update f i v (low + n) ≡ v = rw (← e) (update_same f i v) in
        let e' : f i ≡ f (low + n) = ap f e in
        omega arith
    go ih (no ne) =
        let o = ih (omega arith) in
        let s = update_other f i v (low + n) (λ q. ne (sym q)) in
        omega arith

-- ---- counts

abbrev pub one : ℕ → ℕ → ℕ
one x = update (λ j. 0) x 1

sum_one : (x low n : ℕ) → low ≤ x → x < low + n → sum (one x) low n ≡ 1
sum_one x low n a b = let h = sum_update (λ j. 0) x 1 low n a b in let z = sum_zero low n in omega arith

abbrev pub count : ℕ → List ℕ → ℕ
count y [] = 0
count y (x ∷ xs) = one x y + count y xs

pub count_append : (y : ℕ) (xs ys : List ℕ) → count y (xs ++ ys) ≡ count y xs + count y ys
count_append y [] ys = omega arith
count_append y (x ∷ xs) ys = let r = count_append y xs ys in omega arith

abbrev pub snoc : List ℕ → ℕ → List ℕ
snoc xs x = xs ++ (x ∷ [])

pub length_snoc : (xs : List ℕ) (x : ℕ) → length (snoc xs x) ≡ suc (length xs)
length_snoc xs x = omega (arith, length-append xs (x ∷ []))

pub count_snoc_same : (xs : List ℕ) (x : ℕ) → count x (snoc xs x) ≡ suc (count x xs)
count_snoc_same xs x = omega (arith, count_append x xs (x ∷ []), update_same {A = ℕ} (λ j. 0) x 1)

pub count_snoc_other : (xs : List ℕ) (x y : ℕ) → y ≢ x → count y (snoc xs x) ≡ count y xs
count_snoc_other xs x y n = omega (arith, count_append y xs (x ∷ []), update_other {A = ℕ} (λ j. 0) x 1 y n)

-- every entry is below P
abbrev pub Below : ℕ → List ℕ → Type 0
Below P l = (i : ℕ) → i < length l → get_or l i 0 < P

below_take : (P n : ℕ) (l : List ℕ) → n ≤ length l → Below P l → Below P (take n l)
below_take P n l a b i h =
    let e = length-take-le n l a in
    let k : i < n = omega arith in
    rw (get_or-take n l i 0 k) (b i (omega arith))

pub sum_count : (P : ℕ) (l : List ℕ) → Below P l → sum (λ y. count y l) 0 P ≡ length l
sum_count P [] b = sum_zero 0 P
sum_count P (x ∷ xs) b =
    let h = sum_plus (one x) (λ y. count y xs) 0 P in
    let r = sum_count P xs (λ i k. b (suc i) (omega arith)) in
    let o = sum_one x 0 P zero-le (omega (arith, b 0 (omega arith))) in
    omega arith

pub sum_count_take : (P n : ℕ) (l : List ℕ) → n ≤ length l → Below P l → sum (λ y. count y (take n l)) 0 P ≡ n
sum_count_take P n l a b = sum_count P (take n l) (below_take P n l a b) ∙ length-take-le n l a

-- the first n entries of a list that grows are the same
pub take_snoc : (n : ℕ) (l : List ℕ) (x : ℕ) → n ≤ length l → take n (snoc l x) ≡ take n l
take_snoc n l x h = take-append-le n l (x ∷ []) h

pub get_d_snoc_last : (l : List ℕ) (x d : ℕ) → get_or (snoc l x) (length l) d ≡ x
get_d_snoc_last l x d = get_or-append_seam l x [] d

-- a fact of every place of a changed function: at the place, and at the others
pub update_all : {A : Type 0} (F : ℕ → A → Type 0) (f : ℕ → A) (i : ℕ) (v : A) → F i v → ((j : ℕ) → j ≢ i → F j (f j))
    → (j : ℕ) → F j (update f i v j)
update_all {A} F f i v at rest j = go (ℕ_discrete j i)
  where
    go : (d : Dec (j ≡ i)) → F j (pick d v (f j))
    go (yes e) = rw e at
    go (no n) = rest j n

-- ---- a part of a function taken from another

unfoldable pub inside : (low n y : ℕ) → Dec ((low ≤ y) × (y < low + n))
inside low n y = go (dec_le low y) (dec_lt y (low + n))
  where
    go : Dec (low ≤ y) → Dec (y < low + n) → Dec ((low ≤ y) × (y < low + n))
    go (yes a) (yes b) = yes (a, b)
    go (yes a) (no b) = no (λ c. b c.1)
    go (no a) (yes b) = no (λ c. a c.0)
    go (no a) (no b) = no (λ c. a c.0)

abbrev pub patch : (ℕ → ℕ) → ℕ → ℕ → (ℕ → ℕ) → ℕ → ℕ
patch s low n t y = pick (inside low n y) (s y) (t y)

pub patch_in : (s : ℕ → ℕ) (low n : ℕ) (t : ℕ → ℕ) (y : ℕ) → low ≤ y → y < low + n → patch s low n t y ≡ s y
patch_in s low n t y a b = go (inside low n y)
  where
    go : (d : Dec ((low ≤ y) × (y < low + n))) → pick d (s y) (t y) ≡ s y
    go (yes h) = refl
    go (no h) = absurd (h (a, b))

pub patch_out : (s : ℕ → ℕ) (low n : ℕ) (t : ℕ → ℕ) (y : ℕ) → ((low ≤ y) × (y < low + n) → ⊥) → patch s low n t y ≡ t y
patch_out s low n t y k = go (inside low n y)
  where
    go : (d : Dec ((low ≤ y) × (y < low + n))) → pick d (s y) (t y) ≡ t y
    go (yes h) = absurd (k h)
    go (no h) = refl

pub below_snoc : (P : ℕ) (l : List ℕ) (x : ℕ) → x < P → Below P l → Below P (snoc l x)
below_snoc P l x h b i k = go (ℕ_discrete i (length l))
  where
    go : Dec (i ≡ length l) → get_or (snoc l x) i 0 < P
    go (yes e) = rw (e, get_d_snoc_last l x 0) h
    go (no n) = let j : i < length l = omega (arith, length_snoc l x) in rw (get_or-append l (x ∷ []) 0 i j) (b i j)

-- ---- a row of numbers

-- a number of the row is at most the sum
pub sum_at : (f : ℕ → ℕ) (n i : ℕ) → i < n → f i ≤ sum f 0 n
sum_at f zero i l = absurd (omega arith)
sum_at f (suc n) i l = at (λ l. sum_at f n i l) (ℕ_discrete i n)
  where
    at : (i < n → f i ≤ sum f 0 n) → Dec (i ≡ n) → f i ≤ sum f 0 n + f (0 + n)
    at r (yes z) = let x : f i ≡ f (0 + n) = ap f (z ∙ omega arith) in omega arith
    at r (no z) = omega (arith, r (omega arith))

-- numbers at most S, and one of them less
sum_cap : (f : ℕ → ℕ) (S n : ℕ) → ((y : ℕ) → y < n → f y ≤ S) → sum f 0 n ≤ n * S
sum_cap f S zero h = zero-le
sum_cap f S (suc n) h =
    let z : f (0 + n) ≡ f n = ap f (omega arith) in
    omega (arith, sum_cap f S n (λ y l. h y (omega arith)), h n (omega arith))

pub sum_less : (f : ℕ → ℕ) (S n a : ℕ) → ((y : ℕ) → y < n → f y ≤ S) → a < n → f a < S → sum f 0 n < n * S
sum_less f S zero a h l q = absurd (omega arith)
sum_less f S (suc n) a h l q = go (λ k. sum_less f S n a (λ y l. h y (omega arith)) k q) (ℕ_discrete a n)
  where
    z : f (0 + n) ≡ f n
    z = ap f (omega arith)

    go : (a < n → sum f 0 n < n * S) → Dec (a ≡ n) → sum f 0 n + f (0 + n) < suc n * S
    go r (yes e) = let x : f a ≡ f n = ap f e in omega (arith, sum_cap f S n (λ y l. h y (omega arith)), z)
    go r (no e) = omega (arith, r (omega arith), h n (omega arith), z)
