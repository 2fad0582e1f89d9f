-- Laws of four-byte numbers: how long their bytes are, and that they are read back.
use Rattle.std.proofs.Common.{◌≡◌, ℕ, zero, suc, ◌+◌, ◌*◌, ◌/◌, ◌%◌, ◌^◌, ◌<◌, List, [], ◌∷◌, ◌++◌, length, get_or, refl, append_assoc, arith, length-append, get_or-append-add}
use lib.Seq.{get_or-append_seam}
use Rattle.frame.specs.Numbers.{four_bytes, bytes_of, word_at}

pub length_four_bytes : (x : ℕ) → length (four_bytes x) ≡ 4
unfolding four_bytes
length_four_bytes x = refl

pub length_bytes_of : (xs : List ℕ) → length (bytes_of xs) ≡ 4 * length xs
unfolding bytes_of
length_bytes_of [] = refl
length_bytes_of (x ∷ xs) = simp (length-append, length_four_bytes, length_bytes_of xs) (omega arith)

pub bytes_of_append : (xs ys : List ℕ) → bytes_of (xs ++ ys) ≡ bytes_of xs ++ bytes_of ys
unfolding bytes_of
bytes_of_append [] ys = refl
bytes_of_append (x ∷ xs) ys = rw (bytes_of_append xs ys, append_assoc (four_bytes x) (bytes_of xs) (bytes_of ys))

-- a number alone
pub bytes_of_one : (x : ℕ) → bytes_of (x ∷ []) ≡ four_bytes x
unfolding bytes_of four_bytes
bytes_of_one x = refl

-- one number more at the end
pub bytes_of_more : (xs : List ℕ) (x : ℕ) → bytes_of (xs ++ (x ∷ [])) ≡ bytes_of xs ++ four_bytes x
bytes_of_more xs x = rw (bytes_of_append, bytes_of_one)

-- a number is made of its four bytes
pub digits : (x : ℕ) → x < 2 ^ 32
    → x % 256 + 256 * (x / 256 % 256) + 65536 * (x / 65536 % 256) + 16777216 * (x / 16777216 % 256) ≡ x
digits x h =
    let a : x / 65536 ≡ x / 256 / 256 = omega arith in
    let b : x / 16777216 ≡ x / 65536 / 256 = omega arith in
    let c : x / 16777216 % 256 ≡ x / 16777216 = omega arith in
    omega arith

-- a number of four bytes is read back at the place of its low byte
pub word_back : (a b : List ℕ) (x : ℕ) → x < 2 ^ 32 → word_at (a ++ (four_bytes x ++ b)) (length a) ≡ x
unfolding four_bytes word_at
word_back a b x h =
    let r : List ℕ = four_bytes x ++ b in
    let g : (i : ℕ) → get_or (a ++ r) (length a + i) 0 ≡ get_or r i 0 = λ i. get_or-append-add a r i 0 in
    let g0 : get_or (a ++ r) (length a) 0 ≡ x % 256 = get_or-append_seam a _ _ 0 in
    rw (g0, g 1, g 2, g 3) (digits x h)

-- the same, with the place given
pub word_back_at : (a b : List ℕ) (x at : ℕ) → at ≡ length a → x < 2 ^ 32 → word_at (a ++ (four_bytes x ++ b)) at ≡ x
word_back_at a b x at e h = rw e (word_back a b x h)

-- the i-th of a sequence of numbers is read back
pub number_back : (a xs b : List ℕ) (i : ℕ) → i < length xs → get_or xs i 0 < 2 ^ 32
    → word_at (a ++ (bytes_of xs ++ b)) (length a + 4 * i) ≡ get_or xs i 0
unfolding bytes_of
number_back a [] b i l h = absurd (omega arith)
number_back a (x ∷ xs) b zero l h =
    rw append_assoc (word_back_at a (bytes_of xs ++ b) x (length a + 4 * 0) (omega arith) h)
number_back a (x ∷ xs) b (suc i) l h =
    let e : length a + 4 * suc i ≡ length (a ++ four_bytes x) + 4 * i =
    simp (length-append, length_four_bytes) (omega arith) in
    rw (e, append_assoc (four_bytes x) (bytes_of xs) b, ← append_assoc a (four_bytes x) (bytes_of xs ++ b))
    (number_back (a ++ four_bytes x) xs b i (omega arith) h)

-- a low digit and the rest, apart again
low : (a y : ℕ) → a < 256 → ((a + 256 * y) % 256 ≡ a) × ((a + 256 * y) / 256 ≡ y)
low a y h = omega arith

-- the bytes of a number made of four bytes are these
pub four_of_digits : (a b c d : ℕ) → a < 256 → b < 256 → c < 256 → d < 256
    → four_bytes (a + 256 * b + 65536 * c + 16777216 * d) ≡ a ∷ b ∷ c ∷ d ∷ []
unfolding four_bytes
four_of_digits a b c d ha hb hc hd =
    let x : ℕ = a + 256 * b + 65536 * c + 16777216 * d in
    let e : x ≡ a + 256 * (b + 256 * (c + 256 * d)) = omega arith in
    let f : x / 65536 ≡ x / 256 / 256 = omega arith in
    let g : x / 16777216 ≡ x / 65536 / 256 = omega arith in
    let n : d % 256 ≡ d = omega arith in
    rw (
      g,
      f,
      e,
      (low a (b + 256 * (c + 256 * d)) ha).0,
      (low a (b + 256 * (c + 256 * d)) ha).1,
      (low b (c + 256 * d) hb).0,
      (low b (c + 256 * d) hb).1,
      (low c d hc).0,
      (low c d hc).1,
      n,
    )
