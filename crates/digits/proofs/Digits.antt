-- The digits of a number by how many it has, each the last digit of a quotient.
use mathlib.Core.Path.{◌≡◌}
use mathlib.Core.List.{[], ◌∷◌}
use Prim.Native.Nat.{ℕ, ◌+◌, ◌/◌, ◌%◌, ◌≤◌, ◌<◌}
use native.Mathlib.Omega.{arith}
use borrow.Author.Tests.{lt-ltb, le-ltb}
use Rattle.printing.specs.Put.{digits}

-- the last digit, and that of a tenth, a hundredth and a thousandth
module _ (x : ℕ) where
  abbrev pub ones : ℕ
  ones = 48 + x % 10

  abbrev pub tens : ℕ
  tens = 48 + x / 10 % 10

  abbrev pub hundreds : ℕ
  hundreds = 48 + x / 100 % 10

  abbrev pub thousands : ℕ
  thousands = 48 + x / 1000 % 10

  pub digits_one : (a : ℕ) → a ≡ ones → x < 10 → (a ∷ []) ≡ digits x
  unfolding digits
  digits_one a p h = let e : x % 10 ≡ x = omega arith in rw (lt-ltb x 10 h, p, e)

  pub digits_two : (a b : ℕ) → a ≡ tens → b ≡ ones → 10 ≤ x → x < 100 → (a ∷ b ∷ []) ≡ digits x
  unfolding digits
  digits_two a b p q l h =
      let e : x / 10 % 10 ≡ x / 10 = omega arith in
      rw (le-ltb x 10 l, lt-ltb x 100 h, p, q, e)

  pub digits_three : (a b c : ℕ) → a ≡ hundreds → b ≡ tens → c ≡ ones → 100 ≤ x → x < 1000
      → (a ∷ b ∷ c ∷ []) ≡ digits x
  unfolding digits
  digits_three a b c p q r l h =
      let e : x / 100 % 10 ≡ x / 100 = omega arith in
      let m : 10 ≤ x = omega arith in
      rw (le-ltb x 10 m, le-ltb x 100 l, lt-ltb x 1000 h, p, q, r, e)

  pub digits_four : (a b c d : ℕ) → a ≡ thousands → b ≡ hundreds → c ≡ tens → d ≡ ones → 1000 ≤ x
      → (a ∷ b ∷ c ∷ d ∷ []) ≡ digits x
  unfolding digits
  digits_four a b c d p q r s l =
      let m : 10 ≤ x = omega arith in
      let n : 100 ≤ x = omega arith in
      rw (le-ltb x 10 m, le-ltb x 100 n, le-ltb x 1000 l, p, q, r, s)
