-- Rows of numbers: parts of a row are read at their places, and bytes are those of the row of numbers that they give.
use Rattle.std.proofs.Common.{◌≡◌, ℕ, suc, ◌+◌, ◌-◌, ◌*◌, ◌<◌, ◌≤◌, List, [], ◌∷◌, ◌++◌, length, get_or, sym, refl, ap, ◌∙◌, arith, length-append, get_or-append-add}
use native.Mathlib.Decide.{dec_lt}
use lib.ListN.{get_or-append}
use Rattle.base.specs.Choice.{list}
use Rattle.base.proofs.Laws.{length_list, get_d_list}
use Rattle.frame.specs.Numbers.{four_bytes, bytes_of, word_at}
use Rattle.frame.specs.Shapes.{Bytes}
use Rattle.frame.proofs.Words.{four_of_digits}

-- ---- the numbers are g 0, g 1, ..

abbrev pub Gives : (ℕ → ℕ) → List ℕ → Type 0
Gives g ns = (i : ℕ) → i < length ns → get_or ns i 0 ≡ g i

-- listed values, then others
module _ (g : ℕ → ℕ) (start count : ℕ) (f : ℕ → ℕ) (rest : List ℕ) where
  abbrev row : List ℕ
  row = list start count f ++ rest

  -- the listed values are those that g gives
  abbrev Listed : Type 0
  Listed = (m : ℕ) → start ≤ m → m < start + count → f m ≡ g (m - start)

  counted : length (list start count f) ≡ count
  counted = length_list start count f

  total : length row ≡ count + length rest
  total = omega (arith, length-append (list start count f) rest, counted)

  in_list : (i : ℕ) → i < count → get_or row i 0 ≡ f (start + i)
  in_list i l =
      get_or-append (list start count f) rest 0 i (omega (arith, counted)) ∙ get_d_list start count f i 0 l

  in_rest : (i : ℕ) → get_or row (count + i) 0 ≡ get_or rest i 0
  in_rest i = ap (λ n. get_or row (n + i) 0) (sym counted) ∙ get_or-append-add (list start count f) rest i 0

  pub gives_join : Listed → Gives (λ i. g (count + i)) rest → Gives g row
  gives_join a b i h = go (dec_lt i count)
    where
      go : Dec (i < count) → get_or row i 0 ≡ g i
      go (yes l) =
          let z : start + i - start ≡ i = omega arith in
          in_list i l ∙ a (start + i) (omega arith) (omega arith) ∙ ap g z
      go (no l) =
          let z : count + (i - count) ≡ i = omega arith in
          ap (λ j. get_or row j 0) (sym z) ∙ in_rest (i - count) ∙ b (i - count) (omega (arith, total)) ∙ ap g z

  pub gives_list : Gives g row → Listed
  gives_list h m a b =
      let z : m ≡ start + (m - start) = omega arith in
      ap f z ∙ sym (in_list (m - start) (omega arith)) ∙ h (m - start) (omega (arith, total))

  pub gives_rest : Gives g row → Gives (λ i. g (count + i)) rest
  gives_rest h i l = sym (in_rest i) ∙ h (count + i) (omega (arith, total))

-- ---- bytes

-- four bytes, then others
module _ (a b c d : ℕ) (l : List ℕ) where
  abbrev all : List ℕ
  all = a ∷ b ∷ c ∷ d ∷ l

  byte_on : (i j : ℕ) → i ≡ 4 + j → get_or all i 0 ≡ get_or l j 0
  byte_on i j e = let z : i ≡ suc (suc (suc (suc j))) = omega arith in rw z

  pub word_on : (i j : ℕ) → i ≡ 4 + j → word_at all i ≡ word_at l j
  unfolding word_at
  word_on i j e =
      rw (
        byte_on i j e,
        byte_on (i + 1) (j + 1) (omega arith),
        byte_on (i + 2) (j + 2) (omega arith),
        byte_on (i + 3) (j + 3) (omega arith),
      )

  pub bytes_on : Bytes all → Bytes l
  bytes_on small i k = small (suc (suc (suc (suc i)))) (omega arith)

  first_four : Bytes all → (n : ℕ) → n ≡ word_at all 0 → four_bytes n ≡ a ∷ b ∷ c ∷ d ∷ []
  unfolding word_at
  first_four small n e =
      let w : a < 256 = small 0 (omega arith) in
      let x : b < 256 = small 1 (omega arith) in
      let y : c < 256 = small 2 (omega arith) in
      let z : d < 256 = small 3 (omega arith) in
      ap four_bytes e ∙ four_of_digits a b c d w x y z

  rest_given : (n : ℕ) (ns : List ℕ) → Gives (λ i. word_at all (4 * i)) (n ∷ ns) → Gives (λ i. word_at l (4 * i)) ns
  rest_given n ns g i k = g (suc i) (omega arith) ∙ word_on (4 * suc i) (4 * i) (omega arith)

-- bytes are those of the numbers that they give
pub words_there : (ns l : List ℕ) → length l ≡ 4 * length ns → Bytes l → Gives (λ i. word_at l (4 * i)) ns
    → bytes_of ns ≡ l
unfolding bytes_of
words_there [] [] e small g = refl
words_there [] (x ∷ l) e small g = absurd (omega arith)
words_there (n ∷ ns) [] e small g = absurd (omega arith)
words_there (n ∷ ns) (a ∷ []) e small g = absurd (omega arith)
words_there (n ∷ ns) (a ∷ b ∷ []) e small g = absurd (omega arith)
words_there (n ∷ ns) (a ∷ b ∷ c ∷ []) e small g = absurd (omega arith)
words_there (n ∷ ns) (a ∷ b ∷ c ∷ d ∷ l) e small g =
    rw (
      first_four a b c d l small n (g 0 (omega arith)),
      words_there ns l (omega arith) (bytes_on a b c d l small) (rest_given a b c d l n ns g),
    )
