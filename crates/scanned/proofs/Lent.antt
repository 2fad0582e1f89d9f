-- The words that a step of the walk is lent: those of a frame, by themselves, are the frame that the state has there.
use mathlib.Core.Path.{◌≡◌, sym, ap, ◌∙◌}
use mathlib.Core.List.{List}
use Prim.Native.Nat.{ℕ, ◌+◌, ◌-◌, ◌*◌, ◌≤◌, ◌<◌}
use native.Mathlib.Nat.{zero-add, add-zero}
use native.Mathlib.Omega.{arith}
use lib.ListN.{length}
use Rattle.base.specs.Limits.{width}
use Rattle.base.proofs.Laws.{list_at}
use Rattle.node.specs.Sums.{dims, first_at, second_at}
use Rattle.layout.specs.Places.{first_words, second_words, step_words, at_first, at_second, state_words, most_words}
use Rattle.layout.specs.Held.{word, first_from, second_from, first_in, second_in, unpacked}
use Rattle.layout.proofs.Offsets.{first_inside, first_end}
use Rattle.layout.proofs.Parts.{first_alike, second_alike}
use Rattle.layout.proofs.Reading.{first_word, second_word, first_in_lem, second_in_lem}
use Rattle.wire.specs.Wire.{part}
use Rattle.wire.proofs.Putting.{length_part, part_is}
use Rattle.head.proofs.Heads.{dims_is}

-- the words of the frames of dimension k on a board of p dimensions
abbrev pub first_lent : List ℕ → ℕ → ℕ → List ℕ
first_lent ws p k = part ws (at_first p k) (first_words p k)

abbrev pub second_lent : List ℕ → ℕ → ℕ → List ℕ
second_lent ws p k = part ws (at_second p k) second_words

pub word_part : (l : List ℕ) (at count i : ℕ) → at + count ≤ length l → i < count → word (part l at count) i ≡ word l (at + i)
word_part l at count i h b =
    ap (λ r. word r i)
    (part_is l at count 0 (λ j. word l (at + j)) h (λ j c. ap (λ m. word l (at + m)) (sym (zero-add j))))
    ∙ list_at count (λ j. word l (at + j)) i 0 b

module _ (ws : List ℕ) (k : ℕ) (low : k < dims (unpacked ws)) (bound : dims (unpacked ws) ≤ width)
    (long : state_words (dims (unpacked ws)) ≤ length ws) where
  abbrev p : ℕ
  p = dims (unpacked ws)

  pub inside : at_first p k + step_words p k ≤ length ws
  inside = omega (arith, first_inside p k low, long)

  -- the places of a state are small
  pub near : at_first p k + step_words p k ≤ most_words
  near = first_end p k low bound

  pub first_long : length (first_lent ws p k) ≡ first_words p k
  first_long = length_part ws (at_first p k) (first_words p k) (omega (arith, inside))

  pub second_long : length (second_lent ws p k) ≡ second_words
  second_long = length_part ws (at_second p k) second_words (omega (arith, inside))

  pub first_mark : word (first_lent ws p k) 0 ≡ word ws (at_first p k)
  first_mark =
      word_part ws (at_first p k) (first_words p k) 0 (omega (arith, inside)) (omega arith)
      ∙ ap (word ws) (add-zero (at_first p k))

  pub second_mark : word (second_lent ws p k) 0 ≡ word ws (at_second p k)
  second_mark =
      word_part ws (at_second p k) second_words 0 (omega (arith, inside)) (omega arith)
      ∙ ap (word ws) (add-zero (at_second p k))

  pub first_is : first_at (unpacked ws) k ≡ first_from (first_lent ws p k) p k 0
  first_is =
      first_word ws k (omega arith)
      ∙ ap (λ d. first_in ws d k) (sym (dims_is ws))
      ∙ first_in_lem ws p k low
      ∙ first_alike ws (first_lent ws p k) p k (at_first p k) 0
      (λ i b.
      sym (word_part ws (at_first p k) (first_words p k) i (omega (arith, inside)) b)
      ∙ ap (word (first_lent ws p k)) (sym (zero-add i)))

  pub second_is : second_at (unpacked ws) k ≡ second_from (second_lent ws p k) 0
  second_is =
      second_word ws k (omega arith)
      ∙ ap (λ d. second_in ws d k) (sym (dims_is ws))
      ∙ second_in_lem ws p k low
      ∙ second_alike ws (second_lent ws p k) (at_second p k) 0
      (λ i b.
      sym (word_part ws (at_second p k) second_words i (omega (arith, inside)) b)
      ∙ ap (word (second_lent ws p k)) (sym (zero-add i)))

-- ---- the slices that the loop makes

module _ (ws : List ℕ) (p k at : ℕ) (place : at ≡ at_first p k) where
  pub first_slice : part ws at (at + first_words p k - at) ≡ first_lent ws p k
  first_slice =
      let e : at + first_words p k - at ≡ first_words p k = omega arith in (λ i. part ws (place i) (e i))

  pub second_slice : part ws (at + first_words p k) (at + first_words p k + second_words - (at + first_words p k)) ≡ second_lent ws p k
  second_slice =
      let e : at + first_words p k ≡ at_second p k = omega arith in
      let f : at + first_words p k + second_words - (at + first_words p k) ≡ second_words = omega arith in
      (λ i. part ws (e i) (f i))
