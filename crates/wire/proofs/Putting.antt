-- A frame is put into lent bytes piece by piece: its head, then numbers, and the bytes after it stay. The numbers are
-- parts of words.
use mathlib.Core.Path.{◌≡◌, refl, sym, ap, ◌∙◌}
use mathlib.Core.List.{List, [], ◌∷◌, ◌++◌, append_assoc, append-nil}
use Prim.Native.Nat.{ℕ, zero, suc, ◌+◌, ◌*◌, ◌≤◌, ◌<◌}
use native.Mathlib.Nat.{zero-add}
use native.Mathlib.Omega.{arith}
use lib.ListN.{length, get_or, drop, length-append, length-drop}
use lib.Seq.{length-take-le}
use borrow.Author.Tests.{le-leb}
use Rattle.base.specs.Choice.{list}
use Rattle.base.proofs.Laws.{choose_yes}
use Rattle.frame.specs.Numbers.{bytes_of}
use Rattle.frame.specs.Parts.{pasted}
use Rattle.frame.proofs.Words.{length_bytes_of, bytes_of_append}
use Rattle.frame.proofs.Pasting.{length_pasted, paste_more}
use Rattle.wire.specs.Wire.{put_at, put_numbers, part}

module _ (buf head : List ℕ) (four : length head ≡ 4) where
  -- the head and so many numbers
  abbrev frame : List ℕ → List ℕ
  frame xs = head ++ bytes_of xs

  pub length_pieces : (xs : List ℕ) → length (frame xs) ≡ 4 + 4 * length xs
  length_pieces xs = omega (arith, length-append head (bytes_of xs), length_bytes_of xs)

  -- the numbers after those that stand there
  more_put : (xs ys : List ℕ) → 4 + 4 * length xs + 4 * length ys ≤ length buf
      → put_numbers (pasted buf 0 (frame xs)) (4 + 4 * length xs) ys ≡ pasted buf 0 (frame (xs ++ ys))
  more_put xs ys h =
      let n : ℕ = 4 + 4 * length xs in
      let z : 0 + n ≡ n = zero-add n in
      let e = length_pieces xs in
      let b = length_bytes_of ys in
      let l = length_pasted buf 0 (frame xs) (omega arith) in
      choose_yes _ _ (le-leb (n + 4 * length ys) (length (pasted buf 0 (frame xs))) (omega arith))
      ∙ (rw z at (paste_more buf 0 n (frame xs) (bytes_of ys) e (omega arith)))
      ∙ ap (pasted buf 0)
      (append_assoc head (bytes_of xs) (bytes_of ys) ∙ ap (λ bs. head ++ bs) (sym (bytes_of_append xs ys)))

  -- the bytes after it stay
  pub whole_put : (xs : List ℕ) → pasted buf 0 (frame xs) ≡ frame xs ++ drop (length (frame xs)) buf
  unfolding pasted
  whole_put xs = ap (λ i. frame xs ++ drop i buf) (zero-add (length (frame xs)))

  head_put : 4 ≤ length buf → put_at buf 0 head ≡ pasted buf 0 (frame [])
  unfolding bytes_of
  head_put h =
      choose_yes _ _ (le-leb (0 + length head) (length buf) (omega arith)) ∙ ap (pasted buf 0) (sym (append-nil head))

  -- ---- the pieces

  pub one_put : (xs : List ℕ) → 4 + 4 * length xs ≤ length buf
      → put_numbers (put_at buf 0 head) 4 xs ≡ pasted buf 0 (frame xs)
  one_put xs h = ap (λ l. put_numbers l 4 xs) (head_put (omega arith)) ∙ more_put [] xs (omega arith)

  -- one piece more
  pub next_put : (l xs ys : List ℕ) (at : ℕ) → l ≡ pasted buf 0 (frame xs) → at ≡ 4 + 4 * length xs
      → 4 + 4 * length xs + 4 * length ys ≤ length buf → put_numbers l at ys ≡ pasted buf 0 (frame (xs ++ ys))
  next_put l xs ys at f e h = (λ i. put_numbers (f i) (e i) ys) ∙ more_put xs ys h

-- ---- parts of words

pub length_part : (l : List ℕ) (at count : ℕ) → at + count ≤ length l → length (part l at count) ≡ count
length_part l at count h = length-take-le count (drop at l) (omega (arith, length-drop at l))

-- a part as a list by a rule
pub part_is : (l : List ℕ) (at count k : ℕ) (f : ℕ → ℕ) → at + count ≤ length l
    → ((i : ℕ) → i < count → get_or l (at + i) 0 ≡ f (k + i)) → part l at count ≡ list k count f
part_is l at zero k f h e = refl
part_is [] at (suc count) k f h e = absurd (omega arith)
part_is (x ∷ l) (suc at) (suc count) k f h e =
    part_is l at (suc count) k f (omega arith)
    (λ i b. let z : suc (at + i) ≡ suc at + i = omega arith in ap (λ j. get_or (x ∷ l) j 0) z ∙ e i b)
part_is (x ∷ l) zero (suc count) k f h e =
    let z : k + 0 ≡ k = omega arith in
    let here : x ≡ f k = e 0 (omega arith) ∙ ap f z in
    let rest : part l 0 count ≡ list (suc k) count f = part_is l 0 count (suc k) f (omega arith) (λ i b. more i b) in
    (λ i. here i ∷ rest i)
  where
    more : (i : ℕ) → i < count → get_or l (0 + i) 0 ≡ f (suc k + i)
    more i b =
        let y : suc (0 + i) ≡ 0 + suc i = omega arith in
        let z : k + suc i ≡ suc k + i = omega arith in
        ap (λ j. get_or (x ∷ l) j 0) y ∙ e (suc i) (omega arith) ∙ ap f z
