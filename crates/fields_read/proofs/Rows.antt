-- The words that the reader puts are those of the fields that it finds: rows of shells, and the totals.
use mathlib.Core.Path.{◌≡◌, refl, sym, ap, ◌∙◌}
use mathlib.Core.List.{List, [], ◌∷◌, ◌++◌}
use Prim.Native.Nat.{ℕ, zero, suc, ◌+◌, ◌-◌, ◌*◌, ◌≤◌, ◌<◌}
use native.Mathlib.Nat.{zero-add, add-zero}
use native.Mathlib.Omega.{arith}
use lib.ListN.{length, get_or, take, drop, length-drop}
use lib.Seq.{take_all, take_at, drop_at, get_or-drop}
use borrow.Rule.Slice.PartMut.{put_mid}
use Rattle.base.specs.Choice.{choose, list}
use Rattle.base.specs.Limits.{width}
use Rattle.base.proofs.Laws.{length_list, list_same}
use Rattle.frame.specs.Numbers.{word_at}
use Rattle.frame.specs.Frame.{number_at, has_shell, shell_at, first_fields, second_fields}
use Rattle.frame.proofs.Shells.{shell_there, shell_gone, shell_low_lem, shell_high}
use Rattle.wire.specs.Wire.{part}
use Rattle.wire_read.specs.Read.{numbers_from}
use Rattle.wire_read.proofs.Copies.{part_copied}
use Rattle.field_words.specs.Words.{at_issued, at_agreed, at_sent, at_taken, fields_end, field_words}
use Rattle.fields_read.specs.Pieces.{head_words}

-- ---- values listed by a rule, in parts

list_cut : (start a b : ℕ) (f : ℕ → ℕ) → list start (a + b) f ≡ list start a f ++ list (start + a) b f
list_cut start zero b f = rw (zero-add b, add-zero start)
list_cut start (suc a) b f =
    let e : suc a + b ≡ suc (a + b) = omega arith in
    let z : start + suc a ≡ suc start + a = omega arith in
    rw (e, z) (ap (λ l. f start ∷ l) (list_cut (suc start) a b f))

list_moved : (k j n : ℕ) (f g : ℕ → ℕ) → ((i : ℕ) → i < n → f (k + i) ≡ g (j + i)) → list k n f ≡ list j n g
list_moved k j zero f g h = refl
list_moved k j (suc n) f g h =
    let here : f k ≡ g j = ap f (sym (add-zero k)) ∙ h 0 (omega arith) ∙ ap g (add-zero j) in
    let rest = list_moved (suc k) (suc j) n f g (λ i b. more i b) in
    (λ i. here i ∷ rest i)
  where
    more : (i : ℕ) → i < n → f (suc k + i) ≡ g (suc j + i)
    more i b =
        let y : suc k + i ≡ k + suc i = omega arith in
        let z : j + suc i ≡ suc j + i = omega arith in
        ap f y ∙ h (suc i) (omega arith) ∙ ap g z

-- ---- a row

abbrev none : ℕ → ℕ
none m = 0

module _ (bs : List ℕ) (k n : ℕ) (room : k + n ≤ width) where
  abbrev after : ℕ
  after = width - (k + n)

  -- the shells below those of the frame, its own, and those above
  row_cut : (f : ℕ → ℕ) → list 0 width f ≡ list 0 k f ++ (list k n f ++ list (k + n) after f)
  row_cut f =
      let e : width ≡ k + (n + after) = omega arith in
      ap (λ c. list 0 c f) e
      ∙ list_cut 0 k (n + after) f
      ∙ ap (λ j. list 0 k f ++ list j (n + after) f) (zero-add k)
      ∙ ap (λ l. list 0 k f ++ l) (list_cut k n after f)

  shells : list 0 width (shell_at (k + n) k bs 0)
      ≡ list 0 k none ++ (list 0 n (number_at bs) ++ list (k + n) after none)
  shells =
      row_cut (shell_at (k + n) k bs 0)
      ∙ (λ i.
      list_same 0 k (shell_at (k + n) k bs 0) none
      (λ m a b. shell_gone (k + n) k bs 0 m (shell_low_lem (k + n) k m (omega arith))) i
      ++ (list_moved k 0 n (shell_at (k + n) k bs 0) (number_at bs) (λ j b. at j b) i
      ++ list_same (k + n) after (shell_at (k + n) k bs 0) none
      (λ m a b. shell_gone (k + n) k bs 0 m (shell_high (k + n) k m a)) i))
    where
      at : (j : ℕ) → j < n → shell_at (k + n) k bs 0 (k + j) ≡ number_at bs (0 + j)
      at j b =
          let z : 0 + (k + j - k) ≡ 0 + j = omega arith in
          shell_there (k + n) k bs 0 (k + j) (omega arith) (omega arith) ∙ ap (number_at bs) z

  -- numbers put into a row of zeros
  pub row_put : (row ys : List ℕ) (end : ℕ) → row ≡ list 0 width none → end ≡ k + n → 4 + 4 * n ≤ length bs
      → ys ≡ numbers_from bs (part row k (end - k)) → put_mid k (end - k) row ys ≡ list 0 width (shell_at (k + n) k bs 0)
  row_put row ys end e q h g =
      let z : end - k ≡ n = omega arith in
      let c : row ≡ list 0 k none ++ (list k n none ++ list (k + n) after none) = e ∙ row_cut none in
      let y = part_copied bs row ys k n (rw (e, length_list 0 width none) room) h (rw z at g) in
      let t : take k row ≡ list 0 k none = rw c (take_at (list 0 k none) _ k (length_list 0 k none)) in
      let d : drop n (drop k row) ≡ list (k + n) after none =
      rw (c, drop_at (list 0 k none) (list k n none ++ list (k + n) after none) k (length_list 0 k none))
      (drop_at (list k n none) _ n (length_list k n none)) in
      rw (z, y, t, d) (sym shells)

-- ---- numbers further on

-- the bytes from a place on
abbrev pub rest : List ℕ → ℕ → List ℕ
rest bs at = part bs at (length bs - at)

rest_is : (bs : List ℕ) (at : ℕ) → rest bs at ≡ drop at bs
rest_is bs at = take_all (length bs - at) (drop at bs) (omega (arith, length-drop at bs))

pub length_rest : (bs : List ℕ) (at : ℕ) → length (rest bs at) ≡ length bs - at
length_rest bs at = ap length (rest_is bs at) ∙ length-drop at bs

number_after : (bs : List ℕ) (start i : ℕ) → number_at (rest bs (4 * start)) i ≡ number_at bs (start + i)
unfolding word_at
number_after bs start i =
    let z : 4 * start + (4 + 4 * i) ≡ 4 + 4 * (start + i) = omega arith in
    rw (rest_is bs (4 * start), at (4 + 4 * i), at (4 + 4 * i + 1), at (4 + 4 * i + 2), at (4 + 4 * i + 3), ← z)
    (rw (on 1, on 2, on 3))
  where
    at : (j : ℕ) → get_or (drop (4 * start) bs) j 0 ≡ get_or bs (4 * start + j) 0
    at j = get_or-drop (4 * start) bs j 0

    on : (j : ℕ) → 4 * start + (4 + 4 * i + j) ≡ 4 * start + (4 + 4 * i) + j
    on j = omega arith

shell_after : (p k : ℕ) (bs : List ℕ) (start m : ℕ) → shell_at p k (rest bs (4 * start)) 0 m ≡ shell_at p k bs start m
unfolding shell_at
shell_after p k bs start m =
    ap (λ x. choose (has_shell p k m) x 0)
    (number_after bs start (0 + (m - k)) ∙ ap (λ j. number_at bs (start + j)) (zero-add (m - k)))

-- ---- the words of a frame

module _ (bs fs : List ℕ) (e : fs ≡ head_words bs) where
  pub head_known : (length fs ≡ fields_end) × (part fs (at_sent 0) width ≡ list 0 width none)
  head_known = rw e (refl, refl)

  -- pass 1: a row of tallies sent, one of tallies taken, both totals
  module _ (n : ℕ) (xs : List ℕ) (a : xs ≡ list 0 width (shell_at (get_or bs 2 0 + n) (get_or bs 2 0) bs 0)) where
    -- with the tallies sent
    abbrev sents : List ℕ
    sents = put_mid (at_sent 0) width fs xs

    pub row_known : (length sents ≡ fields_end) × (part sents (at_taken 0) width ≡ list 0 width none)
    row_known = rw (e, a) (refl, refl)

    module _ (ys : List ℕ)
        (b : ys ≡ list 0 width (shell_at (get_or bs 2 0 + n) (get_or bs 2 0) (rest bs (4 * n)) 0)) where
      -- and those taken
      abbrev rows : List ℕ
      rows = put_mid (at_taken 0) width sents ys

      pub rows_known : length rows ≡ fields_end
      rows_known = rw (e, a, b)

      pub first_put_lem : (zs : List ℕ) → 12 + 8 * n ≤ length bs
          → zs ≡ numbers_from (rest bs (8 * n)) (part rows at_issued 2)
          → put_mid at_issued 2 rows zs ≡ field_words (first_fields (get_or bs 2 0 + n) bs)
      unfolding field_words
      first_put_lem zs h c =
          let k : ℕ = get_or bs 2 0 in
          let d : k + n - k ≡ n = omega arith in
          let z : 8 * n ≡ 4 * (2 * n) = omega arith in
          let u : ys ≡ list 0 width (shell_at (k + n) k bs n) =
          b ∙ list_same 0 width _ _ (λ m l r. shell_after (k + n) k bs n m) in
          let t : zs ≡ list 0 2 (number_at (rest bs (8 * n))) =
          part_copied (rest bs (8 * n)) rows zs at_issued 2 (omega (arith, rows_known))
          (rw (length_rest bs (8 * n)) (omega arith)) c in
          let v : zs ≡ number_at bs (2 * n) ∷ number_at bs (2 * n + 1) ∷ [] =
          t ∙ rw (z, number_after bs (2 * n) 0, number_after bs (2 * n) 1, add-zero (2 * n)) in
          rw (e, a, u, v, d)

  -- pass 2: T and total sent
  module _ (long : 12 ≤ length bs) (xs : List ℕ) (a : xs ≡ numbers_from bs (part fs at_agreed 1)) where
    agreed : xs ≡ list 0 1 (number_at bs)
    agreed = part_copied bs fs xs at_agreed 1 (omega (arith, head_known.0)) (omega arith) a

    pub agreed_known : length (put_mid at_agreed 1 fs xs) ≡ fields_end
    agreed_known = rw (e, agreed)

    pub second_put_lem : (ys : List ℕ) → ys ≡ numbers_from (rest bs 4) (part (put_mid at_agreed 1 fs xs) at_issued 1)
        → put_mid at_issued 1 (put_mid at_agreed 1 fs xs) ys ≡ field_words (second_fields bs)
    unfolding field_words
    second_put_lem ys b =
        let t : ys ≡ list 0 1 (number_at (rest bs 4)) =
        part_copied (rest bs 4) (put_mid at_agreed 1 fs xs) ys at_issued 1 (omega (arith, agreed_known))
        (rw (length_rest bs 4) (omega arith)) b in
        let v : ys ≡ number_at bs 1 ∷ [] = t ∙ rw (number_after bs 1 0) in
        rw (e, agreed, v)
