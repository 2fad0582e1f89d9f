-- What a line says, by the blanks and the newline in it.
use borrow.Author.Tests.{lt-ltb, le-ltb}
use mathlib.Core.Path.{◌≡◌, refl, ap, ◌∙◌}
use mathlib.Core.Bool.{Bool, true, false}
use mathlib.Core.List.{List, [], ◌∷◌}
use Prim.Native.Nat.{ℕ, zero, suc, ◌+◌, ◌-◌, ◌≤◌, ◌<◌}
use native.Mathlib.Omega.{arith}
use lib.Dec.{ltb}
use lib.ListN.{length, take, drop, length-drop}
use lib.Seq.{take_all}
use Rattle.base.specs.Choice.{choose}
use Rattle.base.proofs.Laws.{choose_yes, choose_no, cases}
use Rattle.line_forms.specs.Forms.{before, one_number, two_numbers}
use Rattle.line_forms.specs.declared.Line.TheVariants.{Bad}
use Rattle.script.specs.declared.Parsed.{Parsed}
use Rattle.script.specs.Script.{parts_within, by_parts, line_of, line_at}

-- the bytes from a place on
pub after : (at : ℕ) (s : List ℕ) → take (length s - at) (drop at s) ≡ drop at s
after at s = take_all (length s - at) (drop at s) (omega (arith, length-drop at s))

-- ---- Parts

parts_last : (most : ℕ) (bs : List ℕ) → length bs ≤ before 32 bs → parts_within most bs ≡ bs ∷ []
unfolding parts_within
parts_last zero bs h = refl
parts_last (suc most) bs h = rw (le-ltb _ _ h)

parts_first : (most : ℕ) (bs : List ℕ) (a : ℕ) → a ≡ before 32 bs → a < length bs → length bs ≤ most
    → parts_within most bs ≡ take a bs ∷ parts_within (most - 1) (drop (a + 1) bs)
unfolding parts_within
parts_first zero bs a e h l = absurd (omega arith)
parts_first (suc most) bs a e h l = let z : suc most - 1 ≡ most = omega arith in rw (z, ← e, lt-ltb _ _ h)

-- more than three parts
parts_over : (w x y : List ℕ) (most : ℕ) (bs : List ℕ) → by_parts (w ∷ x ∷ y ∷ parts_within most bs) ≡ Bad
unfolding parts_within
parts_over w x y zero bs = refl
parts_over w x y (suc most) bs = go (ltb (before 32 bs) (length bs)) _ _ _ _
  where
    go : (t : Bool) (z u : List ℕ) (l m : List (List ℕ)) → by_parts (w ∷ x ∷ y ∷ choose t (z ∷ l) (u ∷ m)) ≡ Bad
    go true z u l m = refl
    go false z u l m = refl

-- ---- Lines by their blanks

pub line_one : (bs : List ℕ) → length bs ≤ before 32 bs → line_of bs ≡ Bad
unfolding line_of
line_one bs h = rw (parts_last (length bs) bs h)

shorter : (bs rest : List ℕ) (most a : ℕ) → rest ≡ drop (a + 1) bs → length bs ≤ most → length rest ≤ most - 1
shorter bs rest most a e l = let d = length-drop (a + 1) bs in let g = ap length e in omega arith

-- the bytes before the first blank, and after it
module _
    (bs : List ℕ)
    (a : ℕ)
    (p : a ≡ before 32 bs)
    (h : a < length bs)
    (rest : List ℕ)
    (e : rest ≡ drop (a + 1) bs)
  where
    after_one : line_of bs ≡ by_parts (take a bs ∷ parts_within (length bs - 1) rest)
    unfolding line_of
    after_one = rw (parts_first (length bs) bs a p h (omega arith), ← e)

    pub line_two : length rest ≤ before 32 rest → line_of bs ≡ one_number (take a bs) rest
    line_two k = after_one ∙ rw (parts_last (length bs - 1) rest k)

    -- the bytes before the second blank, and after it
    module _ (b : ℕ) (q : b ≡ before 32 rest) (k : b < length rest) (last : List ℕ) (f : last ≡ drop (b + 1) rest) where
      fewer : length rest ≤ length bs - 1
      fewer = shorter bs rest (length bs) a e (omega arith)

      after_two : line_of bs ≡ by_parts (take a bs ∷ take b rest ∷ parts_within (length bs - 1 - 1) last)
      after_two = after_one ∙ rw (parts_first (length bs - 1) rest b q k fewer, ← f)

      pub line_three : length last ≤ before 32 last → line_of bs ≡ two_numbers (take a bs) (take b rest) last
      line_three m = after_two ∙ rw (parts_last (length bs - 1 - 1) last m)

      pub line_four : before 32 last < length last → line_of bs ≡ Bad
      line_four m =
          let o = before 32 last in
          after_two
          ∙ rw (parts_first (length bs - 1 - 1) last o refl m (shorter rest last (length bs - 1) b f fewer))
          (parts_over (take a bs) (take b rest) (take o last) (length bs - 1 - 1 - 1) _)

-- ---- Lines by their newlines

module _ (text : List ℕ) (at : ℕ) (rest : List ℕ) (e : rest ≡ drop at text) (n : ℕ) (p : n ≡ before 10 rest) where
  pub at_newline : n < length rest → line_at text at ≡ record { line = line_of (take n rest); next = at + n + 1 }
  unfolding line_at
  at_newline h = rw (← e, ← p) (choose_yes _ _ (lt-ltb _ _ h))

  pub at_end : length rest ≤ n → line_at text at ≡ record { line = Bad; next = length text }
  unfolding line_at
  at_end h = rw (← e, ← p) (choose_no _ _ (le-ltb _ _ h))

pub at_past : (text : List ℕ) (at : ℕ) → length text ≤ at → line_at text at ≡ record { line = Bad; next = length text }
at_past text at h =
    let d = length-drop at text in
    at_end text at (drop at text) refl (before 10 (drop at text)) refl (omega arith)

-- a line ends after it begins
pub next_on : (text : List ℕ) (at : ℕ) → at < length text → at < (line_at text at).next
unfolding line_at
next_on text at h =
    cases (λ (p : Parsed). at < p.next) (ltb (before 10 (drop at text)) (length (drop at text))) _ _ (λ e. omega arith)
    (λ e. h)
