-- The writer refuses by its checks in their order; else its pieces are the recording's bytes, put from the start on.
use native.Mathlib.Omega.{arith}
use mathlib.Core.Path.{◌≡◌, refl, sym, ap, ◌∙◌}
use mathlib.Core.Bool.{true, false}
use mathlib.Core.List.{List, [], ◌∷◌}
use Prim.Native.Nat.{ℕ, ◌+◌, ◌≤◌, ◌<◌}
use lib.ListN.{length}
use borrow.Author.Tests.{lt-ltb, le-ltb}
use Rattle.base.specs.Refusal.{Answered, refused, found}
use Rattle.base.proofs.Laws.{choose_yes, choose_no}
use Rattle.printing.proofs.Putting.{Written, then, length_put}
use Rattle.recording.specs.Recording.{Recording, made, bytes_of, bodies, table}
use Rattle.recording.specs.Test.{is_bad}
use Rattle.recording.proofs.Survives.{length_bytes_of}
use Rattle.recording_write.specs.Write.{write_answer, left_by, written_on}

module _ (r : Recording) (buf : List ℕ) where
  abbrev size : ℕ
  size = bodies (length r.counts) + length r.events

  -- what is answered, and what is left in the buffer
  abbrev Writes : Answered ℕ → List ℕ → Type 0
  Writes answer now = (answer ≡ write_answer r (length buf)) × (now ≡ written_on r buf)

  -- the answer tells what is left
  left : (answer : Answered ℕ) (now : List ℕ) → write_answer r (length buf) ≡ answer → now ≡ left_by r buf answer
      → Writes answer now
  left answer now e h = (sym e, h ∙ ap (left_by r buf) (sym e))

  pub bad : is_bad r ≡ true → Writes (refused 18) buf
  bad b = left (refused 18) buf (choose_yes _ _ b) refl

  pub short : is_bad r ≡ false → length buf < size → Writes (refused 14) buf
  short b h =
      let t = lt-ltb (length buf) (length (bytes_of r)) (omega (arith, length_bytes_of r)) in
      left (refused 14) buf (choose_no _ _ b ∙ choose_yes _ _ t) refl

  pub whole : is_bad r ≡ false → size ≤ length buf → (now : List ℕ) (n : ℕ) → Written buf 0 (bytes_of r) now n
      → Writes (found n) now
  whole b h now n w =
      let t = le-ltb (length buf) (length (bytes_of r)) (omega (arith, length_bytes_of r)) in
      let e : length (bytes_of r) ≡ n = omega (arith, length_bytes_of r) in
      left (found n) now (choose_no _ _ b ∙ choose_no _ _ t ∙ ap found e) w.0

-- the place answered is within the buffer
pub inside : (out now text : List ℕ) (at n : ℕ) → Written out at text now n → n ≤ length now
inside out now text at n w = omega (arith, ap length w.0 ∙ length_put out at text)

-- the two counts, the table and the events
pub pieces : (nodes : ℕ) (counts events buf s t u : List ℕ) (k l m : ℕ)
    → Written buf 0 (nodes ∷ length counts ∷ []) s k → Written s k (table (bodies (length counts)) counts) t l
    → Written t l events u m → Written buf 0 (bytes_of (made nodes counts events)) u m
unfolding bytes_of
pieces nodes counts events buf s t u k l m x y z =
    let contents = table (bodies (length counts)) counts in
    then buf s u (nodes ∷ length counts ∷ []) _ 0 k m x (then s t u contents events k l m y z)
