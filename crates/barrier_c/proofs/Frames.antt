-- Laws of the frame writer and reader as they are exported: this build's limits, and answers as numbers.
use mathlib.Core.Path.{◌≡◌, refl, ap, ◌∙◌}
use mathlib.Core.List.{List}
use Prim.Native.Nat.{ℕ}
use lib.ListN.{length}
use Rattle.base.specs.Limits.{Limits, base}
use Rattle.std.specs.Prelude.{⊤}
use Rattle.base.specs.Refusal.{Answered, refused, found}
use Rattle.frame.specs.Frame.{read_frame, answer_of}
use Rattle.frame.specs.declared.Frame.{Frame}
use Rattle.field_words.specs.Words.{frame_words}
use Rattle.fields.specs.Fields.{write_on, written_on}
use Rattle.lookup_answers.specs.Words.{lookup_number, number_words}

module _ (L : Limits) (e : L ≡ base) (P : ℕ) where
  -- the number, the bytes and the length after a call of the writer below
  pub frame_written : (ws buf size : List ℕ) (a : Answered ℕ) (x : ℕ) (bytes after : List ℕ)
      → (a ≡ write_on L P ws (length buf)) × (bytes ≡ written_on L P ws buf)
      → (x ≡ lookup_number a) × (after ≡ number_words a size)
      → (x ≡ lookup_number (write_on base P ws (length buf)))
      × ((bytes ≡ written_on base P ws buf) × (after ≡ number_words (write_on base P ws (length buf)) size))
  frame_written ws buf size a x bytes after w g =
      let q : a ≡ write_on base P ws (length buf) = rw e at w.0 in
      (g.0 ∙ ap lookup_number q, (rw e at w.1, g.1 ∙ ap (λ (z : Answered ℕ). number_words z size) q))

  read_number_lem : (a : Answered Frame) → lookup_number (answer_of a) ≡ lookup_number a
  read_number_lem (refused x) = refl
  read_number_lem (found f) = refl

  -- the number and the words after a call of the reader below
  pub frame_read : (bs ws after : List ℕ) (o : Answered ⊤) (x : ℕ)
      → (o ≡ answer_of (read_frame L P bs)) × (after ≡ frame_words (read_frame L P bs) ws)
      → x ≡ lookup_number o
      → (x ≡ lookup_number (read_frame base P bs)) × (after ≡ frame_words (read_frame base P bs) ws)
  frame_read bs ws after o x r g =
      let q : o ≡ answer_of (read_frame base P bs) = rw e at r.0 in
      (g ∙ ap lookup_number q ∙ read_number_lem (read_frame base P bs), rw e at r.1)
