-- Laws of a frame's numbers by its pass, and of its length.
use Rattle.std.proofs.Common.{◌≡◌, ℕ, ◌+◌, ◌-◌, ◌*◌, [], ◌∷◌, ◌++◌, length, arith, length-append, eq-eqb, ne_eqb}
use native.Mathlib.Decide.{ℕ_discrete}
use Rattle.base.specs.Choice.{list}
use Rattle.base.proofs.Laws.{choose_yes, choose_no, length_list}
use Rattle.frame.specs.declared.Frame.{Frame}
use Rattle.frame.specs.Frame.{frame_length, numbers_of, frame_bytes, sent_at, taken_at}
use Rattle.frame.proofs.Words.{length_bytes_of}

pub first_length_lem : (p pass k : ℕ) → pass ≡ 1 → frame_length p pass k ≡ 12 + 8 * (p - k)
unfolding frame_length
first_length_lem p pass k e = rw (eq-eqb pass 1 e) (omega arith)

pub second_length : (p pass k : ℕ) → (pass ≡ 1 → ⊥) → frame_length p pass k ≡ 12
unfolding frame_length
second_length p pass k e = rw (ne_eqb pass 1 e)

module _ (p : ℕ) (f : Frame) where
  pub first_row : f.pass ≡ 1
      → numbers_of p f
      ≡ list f.dim (p - f.dim) (sent_at f.sent)
      ++ (list f.dim (p - f.dim) (taken_at f.taken) ++ (f.issued.0 ∷ f.received.0 ∷ []))
  unfolding numbers_of
  first_row e = choose_yes _ _ (eq-eqb f.pass 1 e)

  pub second_row : (f.pass ≡ 1 → ⊥) → numbers_of p f ≡ f.agreed ∷ f.issued.0 ∷ []
  unfolding numbers_of
  second_row e = choose_no _ _ (ne_eqb f.pass 1 e)

  pub first_row_length : f.pass ≡ 1 → length (numbers_of p f) ≡ 2 * (p - f.dim) + 2
  first_row_length e = rw (first_row e) (simp (length-append, length_list) (omega arith))

  pub second_row_length : (f.pass ≡ 1 → ⊥) → length (numbers_of p f) ≡ 2
  second_row_length e = rw (second_row e)

  -- a frame has as many bytes as its length says
  pub length_frame : length (frame_bytes p f) ≡ frame_length p f.pass f.dim
  unfolding frame_bytes
  length_frame = go (ℕ_discrete f.pass 1)
    where
      go : Dec (f.pass ≡ 1) → length (frame_bytes p f) ≡ frame_length p f.pass f.dim
      go (yes e) =
          omega (arith, length_bytes_of (numbers_of p f), first_row_length e, first_length_lem p f.pass f.dim e)
      go (no e) =
          omega (arith, length_bytes_of (numbers_of p f), second_row_length e, second_length p f.pass f.dim e)
