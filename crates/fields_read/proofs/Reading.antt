-- What the reader's answer says of the bytes, and the words after it.
use mathlib.Core.Path.{◌≡◌, refl, sym, ap, ◌∙◌}
use mathlib.Core.Logic.{◌⊎◌, inl, inr}
use mathlib.Core.List.{List}
use Prim.Native.Nat.{ℕ, ◌≤◌, ◌<◌}
use native.Mathlib.Omega.{arith}
use lib.ListN.{length, get_or}
use Rattle.base.specs.Limits.{Limits, Fits, width}
use Rattle.base.specs.Refusal.{Answered, refused, found}
use Rattle.tree.specs.Tree.{dimension}
use Rattle.frame.specs.Frame.{frame_length, fields_of, read_frame, answer_of}
use Rattle.frame.specs.declared.Frame.{Frame}
use Rattle.frame.proofs.Answers.{answer_refused, answer_done}
use Rattle.frame.proofs.Writing.{first_length_lem, second_length}
use Rattle.frame.proofs.RoundTripAccepted.{Read, read_known, head_pass, head_dim}
use Rattle.wire_read.proofs.Within.{few, fields_second}
use Rattle.field_words.specs.Words.{field_words, frame_words}
use Rattle.fields_read.specs.Pieces.{dims_by}

-- refused, the words stay
pub not_read : (r : Answered Frame) (x : ℕ) (ws : List ℕ) → answer_of r ≡ refused x
    → (refused x ≡ answer_of r) × (ws ≡ frame_words r ws)
not_read r x ws e = (sym e, sym (ap (λ a. frame_words a ws) (answer_refused r x e)))

module _ (L : Limits) (P : ℕ) (bs : List ℕ) (good : answer_of (read_frame L P bs) ≡ found tt) where
  abbrev p : ℕ
  p = dimension P

  abbrev k : ℕ
  k = get_or bs 2 0

  got : read_frame L P bs ≡ found (fields_of p bs)
  got =
      let r = answer_done (read_frame L P bs) good in
      r.1 ∙ ap found (read_known L P bs r.0 r.1).fields

  read : Read L P bs (fields_of p bs)
  read = read_known L P bs (fields_of p bs) got

  -- the dimension is one of the board, and the length is that of a frame of the pass
  low : k < p
  low = rw (head_dim p bs) at read.accepted.dim

  count : length bs ≡ frame_length p (get_or bs 0 0) k
  count = rw (head_pass p bs, head_dim p bs) at read.count

  pass : (get_or bs 0 0 ≡ 1) ⊎ (get_or bs 0 0 ≡ 2)
  pass = rw (head_pass p bs) at read.accepted.pass

  -- by the pass: the length says how many shells there are, or there are none
  sized : (get_or bs 0 0 ≡ 1) ⊎ (get_or bs 0 0 ≡ 2)
      → (12 ≤ length bs) × (dims_by bs ≤ p) × (fields_of (dims_by bs) bs ≡ fields_of p bs)
  sized (inl one) =
      let l = first_length_lem p (get_or bs 0 0) k one in
      let z : dims_by bs ≡ p = omega (arith, count, l, low) in
      (omega (arith, count, l), omega (arith, z), ap (λ d. fields_of d bs) z)
  sized (inr two) =
      let l = second_length p (get_or bs 0 0) k (λ e. omega arith) in (
        omega (arith, count, l),
        omega (arith, count, l, low),
        fields_second (dims_by bs) bs (λ e. omega arith) ∙ sym (fields_second p bs (λ e. omega arith)),
      )

  pub frame_long : 12 ≤ length bs
  frame_long = (sized pass).0

  pub dims_low : Fits L → dims_by bs ≤ width
  dims_low fit = omega (arith, (sized pass).1, few L fit P p read.accepted.board refl)

  pub is_read : (ws after : List ℕ) → after ≡ field_words (fields_of (dims_by bs) bs)
      → (found tt ≡ answer_of (read_frame L P bs)) × (after ≡ frame_words (read_frame L P bs) ws)
  is_read ws after e =
      (sym good, e ∙ ap field_words (sized pass).2 ∙ sym (ap (λ a. frame_words a ws) got))
