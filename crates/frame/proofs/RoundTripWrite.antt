-- What the writer accepts, the reader gives back; so accepted frames with the same bytes are the same.
use Rattle.std.proofs.Common.{◌≡◌, ℕ, ◌+◌, ◌-◌, ◌*◌, ◌<◌, ◌≤◌, true, false, eqb, ◌⊎◌, List, [], ◌∷◌, length, get_or, sym, refl, ap, ◌∙◌, subst, inl, inr, append-nil, arith, eq-eqb, ne_eqb}
use Rattle.base.specs.Limits.{Limits, field_limit, width}
use Rattle.base.specs.Refusal.{found}
use Rattle.base.proofs.Laws.{choose_yes, choose_no, cases}
use Rattle.tree.specs.Tree.{dimension}
use Rattle.frame.specs.Frame.{sent_number, taken_number, numbers_of, frame_bytes, number_at, has_shell, shell_at}
use Rattle.frame.specs.Frame.{fields_of, number_ok, read_frame, write_frame}
use Rattle.frame.specs.declared.Frame.{Frame}
use Rattle.frame.proofs.Words.{number_back}
use Rattle.frame.proofs.Writing.{first_row_length, second_row_length, length_frame}
use Rattle.frame.proofs.RoundTripChecks.{shell_known, number_low, number_absent, tells, Numbers, numbers_known}
use Rattle.frame.specs.Shapes.{Shaped}
use Rattle.frame.proofs.RoundTripAccepted.{Small, Accepted, size, write_known, read_good_lem}
use Rattle.frame.proofs.RoundTripNumbers.{Kind, sents, takens, Tallies, tally_at, array, array_back}
use Rattle.frame.proofs.RoundTripNumbers.{First, Second, first_known, second_known}

-- frames are equal by their fields
same_frame : {f g : Frame} → f.pass ≡ g.pass → f.phase ≡ g.phase → f.dim ≡ g.dim → f.sender ≡ g.sender
    → f.sent ≡ g.sent → f.taken ≡ g.taken → f.issued.0 ≡ g.issued.0 → f.received.0 ≡ g.received.0
    → f.agreed ≡ g.agreed → f ≡ g
same_frame a b c d s t x y z =
    λ i.
    record {
      pass = a i;
      phase = b i;
      dim = c i;
      sender = d i;
      sent = s i;
      taken = t i;
      issued = sent_number (x i);
      received = taken_number (y i);
      agreed = z i;
    }

module _ (L : Limits) (small : Small L) (P : ℕ) (f : Frame) (shaped : Shaped f) (ok : Accepted L P f) where
  abbrev p : ℕ
  p = dimension P

  abbrev d : ℕ
  d = dimension P - f.dim

  abbrev bs : List ℕ
  bs = frame_bytes (dimension P) f

  abbrev wrote : ℕ → ℕ
  wrote i = get_or (numbers_of (dimension P) f) i 0

  numbers : Numbers L p f
  numbers = numbers_known L p f ok.numbers

  -- a number of the frame is read back
  back : (i x : ℕ) → i < length (numbers_of p f) → x ≡ wrote i → x ≤ field_limit L → number_at bs i ≡ x
  unfolding frame_bytes
  back i x l e low =
      let head : List ℕ = f.pass ∷ f.phase ∷ f.dim ∷ f.sender ∷ [] in
      let h = number_back head (numbers_of p f) [] i l (omega (arith, small.words)) in
      (rw append-nil at h) ∙ sym e

  -- the number of a shell is read back
  shell_back : f.pass ≡ 1 → (start m x : ℕ) → start ≤ d → (f.dim ≤ m → m < p → x ≡ wrote (start + (m - f.dim)))
      → number_ok L (tells p f m) x ≡ true → shell_at p f.dim bs start m ≡ x
  unfolding shell_at
  shell_back one start m x fits t good = cases (λ y. y ≡ x) (has_shell p f.dim m) _ 0 there absent
    where
      there : has_shell p f.dim m ≡ true → number_at bs (start + (m - f.dim)) ≡ x
      there e =
          let s = shell_known p f.dim m e in
          let n = first_row_length p f one in
          back (start + (m - f.dim)) x (omega arith) (t s.0 s.1) (number_low L (tells p f m) x good)

      absent : has_shell p f.dim m ≡ false → 0 ≡ x
      absent e = sym (number_absent L (tells p f m) x good (rw (eq-eqb f.pass 1 one, e)))

  -- an array of tallies is read back
  module _ {A : Type 0} (kind : Kind A) (l : List A) (count : length l ≡ width)
      (good : (m : ℕ) → m < width → number_ok L (tells p f m) (tally_at kind l m) ≡ true) where
    first_array : f.pass ≡ 1 → (start : ℕ) → start ≤ d → Tallies p f.dim wrote start (tally_at kind l)
        → array kind (shell_at p f.dim bs start) ≡ l
    first_array one start fits t =
        array_back kind l count (shell_at p f.dim bs start) (λ m h. shell_back one start m _ fits (t m) (good m h))

    second_array : f.pass ≡ 2 → array kind (λ m. 0) ≡ l
    second_array two =
        array_back kind l count (λ m. 0)
        (λ m h. sym (number_absent L (tells p f m) _ (good m h) (rw (ne_eqb f.pass 1 (λ q. omega arith)))))

  -- the fields of a frame of pass 1, and of pass 2, are read back
  first_back : f.pass ≡ 1 → fields_of p bs ≡ f
  unfolding fields_of frame_bytes
  first_back one =
      let t : First p f wrote = first_known p f wrote one ok.dim (λ i l. refl) in
      let n = first_row_length p f one in
      let low = number_low L (eqb f.pass 1) f.received.0 numbers.received in
      choose_yes _ _ (eq-eqb f.pass 1 one)
      ∙ same_frame refl refl refl refl
      (first_array sents f.sent shaped.sent numbers.sent one 0 (omega arith) t.sent)
      (first_array takens f.taken shaped.taken numbers.taken one d (omega arith) t.taken)
      (back (2 * d) f.issued.0 (omega arith) t.issued numbers.issued)
      (back (2 * d + 1) f.received.0 (omega arith) t.received low)
      (sym (number_absent L _ f.agreed numbers.agreed (ne_eqb f.pass 2 (λ q. omega arith))))

  second_back : f.pass ≡ 2 → fields_of p bs ≡ f
  unfolding fields_of frame_bytes
  second_back two =
      let t : Second f wrote = second_known p f wrote two (λ i l. refl) in
      let n = second_row_length p f (λ q. omega arith) in
      let low = number_low L (eqb f.pass 2) f.agreed numbers.agreed in
      let not-one = ne_eqb f.pass 1 (λ q. omega arith) in
      choose_no _ _ not-one
      ∙ same_frame refl refl refl refl
      (second_array sents f.sent shaped.sent numbers.sent two)
      (second_array takens f.taken shaped.taken numbers.taken two)
      (back 1 f.issued.0 (omega arith) t.issued numbers.issued)
      (sym (number_absent L _ f.received.0 numbers.received not-one))
      (back 0 f.agreed (omega arith) t.agreed low)

  fields_back : (f.pass ≡ 1) ⊎ (f.pass ≡ 2) → fields_of p bs ≡ f
  fields_back (inl one) = first_back one
  fields_back (inr two) = second_back two

  read_back : read_frame L P bs ≡ found f
  read_back =
      let same = fields_back ok.pass in
      read_good_lem L P bs (subst (Accepted L P) (sym same) ok) (length_frame p f ∙ ap (size P) (sym same)) ∙ ap found same

-- ---- the theorems

-- a written frame has the length that the writer answers
pub written_length : (L : Limits) (P : ℕ) (f : Frame) (room n : ℕ) → write_frame L P f room ≡ found n
    → length (frame_bytes (dimension P) f) ≡ n
written_length L P f room n e = length_frame (dimension P) f ∙ sym (write_known L P f room n e).count

-- a written frame is read back as it was
pub write_then_read : (L : Limits) → Small L → (P : ℕ) (f : Frame) → Shaped f → (room n : ℕ)
    → write_frame L P f room ≡ found n → read_frame L P (frame_bytes (dimension P) f) ≡ found f
write_then_read L small P f shaped room n e = read_back L small P f shaped (write_known L P f room n e).accepted

-- two accepted frames with the same bytes have the same fields
pub same_bytes_lem : (L : Limits) → Small L → (P : ℕ) (f g : Frame) → Shaped f → Shaped g → Accepted L P f → Accepted L P g
    → frame_bytes (dimension P) f ≡ frame_bytes (dimension P) g → f ≡ g
same_bytes_lem L small P f g s t a b e =
    let x = read_back L small P f s a in
    let y = read_back L small P g t b in
    let z = ap (read_frame L P) e in
    cc
