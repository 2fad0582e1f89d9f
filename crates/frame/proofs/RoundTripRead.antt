-- What the reader accepts is what the writer writes of the fields that were read.
use Rattle.std.proofs.Common.{◌≡◌, ℕ, ◌+◌, ◌-◌, ◌*◌, ◌≤◌, ◌⊎◌, List, [], ◌∷◌, length, get_or, sym, refl, ap, ◌∙◌, subst, inl, inr, arith, eq-eqb, ne_eqb}
use Rattle.base.specs.Limits.{Limits, width}
use Rattle.base.specs.Refusal.{found}
use Rattle.base.proofs.Laws.{choose_yes, choose_no}
use Rattle.tree.specs.Tree.{dimension}
use Rattle.frame.specs.Numbers.{word_at}
use Rattle.frame.specs.Frame.{numbers_of, frame_bytes, number_at, first_fields, second_fields, fields_of}
use Rattle.frame.specs.Frame.{read_frame, write_frame}
use Rattle.frame.specs.declared.Frame.{Frame}
use Rattle.frame.proofs.Words.{length_bytes_of}
use Rattle.frame.proofs.Writing.{length_frame}
use Rattle.frame.specs.Shapes.{Bytes}
use Rattle.frame.proofs.RoundTripRows.{Gives, word_on, bytes_on, words_there}
use Rattle.frame.proofs.RoundTripAccepted.{Small, board_width, write_good, Read, read_known}
use Rattle.frame.proofs.RoundTripAccepted.{head_pass, head_phase, head_dim, head_sender}
use Rattle.frame.proofs.RoundTripNumbers.{sents, takens, array_reads}
use Rattle.frame.proofs.RoundTripNumbers.{First, Second, first_good, second_good}

-- ---- the numbers of the fields are those of the bytes

module _ (L : Limits) (small : Small L) (P : ℕ) (bs : List ℕ) (r : Read L P bs (fields_of (dimension P) bs)) where
  abbrev p : ℕ
  p = dimension P

  fits : p ≤ width
  fits = board_width L P small r.accepted.board

  first : First p (first_fields p bs) (number_at bs)
  first =
      record {
        sent = array_reads sents p (get_or bs 2 0) fits bs 0;
        taken = array_reads takens p (get_or bs 2 0) fits bs (p - get_or bs 2 0);
        issued = refl;
        received = refl;
      }

  second : Second (second_fields bs) (number_at bs)
  second = record { agreed = refl; issued = refl }

  gives : ((fields_of p bs).pass ≡ 1) ⊎ ((fields_of p bs).pass ≡ 2) → Gives (number_at bs) (numbers_of p (fields_of p bs))
  unfolding fields_of
  gives (inl one) =
      let are : fields_of p bs ≡ first_fields p bs = choose_yes _ _ (eq-eqb _ 1 (sym (head_pass p bs) ∙ one)) in
      first_good p (fields_of p bs) (number_at bs) one r.accepted.dim
      (subst (λ f. First p f (number_at bs)) (sym are) first)
  gives (inr two) =
      let two-first : get_or bs 0 0 ≡ 2 = sym (head_pass p bs) ∙ two in
      let are : fields_of p bs ≡ second_fields bs = choose_no _ _ (ne_eqb (get_or bs 0 0) 1 (λ q. omega arith)) in
      second_good p (fields_of p bs) (number_at bs) two (subst (λ f. Second f (number_at bs)) (sym are) second)

bytes_are : (p : ℕ) (bs : List ℕ) → length (frame_bytes p (fields_of p bs)) ≡ length bs → Bytes bs
    → Gives (number_at bs) (numbers_of p (fields_of p bs)) → frame_bytes p (fields_of p bs) ≡ bs
unfolding frame_bytes
bytes_are p [] n small g = absurd (omega arith)
bytes_are p (x ∷ []) n small g = absurd (omega arith)
bytes_are p (x ∷ y ∷ []) n small g = absurd (omega arith)
bytes_are p (x ∷ y ∷ z ∷ []) n small g = absurd (omega arith)
bytes_are p (x ∷ y ∷ z ∷ w ∷ l) n small g =
    let bs : List ℕ = x ∷ y ∷ z ∷ w ∷ l in
    let ns = numbers_of p (fields_of p bs) in
    let there : Gives (λ i. word_at l (4 * i)) ns = λ i k. g i k ∙ word_on x y z w l (4 + 4 * i) (4 * i) refl in
    let rest = words_there ns l (omega (arith, length_bytes_of ns)) (bytes_on x y z w l small) there in
    cc (head_pass p bs, head_phase p bs, head_dim p bs, head_sender p bs)

-- ---- the theorems

-- a frame that is read has the bytes that it was read from
pub read_then_bytes : (L : Limits) → Small L → (P : ℕ) (bs : List ℕ) → Bytes bs → (f : Frame)
    → read_frame L P bs ≡ found f → frame_bytes (dimension P) f ≡ bs
read_then_bytes L small P bs bytes f e =
    let q = (read_known L P bs f e).fields in
    let r : Read L P bs (fields_of (dimension P) bs) = subst (Read L P bs) q (read_known L P bs f e) in
    ap (frame_bytes (dimension P)) q
    ∙ bytes_are (dimension P) bs (length_frame _ _ ∙ sym r.count) bytes (gives L small P bs r r.accepted.pass)

-- a frame that is read is written again wherever there is room
pub read_then_write : (L : Limits) (P : ℕ) (bs : List ℕ) (f : Frame) → read_frame L P bs ≡ found f
    → (room : ℕ) → length bs ≤ room → write_frame L P f room ≡ found (length bs)
read_then_write L P bs f e room h =
    let r = read_known L P bs f e in
    let c = r.count in
    write_good L P f room r.accepted (omega arith) ∙ ap found (sym c)
