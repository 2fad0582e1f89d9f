-- What an accepted frame is: what the answers of the writer and the reader say, what brings them about, and how long
-- a frame can be.
use Rattle.std.proofs.Common.{◌≡◌, ℕ, ◌+◌, ◌-◌, ◌*◌, ◌^◌, ◌<◌, ◌≤◌, true, false, not, eqb, ltb, leb, ◌⊎◌, List, [], ◌∷◌, length, get_or, sym, refl, ap, ◌∙◌, subst, arith, ltb-false, le-ltb, eq-eqb, ne_eqb, eqb-true, leb-false}
use borrow.Author.Tests.{lt-leb, not-false}
use Rattle.base.specs.Limits.{Limits, field_limit, width, base}
use Rattle.base.specs.Refusal.{refused, found, Check, when}
use Rattle.base.specs.declared.Refusal.{Refusal}
use Rattle.base.proofs.Laws.{choose_yes, choose_no, cases, Passes, order_passes, checks_known}
use Rattle.tree.specs.Tree.{dimension}
use Rattle.tree.specs.Lookups.{bad_board}
use Rattle.tree.proofs.Dimension.{smallest}
use Rattle.tree.proofs.Lookups.{board_good}
use Rattle.frame.specs.Frame.{frame_length, first_fields, second_fields, fields_of}
use Rattle.frame.specs.Frame.{bad_step, numbers_ok, read_checks, read_frame, write_frame}
use Rattle.frame.specs.Shapes.{Shaped}
use Rattle.frame.specs.declared.Frame.{Frame}
use Rattle.frame.proofs.RoundTripChecks.{step_known, step_good}

-- ---- acceptance

-- limits whose numbers have four bytes, and whose boards have no more shells than there is room for
pub record Small (L : Limits) : Type 0 where
  pub words : field_limit L < 2 ^ 32
  pub shells : L.nodes ≤ 2 ^ width

pub small_base : Small base
small_base = record { words = omega arith; shells = omega arith }

-- a frame that the writer and the reader accept
pub record Accepted (L : Limits) (P : ℕ) (f : Frame) : Type 0 where
  pub board : bad_board L P ≡ false
  pub pass : (f.pass ≡ 1) ⊎ (f.pass ≡ 2)
  pub dim : f.dim < dimension P
  pub numbers : numbers_ok L (dimension P) f ≡ true
  pub sender : f.sender < P

pub board_width : (L : Limits) (P : ℕ) → Small L → bad_board L P ≡ false → dimension P ≤ width
board_width L P small e = smallest P width (omega (arith, board_good L P e, small.shells))

-- the length of an accepted frame
abbrev pub size : ℕ → Frame → ℕ
size P f = frame_length (dimension P) f.pass f.dim

module _ (P : ℕ) (f : Frame) where
  pub size_first : f.pass ≡ 1 → size P f ≡ 4 + 8 * (dimension P - f.dim) + 8
  unfolding frame_length
  size_first e = choose_yes _ _ (eq-eqb f.pass 1 e)

  pub size_second : f.pass ≡ 2 → size P f ≡ 12
  unfolding frame_length
  size_second e = choose_no _ _ (ne_eqb f.pass 1 (λ q. omega arith))

  size_low : 4 ≤ size P f
  unfolding frame_length
  size_low = cases (λ n. 4 ≤ n) (eqb f.pass 1) _ _ (λ e. omega arith) (λ e. omega arith)

  pub size_high : dimension P ≤ width → size P f ≤ 4 + 8 * width + 8
  unfolding frame_length
  size_high h = cases (λ n. n ≤ 4 + 8 * width + 8) (eqb f.pass 1) _ _ (λ e. omega arith) (λ e. omega arith)

-- ---- the writer

-- a frame written to a room of so many bytes, of which it takes n
pub record Written (L : Limits) (P : ℕ) (f : Frame) (room n : ℕ) : Type 0 where
  pub accepted : Accepted L P f
  pub count : n ≡ size P f
  pub fits : n ≤ room

write_checks : Limits → ℕ → Frame → ℕ → List Check
write_checks L P f room =
    when (bad_board L P) Refusal.Board
    ∷ when (bad_step (dimension P) f.pass f.dim) Refusal.Field
    ∷ when (not (numbers_ok L (dimension P) f)) Refusal.Field
    ∷ when (leb P f.sender) Refusal.Stranger
    ∷ when (ltb room (size P f)) Refusal.Buffer
    ∷ []

module _ (L : Limits) (P : ℕ) (f : Frame) (room : ℕ) where
  -- what the writer's answer says
  pub write_known : (n : ℕ) → write_frame L P f room ≡ found n → Written L P f room n
  unfolding write_frame write_checks
  write_known n e =
      let r = checks_known (write_checks L P f room) (size P f) n e in
      let c = r.0 in
      let s = step_known _ _ _ c.1.0 in
      let l = r.1 in
      record {
        accepted =
            record {
              board = c.0;
              pass = s.0;
              dim = s.1;
              numbers = not-false _ c.1.1.0;
              sender = leb-false P f.sender c.1.1.1.0;
            };
        count = sym l;
        fits = omega (arith, ltb-false room (size P f) c.1.1.1.1.0);
      }

  -- what the writer takes
  pub write_good : Accepted L P f → size P f ≤ room → write_frame L P f room ≡ found (size P f)
  unfolding write_frame write_checks
  write_good a h =
      let step = step_good _ _ _ a.pass a.dim in
      order_passes refused (write_checks L P f room) (found (size P f))
      (a.board, (step, (ap not a.numbers, (lt-leb P _ a.sender, (le-ltb room (size P f) h, tt)))))

-- ---- the reader

-- a frame read from bytes
pub record Read (L : Limits) (P : ℕ) (bs : List ℕ) (f : Frame) : Type 0 where
  pub fields : f ≡ fields_of (dimension P) bs
  pub accepted : Accepted L P f
  pub shaped : Shaped f
  pub count : length bs ≡ size P f

-- the fields of bytes
module _ (p : ℕ) (bs : List ℕ) where
  -- a fact of the fields of either pass
  either_pass : (F : Frame → Type 0) → F (first_fields p bs) → F (second_fields bs) → F (fields_of p bs)
  unfolding fields_of
  either_pass F a b = cases F (eqb (get_or bs 0 0) 1) (first_fields p bs) (second_fields bs) (λ e. a) (λ e. b)

  pub head_pass : (fields_of p bs).pass ≡ get_or bs 0 0
  head_pass = either_pass (λ f. f.pass ≡ get_or bs 0 0) refl refl

  pub head_phase : (fields_of p bs).phase ≡ get_or bs 1 0
  head_phase = either_pass (λ f. f.phase ≡ get_or bs 1 0) refl refl

  pub head_dim : (fields_of p bs).dim ≡ get_or bs 2 0
  head_dim = either_pass (λ f. f.dim ≡ get_or bs 2 0) refl refl

  pub head_sender : (fields_of p bs).sender ≡ get_or bs 3 0
  head_sender = either_pass (λ f. f.sender ≡ get_or bs 3 0) refl refl

  shape : Shaped (fields_of p bs)
  shape = either_pass Shaped (record { sent = refl; taken = refl }) (record { sent = refl; taken = refl })

module _ (L : Limits) (P : ℕ) (bs : List ℕ) where
  abbrev p : ℕ
  p = dimension P

  checks : List Check
  checks = when (bad_board L P) Refusal.Board ∷ read_checks L P bs

  known : Passes checks → Read L P bs (fields_of p bs)
  unfolding checks
  known c =
      let s = step_known _ _ _ c.1.1.0 in
      record {
        fields = refl;
        accepted =
            record {
              board = c.0;
              pass = rw (head_pass p bs) s.0;
              dim = rw (head_dim p bs) s.1;
              numbers = not-false _ c.1.1.1.1.0;
              sender = rw (head_sender p bs) (leb-false P _ c.1.1.1.1.1.0);
            };
        shaped = shape p bs;
        count = rw (head_pass p bs, head_dim p bs) (eqb-true _ _ (not-false _ c.1.1.1.0));
      }

  -- what the reader's answer says
  pub read_known : (f : Frame) → read_frame L P bs ≡ found f → Read L P bs f
  unfolding read_frame checks
  read_known f e = let r = checks_known checks (fields_of p bs) f e in subst (Read L P bs) r.1 (known r.0)

  -- what the reader takes
  pub read_good_lem : Accepted L P (fields_of p bs) → length bs ≡ size P (fields_of p bs)
      → read_frame L P bs ≡ found (fields_of p bs)
  unfolding read_frame checks
  read_good_lem a h =
      let step = step_good _ _ _ (rw (head_pass p bs) at a.pass) (rw (head_dim p bs) at a.dim) in
      let count = rw (head_pass p bs, head_dim p bs) at h in
      let long : 4 ≤ length bs = omega (arith, size_low P (fields_of p bs)) in
      let sender = lt-leb P _ (rw (head_sender p bs) at a.sender) in
      let Size-ok = ap not (eq-eqb (length bs) _ count) in
      order_passes refused checks (found (fields_of p bs))
      (a.board, (le-ltb (length bs) 4 long, (step, (Size-ok, (ap not a.numbers, (sender, tt))))))

-- ---- the length of a written frame

module _ (L : Limits) (P : ℕ) (f : Frame) (room n : ℕ) (wrote : write_frame L P f room ≡ found n) where
  -- a frame of pass 1 has 4 + 8(p − k) + 8 bytes
  pub first_count : f.pass ≡ 1 → n ≡ 4 + 8 * (dimension P - f.dim) + 8
  first_count e = (write_known L P f room n wrote).count ∙ size_first P f e

  -- a frame of pass 2 has 12
  pub second_count : f.pass ≡ 2 → n ≡ 12
  second_count e = (write_known L P f room n wrote).count ∙ size_second P f e

  -- no frame is longer than one of pass 1 with every shell that there is room for
  pub longest : Small L → n ≤ 4 + 8 * width + 8
  longest small =
      let w = write_known L P f room n wrote in
      omega (arith, w.count, size_high P f (board_width L P small w.accepted.board))

-- rule F3: no frame is longer than 68 bytes
pub longest_base : (P : ℕ) (f : Frame) (room n : ℕ) → write_frame base P f room ≡ found n → n ≤ 68
longest_base P f room n wrote = longest base P f room n wrote small_base
