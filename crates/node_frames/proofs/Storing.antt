-- The words after a frame is stored hold the state that the call gives.
use mathlib.Core.Path.{◌≡◌, refl, sym, ap, ◌∙◌, subst}
use mathlib.Core.Logic.{◌⊎◌, inl, inr}
use mathlib.Core.Bool.{Bool, true, false}
use mathlib.Core.List.{List, ◌∷◌}
use Prim.Native.Nat.{ℕ, suc, ◌+◌, ◌-◌, ◌/◌, ◌≤◌, ◌<◌}
use native.Mathlib.Omega.{arith}
use lib.Dec.{ltb, eqb}
use lib.ListN.{length, get_or}
use borrow.Author.Tests.{eq-eqb, ne_eqb}
use Rattle.base.specs.Choice.{choose, list}
use Rattle.base.specs.Limits.{Limits, Fits, width}
use Rattle.base.proofs.Laws.{cases, length_list, list_at, list_same}
use Rattle.frame.specs.Frame.{bad_step, frame_length, number_at, has_shell, shell_at}
use Rattle.frame.specs.Frame.{sent_number, taken_number, first_fields, fields_of}
use Rattle.frame.specs.declared.Frame.{Frame}
use Rattle.frame.proofs.Shells.{shell_there, shell_gone}
use Rattle.frame.proofs.Writing.{first_length_lem, second_length}
use Rattle.frame.proofs.RoundTripChecks.{step_known, step_good, shell_known}
use Rattle.frame.proofs.RoundTripAccepted.{Read, head_pass, head_dim}
use Rattle.wire_read.proofs.Within.{fields_first, fields_second}
use Rattle.node.specs.Change.{at}
use Rattle.node.specs.Calls.{step_number, first_of, stored, gotten}
use Rattle.node.specs.declared.Node.{Node}
use Rattle.layout.specs.Places.{at_nodes, at_pass, at_dim, at_agreed, sent_place, taken_place, issued_place, received_place}
use Rattle.layout.specs.Places.{second_words, mark_words, sum_issued, sum_received, sum_words}
use Rattle.layout.specs.Held.{word, dims_of, first_from, unpacked, is_whole}
use Rattle.layout.proofs.Whole.{few}
use Rattle.layout.proofs.Becomes.{Becomes, becomes_then}
use Rattle.layout.proofs.Writes.{put_position}
use Rattle.layout.proofs.Stores.{put_first, put_second}
use Rattle.node_frames.specs.Pieces.{kept_words, back_words, stored_words}

-- ---- the words of a frame are those of what is stored

module _ (p : ℕ) (bs : List ℕ) (h : get_or bs 2 0 < p) where
  abbrev k : ℕ
  k = get_or bs 2 0

  abbrev count : ℕ
  count = sum_words (p - k)

  abbrev put : List ℕ
  put = 1 ∷ list 0 count (number_at bs)

  -- a number after the mark
  after : (i j : ℕ) → j ≡ suc i → i < count → word put j ≡ number_at bs i
  after i j e l = rw e (list_at count (number_at bs) i 0 l)

  shell : (start m j : ℕ) → start ≤ p - k → j ≡ suc (start + (m - k))
      → choose (has_shell p k m) (word put j) 0 ≡ shell_at p k bs start m
  shell start m j a e =
      cases (λ x. x ≡ shell_at p k bs start m) (has_shell p k m) _ _
      (λ q.
      let r = shell_known p k m q in
      after (start + (m - k)) j e (omega arith) ∙ sym (shell_there p k bs start m r.0 r.1))
      (λ q. sym (shell_gone p k bs start m q))

  first_put_lem : first_from put p k 0 ≡ first_of (first_fields p bs)
  first_put_lem =
      rw (
        list_same 0 width _ (λ m. sent_number (shell_at p k bs 0 m))
            (λ m a b. ap sent_number (shell 0 m (sent_place 0 k m) (omega arith) (omega arith))),
        list_same 0 width _ (λ m. taken_number (shell_at p k bs (p - k) m))
            (λ m a b. ap taken_number (shell (p - k) m (taken_place p 0 k m) (omega arith) (omega arith))),
        after (sum_issued (p - k)) (issued_place p 0 k) (omega arith) (omega arith),
        after (sum_received (p - k)) (received_place p 0 k) (omega arith) (omega arith),
      )

-- ---- the frame in its place, and the position put back

module _ (L : Limits) (ws bs : List ℕ) (e : is_whole L ws ≡ true) (narrow : dims_of ws ≤ width)
    (s : bad_step (dims_of ws) (get_or bs 0 0) (get_or bs 2 0) ≡ false)
    (l : length bs ≡ frame_length (dims_of ws) (get_or bs 0 0) (get_or bs 2 0)) where
  abbrev p : ℕ
  p = dims_of ws

  abbrev pass : ℕ
  pass = get_or bs 0 0

  abbrev dim : ℕ
  dim = get_or bs 2 0

  abbrev got : Frame
  got = fields_of p bs

  kept : Becomes L ws (kept_words p ws bs) (stored (unpacked ws) got)
  unfolding kept_words
  kept = let q = step_known p pass dim s in go q.0 q.1
    where
      go : (pass ≡ 1) ⊎ (pass ≡ 2) → dim < p → Becomes L ws (kept_words p ws bs) (stored (unpacked ws) got)
      go (inl one) h =
          let n : (length bs - 4) / 4 ≡ sum_words (p - dim) = omega (arith, first_length_lem p pass dim one) in
          rw (head_pass p bs, head_dim p bs, eq-eqb pass 1 one, n, fields_first p bs one, sym (first_put_lem p bs h))
          (put_first L ws e dim h (omega arith) (list 0 (sum_words (p - dim)) (number_at bs))
          (omega (arith, length_list 0 (sum_words (p - dim)) (number_at bs))))
      go (inr two) h =
          let n : (length bs - 4) / 4 ≡ second_words - mark_words = omega (arith, second_length p pass dim (λ z. omega arith)) in
          rw (head_pass p bs, head_dim p bs, ne_eqb pass 1 (λ z. omega arith), n, fields_second p bs (λ z. omega arith))
          (put_second L ws e dim h (omega arith) (number_at bs 0) (number_at bs 1))

  total : (l : List ℕ) → word l at_agreed ≡ (unpacked l).agreed
  unfolding unpacked
  total l = refl

  -- T is not changed by a stored frame
  agreed_kept : (stored (unpacked ws) got).agreed ≡ (unpacked ws).agreed
  agreed_kept =
      cases (λ (n : Node). n.agreed ≡ (unpacked ws).agreed) (eqb got.pass 1) _ _ (λ z. refl) (λ z. refl)

  back : Becomes L ws (back_words (kept_words p ws bs) pass dim)
      (at (stored (unpacked ws) got) pass dim false (choose (eqb pass 1) 0 (unpacked ws).agreed))
  unfolding back_words
  back =
      let ks = kept_words p ws bs in
      let z : word ks at_agreed ≡ (unpacked ws).agreed = total ks ∙ ap (λ (n : Node). n.agreed) kept.node ∙ agreed_kept in
      subst (Becomes L ws (back_words ks pass dim))
      (ap (λ (n : Node). at n pass dim false (choose (eqb pass 1) 0 (word ks at_agreed))) kept.node
      ∙ ap (λ t. at (stored (unpacked ws) got) pass dim false (choose (eqb pass 1) 0 t)) z)
      (becomes_then L kept (put_position L ks kept.whole pass dim false (choose (eqb pass 1) 0 (word ks at_agreed))))

  -- the frame's step is earlier than the position
  abbrev earlier : Bool
  earlier = ltb (step_number p pass dim) (step_number p (word ws at_pass) (word ws at_dim))

  gotten_is : gotten (unpacked ws) got
      ≡ choose earlier (at (stored (unpacked ws) got) pass dim false (choose (eqb pass 1) 0 (unpacked ws).agreed))
      (stored (unpacked ws) got)
  unfolding gotten unpacked
  gotten_is = rw (head_pass p bs, head_dim p bs)

  stored_words_lem : Becomes L ws (stored_words p ws bs) (gotten (unpacked ws) got)
  unfolding stored_words
  stored_words_lem = subst (Becomes L ws (stored_words p ws bs)) (sym gotten_is) (go earlier back kept)
    where
      go : (t : Bool) {a b : List ℕ} {m n : Node} → Becomes L ws a m → Becomes L ws b n
          → Becomes L ws (choose t a b) (choose t m n)
      go true x y = x
      go false x y = y

-- ---- bytes that are read as a frame of the board

module _ (L : Limits) (ws bs : List ℕ) (r : Read L (word ws at_nodes) bs (fields_of (dims_of ws) bs)) where
  pub read_dim : get_or bs 2 0 < dims_of ws
  read_dim = rw (head_dim (dims_of ws) bs) at r.accepted.dim

  pub read_pass : (get_or bs 0 0 ≡ 1) ⊎ (get_or bs 0 0 ≡ 2)
  read_pass = rw (head_pass (dims_of ws) bs) at r.accepted.pass

  pub read_count : length bs ≡ frame_length (dims_of ws) (get_or bs 0 0) (get_or bs 2 0)
  read_count = rw (head_pass (dims_of ws) bs, head_dim (dims_of ws) bs) at r.count

  pub put_read : Fits L → is_whole L ws ≡ true
      → Becomes L ws (stored_words (dims_of ws) ws bs) (gotten (unpacked ws) (fields_of (dims_of ws) bs))
  put_read fit e =
      stored_words_lem L ws bs e (few L fit ws r.accepted.board)
      (step_good (dims_of ws) (get_or bs 0 0) (get_or bs 2 0) read_pass read_dim) read_count
