-- The bytes put together from words are those of the frame that the words hold, and what the writer answers and leaves.
use mathlib.Core.Path.{◌≡◌, refl, sym, ap, ◌∙◌}
use mathlib.Core.Logic.{◌⊎◌, inl, inr}
use mathlib.Core.Bool.{Bool, true, false}
use mathlib.Core.List.{List, [], ◌∷◌, ◌++◌, append_assoc}
use Prim.Native.Nat.{ℕ, ◌+◌, ◌-◌, ◌*◌, ◌≤◌, ◌<◌}
use native.Mathlib.Omega.{arith}
use lib.Dec.{ltb, leb}
use lib.ListN.{length, get_or, length-append}
use borrow.Author.Tests.{leb-false, lt-ltb, le-ltb}
use Rattle.base.specs.Choice.{choose, list}
use Rattle.base.specs.Limits.{Limits, Fits, base, width}
use Rattle.base.specs.Refusal.{Answered, Check, refused, found, when, in_order}
use Rattle.base.specs.declared.Refusal.{Refusal}
use Rattle.base.proofs.Laws.{choose_yes, choose_no, Passes, order_stops, stops_before, checks_stop, checks_known}
use Rattle.tree.specs.Tree.{dimension}
use Rattle.tree.specs.Lookups.{bad_board}
use Rattle.tree.proofs.Lookups.{board_good}
use Rattle.frame.specs.Numbers.{bytes_of}
use Rattle.frame.specs.Frame.{sent_at, taken_at, frame_length, numbers_of, frame_bytes, bad_step, write_frame, over}
use Rattle.frame.specs.Parts.{pasted}
use Rattle.frame.specs.declared.Frame.{Frame}
use Rattle.frame.proofs.Writing.{first_row, second_row, length_frame}
use Rattle.frame.proofs.RoundTripChecks.{step_known}
use Rattle.wire.specs.Wire.{part, put_at, put_numbers}
use Rattle.wire.proofs.Putting.{length_pieces, whole_put, one_put, next_put, length_part, part_is}
use Rattle.wire_read.proofs.Within.{few}
use Rattle.field_words.specs.Words.{at_pass, at_phase, at_dim, at_sender, at_issued, at_received, at_agreed, at_sent, at_taken}
use Rattle.field_words.specs.Words.{fields_end, frame_from}
use Rattle.fields.specs.Fields.{write_on, written_on}
use Rattle.fields.specs.Pieces.{between, head_with, first_numbers, second_numbers, bytes_with, put_answer}
use Rattle.field_words.proofs.Numbers.{sent_held_lem, taken_held_lem}
use Rattle.field_tests.specs.Tests.{tests, tested_on}

-- ---- the bytes

module _ (p : ℕ) (ws : List ℕ) (count : length ws ≡ fields_end) where
  abbrev k : ℕ
  k = get_or ws at_dim 0

  abbrev f : Frame
  f = frame_from ws

  -- words from a place on
  words : (at n : ℕ) → at + n ≤ fields_end → part ws at n ≡ list at n (λ i. get_or ws i 0)
  words at n h = part_is ws at n at (λ i. get_or ws i 0) (omega (arith, count)) (λ i b. refl)

  -- the tallies of shells k to p − 1
  module _ (few : p ≤ width) (below : k ≤ p) where
    sents : between ws (at_sent k) (at_sent p) ≡ list k (p - k) (sent_at f.sent)
    sents =
        let n : at_sent p - at_sent k ≡ p - k = omega arith in
        rw n
        (part_is ws (at_sent k) (p - k) k (sent_at f.sent) (omega (arith, count))
        (λ i b.
        let z : at_sent k + i ≡ at_sent (k + i) = omega arith in
        ap (λ j. get_or ws j 0) z ∙ sym (sent_held_lem ws (k + i) (omega arith))))

    takens : between ws (at_taken k) (at_taken p) ≡ list k (p - k) (taken_at f.taken)
    takens =
        let n : at_taken p - at_taken k ≡ p - k = omega arith in
        rw n
        (part_is ws (at_taken k) (p - k) k (taken_at f.taken) (omega (arith, count))
        (λ i b.
        let z : at_taken k + i ≡ at_taken (k + i) = omega arith in
        ap (λ j. get_or ws j 0) z ∙ sym (taken_held_lem ws (k + i) (omega arith))))

    pub first_held_lem : get_or ws at_pass 0 ≡ 1 → bytes_with 1 ws (first_numbers p ws) ≡ frame_bytes p f
    unfolding frame_from frame_bytes
    first_held_lem one =
        let row : first_numbers p ws ≡ numbers_of p f =
        append_assoc (between ws (at_sent k) (at_sent p)) (between ws (at_taken k) (at_taken p)) (between ws at_issued at_agreed)
        ∙ (λ i. sents i ++ (takens i ++ words at_issued 2 (omega arith) i))
        ∙ sym (first_row p f one) in
        (λ i. sym one i ∷ get_or ws at_phase 0 ∷ k ∷ get_or ws at_sender 0 ∷ bytes_of (row i))

  pub second_held_lem : get_or ws at_pass 0 ≡ 2 → bytes_with 2 ws (second_numbers ws) ≡ frame_bytes p f
  unfolding frame_from frame_bytes
  second_held_lem two =
      let row : second_numbers ws ≡ numbers_of p f =
      (λ i. words at_agreed 1 (omega arith) i ++ words at_issued 1 (omega arith) i)
      ∙ sym (second_row p f (λ q. omega arith)) in
      (λ i. sym two i ∷ get_or ws at_phase 0 ∷ k ∷ get_or ws at_sender 0 ∷ bytes_of (row i))

-- ---- the bytes put

-- what is answered and left where these bytes are put into a buffer
abbrev pub Put : List ℕ → List ℕ → Answered ℕ → List ℕ → Type 0
Put bytes buf a after = (a ≡ put_answer bytes (length buf)) × (after ≡ over bytes buf (put_answer bytes (length buf)))

module _ (ws buf : List ℕ) (pass : ℕ) (xs : List ℕ) where
  abbrev head : List ℕ
  head = head_with pass ws

  abbrev frame : List ℕ
  frame = bytes_with pass ws xs

  -- where there is no room
  put_no : length buf < 4 + 4 * length xs → Put frame buf (refused 14) buf
  put_no h =
      let b = length_pieces buf head refl xs in
      let t = lt-ltb (length buf) (length frame) (omega arith) in
      let e : put_answer frame (length buf) ≡ refused 14 = choose_yes _ _ t in
      (sym e, sym (ap (over frame buf) e))

  -- and where there is
  put_yes : (n : ℕ) (l : List ℕ) → n ≡ 4 + 4 * length xs → n ≤ length buf → l ≡ pasted buf 0 frame
      → Put frame buf (found n) l
  put_yes n l e h f =
      let b = length_pieces buf head refl xs in
      let t = le-ltb (length buf) (length frame) (omega arith) in
      let m : n ≡ length frame = omega arith in
      let a : put_answer frame (length buf) ≡ found (length frame) = choose_no _ _ t in
      (ap found m ∙ sym a, f ∙ whole_put buf head refl xs ∙ sym (ap (over frame buf) a))

module _ (ws buf : List ℕ) (count : length ws ≡ fields_end) where
  -- how many numbers there are
  length_between : (from end : ℕ) → from ≤ end → end ≤ fields_end → length (between ws from end) ≡ end - from
  length_between from end h l = length_part ws from (end - from) (omega (arith, count))

  -- a frame of pass 1: the head, the tallies sent, the tallies taken, both totals
  module _ (p : ℕ) (below : get_or ws at_dim 0 ≤ p) (few : p ≤ width) where
    abbrev shell : ℕ
    shell = get_or ws at_dim 0

    abbrev xs : List ℕ
    xs = between ws (at_sent shell) (at_sent p)

    abbrev ys : List ℕ
    ys = between ws (at_taken shell) (at_taken p)

    abbrev zs : List ℕ
    zs = between ws at_issued at_agreed

    lengths : (length xs ≡ p - shell) × (length ys ≡ p - shell) × (length zs ≡ 2)
    lengths = (
      length_between (at_sent shell) (at_sent p) (omega arith) (omega arith) ∙ (omega arith),
      length_between (at_taken shell) (at_taken p) (omega arith) (omega arith) ∙ (omega arith),
      length_between at_issued at_agreed (omega arith) (omega arith),
    )

    length_first : length (first_numbers p ws) ≡ 2 * (p - shell) + 2
    length_first = omega (arith, length-append (xs ++ ys) zs, length-append xs ys, lengths)

    pub first_no : length buf < 12 + 2 * (4 * (p - shell)) → Put (bytes_with 1 ws (first_numbers p ws)) buf (refused 14) buf
    first_no h = put_no ws buf 1 (first_numbers p ws) (omega (arith, length_first))

    pub first_yes : (a b c d : List ℕ) → 12 + 2 * (4 * (p - shell)) ≤ length buf → a ≡ put_at buf 0 (head_with 1 ws)
        → b ≡ put_numbers a 4 xs → c ≡ put_numbers b (4 + 4 * (p - shell)) ys → d ≡ put_numbers c (4 + 2 * (4 * (p - shell))) zs
        → Put (bytes_with 1 ws (first_numbers p ws)) buf (found (12 + 2 * (4 * (p - shell)))) d
    first_yes a b c d h ea eb ec ed =
        let n = length-append xs ys in
        let first = eb ∙ ap (λ l. put_numbers l 4 xs) ea ∙ one_put buf (head_with 1 ws) refl xs (omega (arith, lengths)) in
        let second =
        ec ∙ next_put buf (head_with 1 ws) refl b xs ys _ first (omega (arith, lengths)) (omega (arith, lengths)) in
        put_yes ws buf 1 (first_numbers p ws) _ d (omega (arith, length_first)) h
        (ed
        ∙ next_put buf (head_with 1 ws) refl c (xs ++ ys) zs _ second (omega (arith, lengths, n)) (omega (arith, lengths, n)))

  -- a frame of pass 2: the head, T, total sent
  abbrev us : List ℕ
  us = between ws at_agreed (at_sent 0)

  abbrev vs : List ℕ
  vs = between ws at_issued at_received

  ones : (length us ≡ 1) × (length vs ≡ 1)
  ones = (
    length_between at_agreed (at_sent 0) (omega arith) (omega arith),
    length_between at_issued at_received (omega arith) (omega arith),
  )

  length_second : length (second_numbers ws) ≡ 2
  length_second = omega (arith, length-append us vs, ones)

  pub second_no : length buf < 12 → Put (bytes_with 2 ws (second_numbers ws)) buf (refused 14) buf
  second_no h = put_no ws buf 2 (second_numbers ws) (omega (arith, length_second))

  pub second_yes : (a b c : List ℕ) → 12 ≤ length buf → a ≡ put_at buf 0 (head_with 2 ws) → b ≡ put_numbers a 4 us
      → c ≡ put_numbers b 8 vs → Put (bytes_with 2 ws (second_numbers ws)) buf (found 12) c
  second_yes a b c h ea eb ec =
      let first = eb ∙ ap (λ l. put_numbers l 4 us) ea ∙ one_put buf (head_with 2 ws) refl us (omega (arith, ones)) in
      put_yes ws buf 2 (second_numbers ws) 12 c (omega (arith, length_second)) h
      (ec ∙ next_put buf (head_with 2 ws) refl b us vs _ first (omega (arith, ones)) (omega (arith, ones)))

-- ---- the answers

-- what a call answers, and the bytes after it
abbrev pub Wrote : Limits → ℕ → List ℕ → List ℕ → Answered ℕ → List ℕ → Type 0
Wrote L P ws buf a after = (a ≡ write_on L P ws (length buf)) × (after ≡ written_on L P ws buf)

-- a test made twice
twice : {A : Type 0} (s t : Bool) (a b c : A) → choose s a (choose t b (choose s a c)) ≡ choose s a (choose t b c)
twice true t a b c = refl
twice false t a b c = refl

module _ (L : Limits) (P : ℕ) (ws buf : List ℕ) where
  abbrev room : ℕ
  room = length buf

  abbrev size : ℕ
  size = frame_length (dimension P) (get_or ws at_pass 0) (get_or ws at_dim 0)

  abbrev last : List Check
  last = when (ltb room size) Refusal.Buffer ∷ []

  -- the tests made before anything is put, and last the test of the room
  asks : write_on L P ws room ≡ in_order refused (tests L P ws ++ last) (found size)
  unfolding write_frame frame_from
  asks = twice (bad_board L P) (leb 256 (get_or ws at_phase 0)) _ _ _

  -- a refused call leaves the bytes
  pub wrote_refused : (x : ℕ) → tested_on L P ws ≡ refused x → Wrote L P ws buf (refused x) buf
  wrote_refused x t =
      let e = asks ∙ order_stops refused (found size) (stops_before last (checks_stop (tests L P ws) (dimension P) x t)) in
      (sym e, sym (ap (over (frame_bytes (dimension P) (frame_from ws)) buf) e))

  module _ (p : ℕ) (t : tested_on L P ws ≡ found p) where
    good : Passes (tests L P ws) × (dimension P ≡ p)
    good = checks_known (tests L P ws) (dimension P) p t

    step : bad_step p (get_or ws at_pass 0) (get_or ws at_dim 0) ≡ false
    step = rw (sym good.1) good.0.1.1.0

    -- the numbers are those that the bytes have room for
    pub tested_low : Fits L → (get_or ws at_dim 0 < p) × (p ≤ width) × (get_or ws at_phase 0 < 256) × (get_or ws at_sender 0 < base.nodes)
    tested_low fit =
        let b = good.0.0 in (
          (step_known p (get_or ws at_pass 0) (get_or ws at_dim 0) step).1,
          few L fit P p b (sym good.1),
          leb-false _ _ good.0.1.0,
          omega (arith, leb-false P (get_or ws at_sender 0) good.0.1.1.1.1.0, (board_good L P b).1, fit.nodes),
        )

    -- the frame is put where there is room for it
    answers : put_answer (frame_bytes p (frame_from ws)) room ≡ write_on L P ws room
    unfolding frame_from
    answers =
        let n : length (frame_bytes p (frame_from ws)) ≡ size =
        length_frame p (frame_from ws) ∙ ap (λ d. frame_length d (get_or ws at_pass 0) (get_or ws at_dim 0)) (sym good.1) in
        let g = good.0 in
        let e : in_order refused (tests L P ws ++ last) (found size) ≡ in_order refused last (found size) =
        rw (g.0, g.1.0, g.1.1.0, g.1.1.1.0, g.1.1.1.1.0) in
        ap (λ m. choose (ltb room m) (refused 14) (found m)) n ∙ sym (asks ∙ e)

    module _ (count : length ws ≡ fields_end) (fit : Fits L) (a : Answered ℕ) (after : List ℕ) where
      put : (bytes : List ℕ) → bytes ≡ frame_bytes p (frame_from ws) → Put bytes buf a after → Wrote L P ws buf a after
      put bytes e q =
          let r : put_answer bytes room ≡ write_on L P ws room = ap (λ l. put_answer l room) e ∙ answers in
          let w : bytes ≡ frame_bytes (dimension P) (frame_from ws) = e ∙ ap (λ d. frame_bytes d (frame_from ws)) (sym good.1) in
          (q.0 ∙ r, q.1 ∙ (λ i. over (w i) buf (r i)))

      pub wrote_first : get_or ws at_pass 0 ≡ 1 → Put (bytes_with 1 ws (first_numbers p ws)) buf a after → Wrote L P ws buf a after
      wrote_first one =
          let l = tested_low fit in put _ (first_held_lem p ws count l.1 (omega (arith, l.0)) one)

      pub wrote_second : (get_or ws at_pass 0 ≡ 1 → ⊥) → Put (bytes_with 2 ws (second_numbers ws)) buf a after → Wrote L P ws buf a after
      wrote_second not-one = put _ (second_held_lem p ws count (go (step_known p (get_or ws at_pass 0) (get_or ws at_dim 0) step).0))
        where
          go : (get_or ws at_pass 0 ≡ 1) ⊎ (get_or ws at_pass 0 ≡ 2) → get_or ws at_pass 0 ≡ 2
          go (inl one) = absurd (not-one one)
          go (inr two) = two
