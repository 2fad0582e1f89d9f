-- Words that pass the test are those of the state that they hold, and the words of a fresh state.
use mathlib.Core.Path.{◌≡◌, refl, ap, ◌∙◌}
use mathlib.Core.Bool.{true}
use mathlib.Core.List.{List, [], ◌∷◌, ◌++◌}
use Prim.Native.Nat.{ℕ, zero, suc, ◌+◌, ◌-◌, ◌≤◌, ◌<◌}
use native.Mathlib.Omega.{arith}
use lib.Dec.{ltb, eqb}
use lib.ListN.{length, take, take-append-drop}
use lib.Seq.{slice}
use borrow.Author.Tests.{lt-ltb}
use Rattle.base.specs.Choice.{choose, list}
use Rattle.base.specs.Limits.{Limits, Fits, width}
use Rattle.base.proofs.Laws.{choose_yes}
use Rattle.tree.specs.Tree.{dimension}
use Rattle.frame.specs.Frame.{sent_at, taken_at}
use Rattle.node.specs.Sums.{first_at, second_at}
use Rattle.node.specs.Change.{fresh_in}
use Rattle.node.specs.declared.Stored.{Stored}
use Rattle.layout.specs.Places.{at_nodes, at_number, at_phase, at_pass, at_dim, at_agreed, mark_words}
use Rattle.layout.specs.Places.{at_busy, at_flag, at_first, at_second, state_words, first_words, head_words, second_words}
use Rattle.layout.specs.Places.{received_place, agreed_place, confirmed_place}
use Rattle.layout.specs.Held.{word, bit, dims_of, first_from, second_from, unpacked, is_whole, head_of}
use Rattle.layout.specs.Held.{first_list, second_list, joined_list, packed, spare, holding}
use Rattle.layout.proofs.Offsets.{first_none, first_more, first_above, first_up, first_inside}
use Rattle.layout.proofs.Whole.{Whole, whole, few}
use Rattle.layout.proofs.Reading.{sent_word, taken_word, first_word, second_word, first_in_lem, second_in_lem}
use Rattle.layout.proofs.Reading.{number_sent, number_taken}
use Rattle.layout.proofs.Slices.{joins, listed, one, rows}

bit_write : (x : ℕ) → x < 2 → bit (eqb x 1) ≡ x
bit_write zero h = refl
bit_write (suc zero) h = refl
bit_write (suc (suc x)) h = absurd (omega arith)

-- ---- The stored frames

-- the numbers of the shells k to p - 1, which stand from a on
shells : (ws : List ℕ) (p k a : ℕ) (f : ℕ → ℕ) → k ≤ p → a + (p - k) ≤ length ws
    → ((i : ℕ) → k ≤ i → i < p → f i ≡ word ws (a + (i - k))) → list k (p - k) f ≡ slice a (a + (p - k)) ws
shells ws p k a f h long e =
    listed ws a (a + (p - k)) k (p - k) f refl long
    (λ i j l m q. let z : a + (i - k) ≡ j = omega arith in rw z at (e i l (omega arith)))

-- a frame of pass 1 whose words begin at a place
first_kept : (ws : List ℕ) (p k at end : ℕ) → k ≤ p → p ≤ width → at + first_words p k ≡ end → end ≤ length ws
    → word ws at < 2 → first_list p k (first_from ws p k at) ≡ slice at end ws
unfolding first_list
first_kept ws p k at end h few n long mark =
    let x : Stored = first_from ws p k at in
    let a : ℕ = at + mark_words in
    let s : ℕ = a + (p - k) in
    let t : ℕ = s + (p - k) in
    let r : ℕ = received_place p at k in
    let marks = one ws at a (bit x.present) refl (omega arith) (bit_write (word ws at) mark) in
    let sents = shells ws p k a (sent_at x.sent) h (omega arith)
    (λ i l m. number_sent ws p k at i l m (omega arith)) in
    let takens = shells ws p k s (taken_at x.taken) h (omega arith)
    (λ i l m. number_taken ws p k at i l m (omega arith)) in
    let issued = one ws t r x.issued.0 (omega arith) (omega arith) (ap (word ws) (omega arith)) in
    let received = one ws r end x.received.0 (omega arith) long refl in
    joins ws at a end (omega arith) (omega arith) marks
    (joins ws a s end (omega arith) (omega arith) sents
    (joins ws s t end (omega arith) (omega arith) takens
    (joins ws t r end (omega arith) (omega arith) issued received)))

second_kept : (ws : List ℕ) (at end : ℕ) → at + second_words ≡ end → end ≤ length ws → word ws at < 2
    → second_list (second_from ws at) ≡ slice at end ws
unfolding second_list
second_kept ws at end n long mark =
    let a : ℕ = agreed_place at in
    let c : ℕ = confirmed_place at in
    joins ws at a end (omega arith) (omega arith)
    (one ws at a (bit (eqb (word ws at) 1)) refl (omega arith) (bit_write (word ws at) mark))
    (joins ws a c end (omega arith) (omega arith)
    (one ws a c (word ws a) (omega arith) (omega arith) refl) (one ws c end (word ws c) (omega arith) long refl))

-- ---- The state

module _ (ws : List ℕ) (L : Limits) (w : Whole L ws) (low : dims_of ws ≤ width) where
  abbrev p : ℕ
  p = dims_of ws

  -- the words of dimension k
  row_kept : (k : ℕ) → k < p
      → first_list p k (first_at (unpacked ws) k) ++ second_list (second_at (unpacked ws) k)
      ≡ slice (at_first p k) (at_first p (suc k)) ws
  row_kept k h =
      let more = first_more p k in
      let inside = first_inside p k h in
      let long = w.long in
      let x = first_word ws k (omega arith) ∙ first_in_lem ws p k h in
      let y = second_word ws k (omega arith) ∙ second_in_lem ws p k h in
      joins ws (at_first p k) (at_second p k) (at_first p (suc k)) (omega arith) (omega arith)
      (ap (first_list p k) x
      ∙ first_kept ws p k (at_first p k) (at_second p k) (omega arith) low refl (omega arith) (w.first k h))
      (ap second_list y
      ∙ second_kept ws (at_second p k) (at_first p (suc k)) (omega arith) (omega arith) (w.second k h))

  rows_kept : joined_list 0 p (λ k. first_list p k (first_at (unpacked ws) k) ++ second_list (second_at (unpacked ws) k))
      ≡ slice (head_words + p + p) (state_words p) ws
  rows_kept =
      let from : head_words + p + p ≡ at_first p 0 = omega (arith, first_none p) in
      let to : 0 + p ≡ p = omega arith in
      rw from
      (rw to at
      (rows ws (at_first p) (λ k. first_list p k (first_at (unpacked ws) k) ++ second_list (second_at (unpacked ws) k)) 0 p
      (first_up p) (λ k h. row_kept k (omega arith))))

  head_kept : head_of (unpacked ws) ≡ slice 0 head_words ws
  unfolding unpacked
  head_kept =
      let long = w.long in
      let b = bit_write (word ws at_busy) w.busy in
      let f = bit_write (word ws at_flag) w.flag in
      (λ i. word ws at_nodes ∷ word ws at_number ∷ word ws at_phase ∷ b i ∷ word ws at_pass ∷ word ws at_dim ∷ f i ∷ word ws at_agreed ∷ [])
      ∙ listed ws 0 head_words 0 head_words (word ws) refl (omega (arith, first_above p p))
      (λ i j l m q. ap (word ws) (omega arith))

  -- the tallies, those sent or those taken
  tallies_kept : (a : ℕ) (f : ℕ → ℕ) → a + p ≤ state_words p
      → ((i : ℕ) → i < width → f i ≡ choose (ltb i p) (word ws (a + i)) 0) → list 0 p f ≡ slice a (a + p) ws
  tallies_kept a f h e =
      let long = w.long in
      listed ws a (a + p) 0 p f refl (omega arith)
      (λ i j l m q. e i (omega arith) ∙ choose_yes _ 0 (lt-ltb i p (omega arith)) ∙ ap (word ws) (omega arith))

  state_kept : packed (unpacked ws) ≡ take (state_words p) ws
  unfolding packed unpacked
  state_kept =
      let above = first_above p p in
      joins ws 0 head_words (state_words p) (omega arith) (omega arith) head_kept
      (joins ws head_words (head_words + p) (state_words p) (omega arith) (omega arith)
      (tallies_kept head_words _ (omega arith) (sent_word ws))
      (joins ws (head_words + p) (head_words + p + p) (state_words p) (omega arith) (omega arith)
      (tallies_kept (head_words + p) _ (omega arith) (taken_word ws)) rows_kept))

pub repacked : (L : Limits) → Fits L → (ws : List ℕ) → is_whole L ws ≡ true → holding ws (unpacked ws) ≡ ws
repacked L fit ws e =
    let w = whole L ws e in
    ap (λ l. l ++ spare ws) (state_kept ws L w (few L fit ws w.board)) ∙ take-append-drop (state_words (dims_of ws)) ws

-- ---- A fresh state

-- on a board of p dimensions
fresh_words_lem : (P a ph p : ℕ) → p ≤ width
    → head_of (fresh_in P a ph)
    ++ (list 0 p (sent_at (fresh_in P a ph).sent)
    ++ (list 0 p (taken_at (fresh_in P a ph).taken)
    ++ joined_list 0 p (λ k. first_list p k (first_at (fresh_in P a ph) k) ++ second_list (second_at (fresh_in P a ph) k))))
    ≡ (P ∷ a ∷ ph ∷ 1 ∷ 1 ∷ 0 ∷ 1 ∷ 0 ∷ []) ++ list 0 (state_words p - head_words) (λ i. 0)
unfolding joined_list first_list second_list at_first
fresh_words_lem P a ph zero h = refl
fresh_words_lem P a ph (suc zero) h = refl
fresh_words_lem P a ph (suc (suc zero)) h = refl
fresh_words_lem P a ph (suc (suc (suc zero))) h = refl
fresh_words_lem P a ph (suc (suc (suc (suc zero)))) h = refl
fresh_words_lem P a ph (suc (suc (suc (suc (suc zero))))) h = refl
fresh_words_lem P a ph (suc (suc (suc (suc (suc (suc zero)))))) h = refl
fresh_words_lem P a ph (suc (suc (suc (suc (suc (suc (suc zero))))))) h = refl
fresh_words_lem P a ph (suc (suc (suc (suc (suc (suc (suc (suc zero)))))))) h = refl
fresh_words_lem P a ph (suc (suc (suc (suc (suc (suc (suc (suc (suc p))))))))) h = absurd (omega arith)

pub fresh_packed : (P a ph : ℕ) → dimension P ≤ width
    → packed (fresh_in P a ph)
    ≡ (P ∷ a ∷ ph ∷ 1 ∷ 1 ∷ 0 ∷ 1 ∷ 0 ∷ []) ++ list 0 (state_words (dimension P) - head_words) (λ i. 0)
unfolding packed
fresh_packed P a ph h = fresh_words_lem P a ph (dimension P) h
