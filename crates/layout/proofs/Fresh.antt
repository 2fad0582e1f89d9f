-- The words of a fresh state hold it, and they may be put in the place of the words of another.
use mathlib.Core.Path.{◌≡◌, refl, sym, ap, ◌∙◌}
use mathlib.Core.Bool.{Bool, true, false}
use mathlib.Core.List.{List, [], ◌∷◌, ◌++◌}
use Prim.Native.Nat.{ℕ, ◌+◌, ◌-◌, ◌≤◌, ◌<◌}
use native.Mathlib.Omega.{arith}
use lib.Dec.{ltb}
use lib.ListN.{length, drop, length-append, length-drop, get_or-append}
use lib.Seq.{drop-append-add, drop-append_seam, get_or-append-add}
use borrow.Author.Tests.{ltb-true}
use Rattle.base.specs.Choice.{choose, list}
use Rattle.base.specs.Limits.{Limits, width}
use Rattle.base.proofs.Laws.{cases, length_list, list_same, list_one}
use Rattle.tree.specs.Tree.{dimension}
use Rattle.tree.specs.Lookups.{bad_board}
use Rattle.frame.specs.Frame.{sent_number, taken_number, has_shell}
use Rattle.frame.proofs.RoundTripChecks.{shell_known}
use Rattle.node.specs.Change.{fresh_in, no_first, no_second}
use Rattle.layout.specs.Places.{at_nodes, at_number, at_sent, at_taken, at_first, at_second, state_words, head_words}
use Rattle.layout.specs.Places.{sent_place, taken_place, issued_place, received_place, agreed_place, confirmed_place}
use Rattle.layout.specs.Places.{first_words, step_words}
use Rattle.layout.specs.Held.{word, dims_of, first_from, second_from, first_in, second_in, unpacked, is_whole, spare}
use Rattle.layout.proofs.Offsets.{first_above, first_inside}
use Rattle.layout.proofs.Whole.{whole, whole_made}
use Rattle.layout.proofs.Becomes.{Becomes}

-- the words of a fresh state, then others
abbrev pub freshly : ℕ → ℕ → ℕ → List ℕ → List ℕ
freshly P a ph rest =
    (P ∷ a ∷ ph ∷ 1 ∷ 1 ∷ 0 ∷ 1 ∷ 0 ∷ []) ++ (list 0 (state_words (dimension P) - head_words) (λ i. 0) ++ rest)

module _ (P a ph : ℕ) (rest : List ℕ) where
  abbrev p : ℕ
  p = dimension P

  abbrev ws : List ℕ
  ws = freshly P a ph rest

  abbrev head : List ℕ
  head = P ∷ a ∷ ph ∷ 1 ∷ 1 ∷ 0 ∷ 1 ∷ 0 ∷ []

  abbrev zeros : List ℕ
  zeros = list 0 (state_words p - head_words) (λ i. 0)

  zeros_long : head_words + length zeros ≡ state_words p
  zeros_long = omega (arith, first_above p p, length_list {A = ℕ} 0 (state_words p - head_words) (λ i. 0))

  pub fresh_length : length ws ≡ state_words p + length rest
  fresh_length = omega (arith, zeros_long, length-append zeros rest)

  pub fresh_rest : drop (state_words p) ws ≡ rest
  fresh_rest =
      ap (λ n. drop n ws) (sym zeros_long)
      ∙ drop-append-add head (zeros ++ rest) (length zeros)
      ∙ drop-append_seam zeros rest

  -- after the head there are only zeros
  blank : (i : ℕ) → head_words ≤ i → i < state_words p → word ws i ≡ 0
  blank i low high =
      let j : ℕ = i - head_words in
      let e : i ≡ head_words + j = omega arith in
      ap (word ws) e
      ∙ get_or-append-add head (zeros ++ rest) j 0
      ∙ get_or-append zeros rest 0 j (omega (arith, zeros_long))
      ∙ list_one 0 (state_words p - head_words) 0 j

  -- a number that is 0 where it is there
  none : (t : Bool) (x : ℕ) → (t ≡ true → x ≡ 0) → choose t x 0 ≡ 0
  none t x h = cases (λ y. y ≡ 0) t x 0 h (λ e. refl)

  tallies : {A : Type 0} (make : ℕ → A) (at : ℕ → ℕ)
      → ((m : ℕ) → m < p → (head_words ≤ at m) × (at m < state_words p))
      → list 0 width (λ m. make (choose (ltb m p) (word ws (at m)) 0)) ≡ list 0 width (λ m. make 0)
  tallies make at h =
      list_same 0 width _ _
      (λ m u v.
      ap make (none (ltb m p) (word ws (at m)) (λ t. let r = h m (ltb-true m p t) in blank (at m) r.0 r.1)))

  -- the stored frames
  module _ (k : ℕ) (h : k < p) where
    at : (i j : ℕ) → i < step_words p k → j ≡ at_first p k + i → word ws j ≡ 0
    at i j l e = blank j (omega (arith, first_above p k)) (omega (arith, first_inside p k h))

    shells : {A : Type 0} (make : ℕ → A) (f : ℕ → ℕ) → ((m : ℕ) → k ≤ m → m < p → word ws (f m) ≡ 0)
        → list 0 width (λ m. make (choose (has_shell p k m) (word ws (f m)) 0)) ≡ list 0 width (λ m. make 0)
    shells make f s =
        list_same 0 width _ _
        (λ m u v.
        ap make (none (has_shell p k m) (word ws (f m)) (λ t. let r = shell_known p k m t in s m r.0 r.1)))

    first_blank : first_from ws p k (at_first p k) ≡ no_first
    first_blank =
        let from = at_first p k in
        rw (
          at 0 from (omega arith) (omega arith),
          shells sent_number (sent_place from k)
              (λ m g l. at (sent_place 0 k m) (sent_place from k m) (omega arith) (omega arith)),
          shells taken_number (taken_place p from k)
              (λ m g l. at (taken_place p 0 k m) (taken_place p from k m) (omega arith) (omega arith)),
          at (issued_place p 0 k) (issued_place p from k) (omega arith) (omega arith),
          at (received_place p 0 k) (received_place p from k) (omega arith) (omega arith),
        )

    second_blank : second_from ws (at_second p k) ≡ no_second
    second_blank =
        let from = at_second p k in
        rw (
          at (first_words p k) from (omega arith) (omega arith),
          at (agreed_place (first_words p k)) (agreed_place from) (omega arith) (omega arith),
          at (confirmed_place (first_words p k)) (confirmed_place from) (omega arith) (omega arith),
        )

  first_none : (k : ℕ) → first_in ws p k ≡ no_first
  unfolding first_in
  first_none k =
      cases (λ x. x ≡ no_first) (ltb k p) _ _ (λ t. first_blank k (ltb-true k p t)) (λ t. refl)

  second_none : (k : ℕ) → second_in ws p k ≡ no_second
  unfolding second_in
  second_none k =
      cases (λ x. x ≡ no_second) (ltb k p) _ _ (λ t. second_blank k (ltb-true k p t)) (λ t. refl)

  pub fresh_held : unpacked ws ≡ fresh_in P a ph
  unfolding unpacked
  fresh_held =
      let above = first_above p p in
      rw (
        tallies sent_number at_sent (λ m l. (omega arith, omega arith)),
        tallies taken_number (at_taken p) (λ m l. (omega arith, omega arith)),
        list_same 0 width (first_in ws p) (λ k. no_first) (λ k u v. first_none k),
        list_same 0 width (second_in ws p) (λ k. no_second) (λ k u v. second_none k),
      )

  pub fresh_whole : (L : Limits) → bad_board L P ≡ false → ph < 256 → is_whole L ws ≡ true
  fresh_whole L good low =
      whole_made L ws
      (record {
        board = good;
        long = omega (arith, fresh_length);
        phase = low;
        busy = omega arith;
        flag = omega arith;
        first = λ k h. omega (arith, at k h 0 (at_first p k) (omega arith) (omega arith));
        second = λ k h. omega (arith, at k h (first_words p k) (at_second p k) (omega arith) (omega arith));
      })

-- a fresh state of the same node
pub put_fresh : (L : Limits) (ws : List ℕ) → is_whole L ws ≡ true → (ph : ℕ) → ph < 256
    → Becomes L ws (freshly (word ws at_nodes) (word ws at_number) ph (spare ws))
    (fresh_in (word ws at_nodes) (word ws at_number) ph)
put_fresh L ws e ph h =
    let w = whole L ws e in
    let P : ℕ = word ws at_nodes in
    let a : ℕ = word ws at_number in
    record {
      whole = fresh_whole P a ph (spare ws) L w.board h;
      node = fresh_held P a ph (spare ws);
      nodes = refl;
      spare = fresh_rest P a ph (spare ws);
      length = omega (arith, fresh_length P a ph (spare ws), w.long, length-drop (state_words (dims_of ws)) ws);
    }
