-- The parts of the state that words hold, by the words that they are made of: where these are equal the parts are, and
-- where those of one shell or dimension change, one value of the list is set.
use mathlib.Core.Path.{◌≡◌, refl, sym, ap, ◌∙◌}
use mathlib.Core.Bool.{Bool, true, false}
use mathlib.Core.List.{List}
use Prim.Native.Nat.{ℕ, ◌+◌, ◌≤◌, ◌<◌}
use native.Mathlib.Nat.{zero-add}
use native.Mathlib.Omega.{arith}
use lib.Dec.{ltb, leb}
use lib.ListN.{set}
use borrow.Author.Tests.{ltb-true, leb-true, lt-ltb}
use Rattle.base.specs.Choice.{choose, list}
use Rattle.base.specs.Limits.{width}
use Rattle.base.proofs.Laws.{both_true, list_same, list_set}
use Rattle.frame.specs.Frame.{sent_number, taken_number, has_shell}
use Rattle.layout.specs.Places.{at_first, at_second, sent_place, taken_place, issued_place, received_place, first_words}
use Rattle.layout.specs.Places.{second_words, agreed_place, confirmed_place}
use Rattle.layout.specs.Held.{word, first_from, second_from, first_in, second_in}

-- ---- Lists by a rule

-- the value matters only where the test holds
chosen : {A : Type 0} (t : Bool) (a b d : A) → (t ≡ true → a ≡ b) → choose t a d ≡ choose t b d
chosen true a b d h = h refl
chosen false a b d h = refl

-- the rules agree but at k
pub one_set : {A : Type 0} (f g : ℕ → A) (k : ℕ) (x : A) → k < width → g k ≡ x
    → ((j : ℕ) → (j ≡ k → ⊥) → g j ≡ f j)
    → list 0 width g ≡ set (list 0 width f) k x
one_set f g k x h e s =
    sym
    (rw (← e, ← ap g (zero-add k)) (list_set 0 width f g k h (λ j a b n. sym (s j (λ z. n (z ∙ sym (zero-add k)))))))

-- the tallies of p shells, each by a rule
module _ {A : Type 0} (make : ℕ → A) (p : ℕ) (f g : ℕ → ℕ) where
  pub tallies_same : ((j : ℕ) → j < p → g j ≡ f j)
      → list 0 width (λ m. make (choose (ltb m p) (g m) 0)) ≡ list 0 width (λ m. make (choose (ltb m p) (f m) 0))
  tallies_same s =
      list_same 0 width _ _ (λ m a b. ap make (chosen (ltb m p) (g m) (f m) 0 (λ t. s m (ltb-true m p t))))

  pub tallies_set : (m x : ℕ) → m < p → m < width → g m ≡ x → ((j : ℕ) → j < p → (j ≡ m → ⊥) → g j ≡ f j)
      → list 0 width (λ m. make (choose (ltb m p) (g m) 0))
      ≡ set (list 0 width (λ m. make (choose (ltb m p) (f m) 0))) m (make x)
  tallies_set m x h l e s =
      one_set (λ j. make (choose (ltb j p) (f j) 0)) (λ j. make (choose (ltb j p) (g j) 0)) m (make x) l
      (rw (lt-ltb m p h, e))
      (λ j n. ap make (chosen (ltb j p) (g j) (f j) 0 (λ t. s j (ltb-true j p t) n)))

-- ---- Frames

-- n words at one place are n words at another
abbrev pub Alike : List ℕ → ℕ → List ℕ → ℕ → ℕ → Type 0
Alike xs a ys b n = (i : ℕ) → i < n → word xs (a + i) ≡ word ys (b + i)

-- the same, with the places given
alike_at : (xs : List ℕ) (a : ℕ) (ys : List ℕ) (b n : ℕ) → Alike xs a ys b n → (i c d : ℕ) → i < n → c ≡ a + i → d ≡ b + i
    → word xs c ≡ word ys d
alike_at xs a ys b n h i c d l e f = ap (word xs) e ∙ h i l ∙ ap (word ys) (sym f)

pub first_alike : (xs ys : List ℕ) (p k a b : ℕ) → Alike xs a ys b (first_words p k)
    → first_from xs p k a ≡ first_from ys p k b
first_alike xs ys p k a b h =
    let e0 = at 0 a b (omega arith) (omega arith) (omega arith) in
    let e1 = at (issued_place p 0 k) (issued_place p a k) (issued_place p b k) (omega arith) (omega arith) (omega arith) in
    let e2 = at (received_place p 0 k) (received_place p a k) (received_place p b k) (omega arith) (omega arith) (omega arith) in
    let s = shells sent_number (sent_place a k) (sent_place b k) sents in
    let t = shells taken_number (taken_place p a k) (taken_place p b k) takens in
    cc
  where
    at : (i c d : ℕ) → i < first_words p k → c ≡ a + i → d ≡ b + i → word xs c ≡ word ys d
    at = alike_at xs a ys b (first_words p k) h

    sents : (m : ℕ) → k ≤ m → m < p → word xs (sent_place a k m) ≡ word ys (sent_place b k m)
    sents m g l = at (sent_place 0 k m) _ _ (omega arith) (omega arith) (omega arith)

    takens : (m : ℕ) → k ≤ m → m < p → word xs (taken_place p a k m) ≡ word ys (taken_place p b k m)
    takens m g l = at (taken_place p 0 k m) _ _ (omega arith) (omega arith) (omega arith)

    shells : {A : Type 0} (make : ℕ → A) (f g : ℕ → ℕ) → ((m : ℕ) → k ≤ m → m < p → word xs (f m) ≡ word ys (g m))
        → list 0 width (λ m. make (choose (has_shell p k m) (word xs (f m)) 0))
        ≡ list 0 width (λ m. make (choose (has_shell p k m) (word ys (g m)) 0))
    shells make f g s =
        list_same 0 width _ _
        (λ m u v.
        ap make
        (chosen (has_shell p k m) (word xs (f m)) (word ys (g m)) 0
        (λ t. let q = both_true (leb k m) (ltb m p) t in s m (leb-true k m q.0) (ltb-true m p q.1))))

pub second_alike : (xs ys : List ℕ) (a b : ℕ) → Alike xs a ys b second_words → second_from xs a ≡ second_from ys b
second_alike xs ys a b h =
    let at = alike_at xs a ys b second_words h in
    let e0 = at 0 a b (omega arith) (omega arith) (omega arith) in
    let e1 = h (agreed_place 0) (omega arith) in
    let e2 = h (confirmed_place 0) (omega arith) in
    cc

-- the frames of dimension k
module _ (xs ys : List ℕ) (p k : ℕ) where
  pub first_same : (k < p → Alike xs (at_first p k) ys (at_first p k) (first_words p k)) → first_in xs p k ≡ first_in ys p k
  unfolding first_in
  first_same h =
      chosen (ltb k p) _ _ _ (λ t. first_alike xs ys p k (at_first p k) (at_first p k) (h (ltb-true k p t)))

  pub second_same : (k < p → Alike xs (at_second p k) ys (at_second p k) second_words) → second_in xs p k ≡ second_in ys p k
  unfolding second_in
  second_same h = chosen (ltb k p) _ _ _ (λ t. second_alike xs ys (at_second p k) (at_second p k) (h (ltb-true k p t)))
