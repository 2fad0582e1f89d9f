-- The numbers of the state that words hold, each by the word that has it.
use mathlib.Core.Path.{◌≡◌, ap, ◌∙◌}
use mathlib.Core.Bool.{false}
use mathlib.Core.List.{List}
use Prim.Native.Nat.{ℕ, ◌≤◌, ◌<◌}
use native.Mathlib.Decide.{dec_lt}
use native.Mathlib.Omega.{arith}
use lib.Dec.{ltb}
use lib.ListN.{get_or-eq_default}
use borrow.Author.Tests.{lt-ltb, le-ltb, le-leb}
use Rattle.base.specs.Choice.{choose, list}
use Rattle.base.specs.Limits.{width}
use Rattle.base.proofs.Laws.{choose_yes, choose_no, both_make, list_at}
use Rattle.frame.specs.Frame.{sent_number, taken_number, sent_at, taken_at, has_shell}
use Rattle.frame.specs.declared.Sent.{Sent}
use Rattle.frame.specs.declared.Taken.{Taken}
use Rattle.node.specs.Sums.{first_at, second_at, sent_in, taken_in, number}
use Rattle.node.specs.Change.{no_first, no_second}
use Rattle.layout.specs.Places.{at_sent, at_taken, at_first, at_second, sent_place, taken_place}
use Rattle.layout.specs.Held.{word, dims_of, first_from, second_from, first_in, second_in, unpacked}

-- a number of shells listed by a rule
sent_listed : (f : ℕ → ℕ) (m : ℕ) → m < width → sent_at (list 0 width (λ i. sent_number (f i))) m ≡ f m
sent_listed f m h = ap (λ (x : Sent). x.0) (list_at width (λ i. sent_number (f i)) m (sent_number 0) h)

taken_listed : (f : ℕ → ℕ) (m : ℕ) → m < width → taken_at (list 0 width (λ i. taken_number (f i))) m ≡ f m
taken_listed f m h = ap (λ (x : Taken). x.0) (list_at width (λ i. taken_number (f i)) m (taken_number 0) h)

sent_past : (f : ℕ → ℕ) (m : ℕ) → width ≤ m → sent_at (list 0 width (λ i. sent_number (f i))) m ≡ 0
sent_past f m h = ap (λ (x : Sent). x.0) (get_or-eq_default (list 0 width (λ i. sent_number (f i))) (sent_number 0) h)

taken_past : (f : ℕ → ℕ) (m : ℕ) → width ≤ m → taken_at (list 0 width (λ i. taken_number (f i))) m ≡ 0
taken_past f m h =
    ap (λ (x : Taken). x.0) (get_or-eq_default (list 0 width (λ i. taken_number (f i))) (taken_number 0) h)

-- ---- The state

pub sent_word : (ws : List ℕ) (m : ℕ) → m < width
    → sent_at (unpacked ws).sent m ≡ choose (ltb m (dims_of ws)) (word ws (at_sent m)) 0
unfolding unpacked
sent_word ws m h = sent_listed (λ i. choose (ltb i (dims_of ws)) (word ws (at_sent i)) 0) m h

pub taken_word : (ws : List ℕ) (m : ℕ) → m < width
    → taken_at (unpacked ws).taken m ≡ choose (ltb m (dims_of ws)) (word ws (at_taken (dims_of ws) m)) 0
unfolding unpacked
taken_word ws m h = taken_listed (λ i. choose (ltb i (dims_of ws)) (word ws (at_taken (dims_of ws) i)) 0) m h

pub first_word : (ws : List ℕ) (k : ℕ) → k < width → first_at (unpacked ws) k ≡ first_in ws (dims_of ws) k
unfolding unpacked
first_word ws k h = list_at width (first_in ws (dims_of ws)) k _ h

pub second_word : (ws : List ℕ) (k : ℕ) → k < width → second_at (unpacked ws) k ≡ second_in ws (dims_of ws) k
unfolding unpacked
second_word ws k h = list_at width (second_in ws (dims_of ws)) k _ h

-- ---- The frames of a dimension, where the board has it and where it does not

pub first_in_lem : (ws : List ℕ) (p k : ℕ) → k < p → first_in ws p k ≡ first_from ws p k (at_first p k)
unfolding first_in
first_in_lem ws p k h = choose_yes _ _ (lt-ltb k p h)

pub first_past_lem : (ws : List ℕ) (p k : ℕ) → p ≤ k → first_in ws p k ≡ no_first
unfolding first_in
first_past_lem ws p k h = choose_no _ _ (le-ltb k p h)

pub second_in_lem : (ws : List ℕ) (p k : ℕ) → k < p → second_in ws p k ≡ second_from ws (at_second p k)
unfolding second_in
second_in_lem ws p k h = choose_yes _ _ (lt-ltb k p h)

pub second_past_lem : (ws : List ℕ) (p k : ℕ) → p ≤ k → second_in ws p k ≡ no_second
unfolding second_in
second_past_lem ws p k h = choose_no _ _ (le-ltb k p h)

-- ---- The tallies of a pass 1 frame

module _ (ws : List ℕ) (p k at m : ℕ) where
  abbrev sent_held : ℕ → ℕ
  sent_held i = choose (has_shell p k i) (word ws (sent_place at k i)) 0

  abbrev taken_held : ℕ → ℕ
  taken_held i = choose (has_shell p k i) (word ws (taken_place p at k i)) 0

  pub number_sent : k ≤ m → m < p → m < width → number (first_from ws p k at) (sent_in m) ≡ word ws (sent_place at k m)
  number_sent a b h = sent_listed sent_held m h ∙ choose_yes _ _ (both_make (le-leb k m a) (lt-ltb m p b))

  pub number_taken : k ≤ m → m < p → m < width → number (first_from ws p k at) (taken_in m) ≡ word ws (taken_place p at k m)
  number_taken a b h = taken_listed taken_held m h ∙ choose_yes _ _ (both_make (le-leb k m a) (lt-ltb m p b))

  -- a shell that the frame does not have
  pub number_outside : has_shell p k m ≡ false
      → (number (first_from ws p k at) (sent_in m) ≡ 0) × (number (first_from ws p k at) (taken_in m) ≡ 0)
  number_outside e = go (dec_lt m width)
    where
      go : Dec (m < width) → (number (first_from ws p k at) (sent_in m) ≡ 0) × (number (first_from ws p k at) (taken_in m) ≡ 0)
      go (yes h) = (
        sent_listed sent_held m h ∙ choose_no (word ws (sent_place at k m)) 0 e,
        taken_listed taken_held m h ∙ choose_no (word ws (taken_place p at k m)) 0 e,
      )
      go (no h) = let o : width ≤ m = omega arith in (sent_past sent_held m o, taken_past taken_held m o)
