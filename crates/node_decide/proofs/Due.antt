-- Of a state that is lent with its sums: the bytes that are due by the words are those of the state's frame, and they are due
-- to those to whom the state has it.
use mathlib.Core.Path.{◌≡◌, refl, sym, ap, ◌∙◌}
use mathlib.Core.Logic.{◌⊎◌, inl, inr}
use mathlib.Core.Bool.{Bool, true, false}
use mathlib.Core.List.{List, [], ◌∷◌, ◌++◌, append_assoc}
use Prim.Native.Nat.{ℕ, ◌+◌, ◌-◌, ◌*◌, ◌%◌, ◌≤◌, ◌<◌}
use native.Mathlib.Nat.{mod-eq_of_lt}
use native.Mathlib.Omega.{arith}
use lib.Dec.{eqb}
use lib.ListN.{length}
use borrow.Author.Tests.{eq-eqb, ne_eqb, le-leb}
use Rattle.base.specs.Choice.{choose, both, list}
use Rattle.base.specs.Limits.{Limits, Fits, width}
use Rattle.base.proofs.Laws.{clash, choose_yes, choose_no, cases, both_make, list_at, list_same, list_more}
use Rattle.frame.specs.Frame.{sent_number, taken_number, sent_at, taken_at, has_shell, numbers_of, frame_bytes}
use Rattle.frame.specs.Numbers.{bytes_of}
use Rattle.frame.specs.declared.Sent.{Sent}
use Rattle.frame.specs.declared.Taken.{Taken}
use Rattle.frame.proofs.Shells.{shell_in}
use Rattle.node.specs.Sums.{dims, Field, Has, sent_in, taken_in, all_sent, all_taken, own}
use Rattle.node.specs.Barrier.{first_frame, frame_due, receivers_due, is_empty}
use Rattle.node.specs.declared.Node.{Node}
use Rattle.node.proofs.Bound.{due_first, due_second}
use Rattle.node.proofs.Ways.{NoneDue}
use Rattle.layout.specs.Places.{head_words, at_pass, total_words, at_received, sum_issued, sum_received, sum_words}
use Rattle.layout.specs.Held.{word, unpacked, sum_of}
use Rattle.wire.proofs.Putting.{part_is}
use Rattle.due_bytes.specs.Bytes.{sent_part, taken_part, first_numbers, due_bytes, has_sums, can_send}
use Rattle.due.specs.Due.{due_to}
use Rattle.node_decide.proofs.Handed.{Lent, held, lies, low_dims, number_low, head_room, gathered, issued_is}
use Rattle.node_decide.proofs.Placing.{looked_whom}

-- two values more at the end
list_two : (k count : ℕ) (f : ℕ → ℕ)
    → list k (count + 2) f ≡ list k count f ++ (f (k + count) ∷ f (k + count + 1) ∷ [])
list_two k count f =
    let e : count + 2 ≡ count + 1 + 1 = omega arith in
    let z : k + (count + 1) ≡ k + count + 1 = omega arith in
    ap (λ c. list k c f) e ∙ list_more k (count + 1) f
    ∙ (λ i. list_more k count f i ++ (f (z i) ∷ []))
    ∙ append_assoc (list k count f) (f (k + count) ∷ []) (f (k + count + 1) ∷ [])

module _ (L : Limits) (fit : Fits L) (ws sums : List ℕ) (p total : ℕ) (h : Lent L ws sums p total)
    (low : (unpacked ws).dim < p) (room : sum_words p ≤ length sums) where
  abbrev n : Node
  n = unpacked ws

  abbrev k : ℕ
  k = n.dim

  few : p ≤ width
  few = low_dims L fit ws sums p total h

  -- ---- pass 1

  module _ (first : n.pass ≡ 1) where
    sum_is : (f : Field) → Has (dims n) k f → sum_of p sums f ≡ own n k f
    sum_is f b = rw h.dims (gathered L fit ws sums p total h first f b)

    sent_is : (m : ℕ) → k ≤ m → m < p → word sums m ≡ sent_at (first_frame n).sent m
    sent_is m a b =
        sum_is (sent_in m) (a, omega (arith, h.dims))
        ∙ sym
        (ap (λ (x : Sent). x.0)
        (list_at width (λ j. sent_number (choose (has_shell (dims n) k j) (own n k (sent_in j)) 0)) m (sent_number 0)
        (omega (arith, few)))
        ∙ choose_yes _ _ (shell_in (dims n) k m a (omega (arith, h.dims))))

    taken_is : (m : ℕ) → k ≤ m → m < p → word sums (p + m) ≡ taken_at (first_frame n).taken m
    taken_is m a b =
        sum_is (taken_in m) (a, omega (arith, h.dims))
        ∙ sym
        (ap (λ (x : Taken). x.0)
        (list_at width (λ j. taken_number (choose (has_shell (dims n) k j) (own n k (taken_in j)) 0)) m (taken_number 0)
        (omega (arith, few)))
        ∙ choose_yes _ _ (shell_in (dims n) k m a (omega (arith, h.dims))))

    sents : sent_part sums p k ≡ list k (p - k) (sent_at (first_frame n).sent)
    sents = part_is sums k (p - k) k _ (omega arith) (λ i b. sent_is (k + i) (omega arith) (omega arith))

    -- the sums taken, and both totals after them
    abbrev after : ℕ → ℕ
    after m = word sums (p + m)

    rest : taken_part sums p k
        ≡ list k (p - k) (taken_at (first_frame n).taken) ++ (own n k all_sent ∷ own n k all_taken ∷ [])
    rest =
        let c : sum_words p - (k + p) ≡ p - k + total_words = omega arith in
        let d : p + (k + (p - k)) ≡ sum_issued p = omega arith in
        let e : p + (k + (p - k) + at_received) ≡ sum_received p = omega arith in
        part_is sums (k + p) (sum_words p - (k + p)) k after (omega arith)
        (λ i b. let z : k + p + i ≡ p + (k + i) = omega arith in ap (word sums) z)
        ∙ ap (λ j. list k j after) c
        ∙ list_two k (p - k) after
        ∙ (λ i.
        list_same k (p - k) after (taken_at (first_frame n).taken) (λ m a b. taken_is m a (omega arith)) i
        ++ ((ap (word sums) d ∙ sum_is all_sent tt) i ∷ (ap (word sums) e ∙ sum_is all_taken tt) i ∷ []))

    first_due : 1 ∷ n.phase ∷ k ∷ n.number ∷ bytes_of (first_numbers sums p k) ≡ frame_bytes (dims n) (frame_due n)
    unfolding frame_bytes numbers_of
    first_due =
        ap (λ xs. 1 ∷ n.phase ∷ k ∷ n.number ∷ bytes_of xs)
        ((λ i. sents i ++ rest i)
        ∙ ap
        (λ q.
        list k (q - k) (sent_at (first_frame n).sent)
        ++ (list k (q - k) (taken_at (first_frame n).taken) ++ (own n k all_sent ∷ own n k all_taken ∷ [])))
        h.dims)
        ∙ ap (frame_bytes (dims n)) (sym (due_first n first))

  -- ---- pass 2

  module _ (second : n.pass ≡ 2) where
    second_due : 2 ∷ n.phase ∷ k ∷ n.number ∷ bytes_of (n.agreed ∷ total ∷ []) ≡ frame_bytes (dims n) (frame_due n)
    unfolding frame_bytes numbers_of
    second_due =
        ap (λ t. 2 ∷ n.phase ∷ k ∷ n.number ∷ bytes_of (n.agreed ∷ t ∷ []))
        (issued_is L fit ws sums p total h second)
        ∙ ap (frame_bytes (dims n)) (sym (due_second n second))

  -- ---- both

  -- the head's numbers are bytes
  head_is : (pass : ℕ) (l : List ℕ)
      → pass ∷ ((n.phase % 256 ∷ k % 256 ∷ n.number % 256 ∷ []) ++ l) ≡ pass ∷ n.phase ∷ k ∷ n.number ∷ l
  unfolding unpacked
  head_is pass l i =
      let low : k < 256 = omega (arith, few) in
      let known : n.number < 256 = omega (arith, number_low L fit ws sums p total h) in
      pass
      ∷ mod-eq_of_lt (lies L fit ws sums p total h).phase i
      ∷ mod-eq_of_lt low i
      ∷ mod-eq_of_lt known i
      ∷ l

  pub due_is : due_bytes ws sums p total ≡ frame_bytes (dims n) (frame_due n)
  unfolding unpacked
  due_is = go (held L fit ws sums p total h).pass
    where
      go : (n.pass ≡ 1) ⊎ (n.pass ≡ 2) → due_bytes ws sums p total ≡ frame_bytes (dims n) (frame_due n)
      go (inl e) = choose_yes _ _ (eq-eqb n.pass 1 e) ∙ head_is 1 _ ∙ first_due e
      go (inr e) = choose_no _ _ (ne_eqb n.pass 1 (λ q. omega arith)) ∙ head_is 2 _ ∙ second_due e

  -- the sums are there
  pub due_can : can_send ws p (length sums) ≡ true
  unfolding unpacked
  due_can =
      both_make (le-leb head_words (length ws) (head_room L ws h.whole))
      (cases (λ t. t ≡ true) (eqb n.pass 1) (has_sums p k (length sums)) true
      (λ e. both_make (le-leb k p (omega arith)) (le-leb (sum_words p) (length sums) room)) (λ e. refl))

-- ---- to whom

module _ (L : Limits) (fit : Fits L) (ws sums : List ℕ) (p total : ℕ) (h : Lent L ws sums p total) where
  abbrev node : Node
  node = unpacked ws

  flagged : due_to L ws ≡ choose node.flag (receivers_due node) []
  unfolding unpacked
  flagged = λ i.
      choose (both (le-leb head_words (length ws) (head_room L ws h.whole) i) node.flag)
      (looked_whom L node (held L fit ws sums p total h) i) []

  pub due_none : due_to L ws ≡ [] → NoneDue L node
  due_none e = go node.flag refl (sym flagged ∙ e)
    where
      go : (t : Bool) → node.flag ≡ t → choose t (receivers_due node) [] ≡ [] → NoneDue L node
      go true f q = inr q
      go false f q = inl f

  pub due_some : (a : ℕ) (l : List ℕ) → due_to L ws ≡ a ∷ l → (node.flag ≡ true) × (receivers_due node ≡ a ∷ l)
  due_some a l e = go node.flag refl (sym flagged ∙ e)
    where
      go : (t : Bool) → node.flag ≡ t → choose t (receivers_due node) [] ≡ a ∷ l
          → (node.flag ≡ true) × (receivers_due node ≡ a ∷ l)
      go true f q = (f, q)
      go false f q = clash (ap is_empty q)
