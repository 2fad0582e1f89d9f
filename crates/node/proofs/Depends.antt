-- What a node's sums, its agreement and the frame due depend on: the tallies and what is stored for steps before; and
-- what each change of a state leaves and what it changes.
use mathlib.Core.Path.{◌≡◌, refl, sym, ap, ◌∙◌, subst, fun_ext}
use mathlib.Core.Logic.{◌≢◌, ◌⊎◌, inl, inr}
use mathlib.Core.Bool.{Bool, true, false}
use mathlib.Core.List.{List}
use Prim.Native.Nat.{ℕ, zero, suc, ◌+◌, ◌≤◌, ◌<◌}
use native.Mathlib.Decide.{ℕ_discrete, dec_lt}
use native.Mathlib.Omega.{arith}
use lib.Dec.{ltb, eqb}
use lib.ListN.{length, get_or, set}
use lib.Seq.{get_or-set_same, get_or-set_other, set_out}
use borrow.Author.Tests.{ltb-true, ltb-false, eq-eqb, ne_eqb}
use Rattle.base.specs.Choice.{choose, list}
use Rattle.base.specs.Limits.{Limits, width}
use Rattle.base.specs.declared.Kind.{Kind}
use Rattle.base.proofs.Laws.{choose_yes, choose_no, cases}
use Rattle.tree.specs.Tree.{dimension, awaited}
use Rattle.frame.specs.Frame.{sent_number, taken_number, sent_at, taken_at, has_shell}
use Rattle.frame.specs.declared.Sent.{Sent}
use Rattle.frame.specs.declared.Taken.{Taken}
use Rattle.frame.specs.declared.Frame.{Frame}
use Rattle.node.specs.Sums.{dims, first_at, second_at, Field, sent_in, taken_in, all_sent, all_taken, total}
use Rattle.node.specs.Sums.{tally, number, own, own_issued}
use Rattle.node.specs.Agree.{is_none, first_clauses, second_clauses, all_hold, agrees}
use Rattle.node.specs.Change.{with_busy, at, with_first, with_second}
use Rattle.node.specs.Calls.{one_sent, counted, step_number, first_of, second_of, stored, gotten}
use Rattle.node.specs.Barrier.{frame_due}
use Rattle.node.specs.declared.Stored.{Stored}
use Rattle.node.specs.declared.Confirm.{Confirm}
use Rattle.node.specs.declared.Node.{Node}
use Rattle.node.proofs.Totals.{total_same, total_more}
use Rattle.node.proofs.Valid.{step_of, step_first, step_second}
use Rattle.node.proofs.Bound.{due_first, due_second}

-- ---- what the sums and the agreement of a step depend on

pub record Same (P a : ℕ) (s : List Sent) (t : List Taken) (P' a' : ℕ) (s' : List Sent) (t' : List Taken) : Type 0 where
  pub nodes : P' ≡ P
  pub number : a' ≡ a
  pub sent : s' ≡ s
  pub taken : t' ≡ t

-- the same node of the same board, with the same tallies
abbrev pub Alike : Node → Node → Type 0
Alike n n' =
    Same n.nodes n.number n.sent n.taken n'.nodes n'.number n'.sent n'.taken

pub alike : (n : Node) → Alike n n
alike n = record { nodes = refl; number = refl; sent = refl; taken = refl }

module _ (n n' : Node) (a : Alike n n') where
  pub tally_same : (f : Field) → tally n' f ≡ tally n f
  tally_same (sent_in m) = ap (λ l. sent_at l m) a.sent
  tally_same (taken_in m) = ap (λ l. taken_at l m) a.taken
  tally_same all_sent = λ i. total (sent_at (a.sent i)) (dimension (a.nodes i))
  tally_same all_taken = λ i. total (taken_at (a.taken i)) (dimension (a.nodes i))

  -- the own sums for dimension k depend on what is stored below k
  pub own_same : (k : ℕ) → ((j : ℕ) → j < k → first_at n' j ≡ first_at n j) → (f : Field) → own n' k f ≡ own n k f
  unfolding own
  own_same zero h f = tally_same f
  own_same (suc k) h f =
      let r = own_same k (λ j l. h j (omega arith)) f in
      let z = ap (λ (x : Stored). choose x.present (number x f) 0) (h k (omega arith)) in
      λ i. r i + z i

  pub issued_same : (k : ℕ) → ((j : ℕ) → j < k → second_at n' j ≡ second_at n j) → own_issued n' k ≡ own_issued n k
  unfolding own_issued
  issued_same zero h = tally_same all_sent
  issued_same (suc k) h =
      let r = issued_same k (λ j l. h j (omega arith)) in
      let z = ap (λ (x : Confirm). choose x.present x.issued.0 0) (h k (omega arith)) in
      λ i. r i + z i

  -- whether step k agrees depends on what is stored for the steps of its pass up to k, and in pass 2 on T
  module _ (L : Limits) (k : ℕ) where
    pub first_same : ((j : ℕ) → j ≤ k → first_at n' j ≡ first_at n j) → agrees L n' 1 k ≡ agrees L n 1 k
    unfolding agrees
    first_same h =
        let o : own n' k ≡ own n k = fun_ext (own_same k (λ j l. h j (omega arith))) in
        let x = h k (omega arith) in
        λ i.
        choose (is_none (awaited (a.nodes i) k (a.number i))) true
        (all_hold (first_clauses L (dimension (a.nodes i)) k (o i) (x i)))

    pub second_same : ((j : ℕ) → j ≤ k → second_at n' j ≡ second_at n j) → n'.agreed ≡ n.agreed
        → agrees L n' 2 k ≡ agrees L n 2 k
    unfolding agrees
    second_same h t =
        let o = issued_same k (λ j l. h j (omega arith)) in
        let x = h k (omega arith) in
        λ i.
        choose (is_none (awaited (a.nodes i) k (a.number i))) true
        (all_hold (second_clauses L (dimension (a.nodes i)) k (o i) (t i) (x i)))

-- ---- what the frame due depends on

-- what is written for a step depends on nothing stored at or after it
pub record SameBefore (n n' : Node) : Type 0 where
  pub alike : Alike n n'
  pub phase : n'.phase ≡ n.phase
  pub pass : n'.pass ≡ n.pass
  pub dim : n'.dim ≡ n.dim
  pub first : n.pass ≡ 1 → (j : ℕ) → j < n.dim → first_at n' j ≡ first_at n j
  pub second : n.pass ≡ 2 → (j : ℕ) → j < n.dim → second_at n' j ≡ second_at n j
  pub agreed : n.pass ≡ 2 → n'.agreed ≡ n.agreed

pub due_same : (n n' : Node) → SameBefore n n' → (n.pass ≡ 1) ⊎ (n.pass ≡ 2) → frame_due n' ≡ frame_due n
due_same n n' s (inl e) =
    let a = s.alike in
    let o : (f : Field) → own n' n'.dim f ≡ own n n.dim f =
    λ f. ap (λ k. own n' k f) s.dim ∙ own_same n n' a n.dim (s.first e) f in
    let k = s.dim in
    due_first n' (s.pass ∙ e) ∙ (λ i.
    record {
      pass = 1;
      phase = s.phase i;
      dim = k i;
      sender = a.number i;
      sent = list 0 width (λ m. sent_number (choose (has_shell (dimension (a.nodes i)) (k i) m) (o (sent_in m) i) 0));
      taken = list 0 width (λ m. taken_number (choose (has_shell (dimension (a.nodes i)) (k i) m) (o (taken_in m) i) 0));
      issued = sent_number (o all_sent i);
      received = taken_number (o all_taken i);
      agreed = 0;
    }) ∙ sym (due_first n e)
due_same n n' s (inr e) =
    let a = s.alike in
    let o = ap (own_issued n') s.dim ∙ issued_same n n' a n.dim (s.second e) in
    due_second n' (s.pass ∙ e) ∙ (λ i.
    record {
      pass = 2;
      phase = s.phase i;
      dim = s.dim i;
      sender = a.number i;
      sent = list 0 width (λ m. sent_number 0);
      taken = list 0 width (λ m. taken_number 0);
      issued = sent_number (o i);
      received = taken_number 0;
      agreed = s.agreed e i;
    }) ∙ sym (due_second n e)

-- ---- a stored frame set

module _ (n : Node) (k : ℕ) (x : Stored) where
  abbrev pub store_first : Node
  store_first = with_first n (set n.first k x)

  pub first_there : k < length n.first → first_at store_first k ≡ x
  first_there h = get_or-set_same n.first k x _ h

  pub first_elsewhere : (j : ℕ) → j ≢ k → first_at store_first j ≡ first_at n j
  first_elsewhere j h = get_or-set_other n.first k j x _ h

module _ (n : Node) (k : ℕ) (x : Confirm) where
  abbrev pub store_second : Node
  store_second = with_second n (set n.second k x)

  pub second_there : k < length n.second → second_at store_second k ≡ x
  second_there h = get_or-set_same n.second k x _ h

  pub second_elsewhere : (j : ℕ) → j ≢ k → second_at store_second j ≡ second_at n j
  second_elsewhere j h = get_or-set_other n.second k j x _ h

-- ---- the own sums after a change

module _ (n : Node) (k : ℕ) (f : Field) where
  pub own_busy : (b : Bool) → own (with_busy n b) k f ≡ own n k f
  own_busy b = own_same n _ (alike n) k (λ j l. refl) f

  pub own_at : (pass dim : ℕ) (flag : Bool) (agreed : ℕ) → own (at n pass dim flag agreed) k f ≡ own n k f
  own_at pass dim flag agreed = own_same n _ (alike n) k (λ j l. refl) f

-- ---- the tallies after a message is sent or taken

-- a number of an array counted up, for sent and taken alike; the array may not have the place
module _ {A : Type 0} (of : A → ℕ) (l : List A) (m : ℕ) (x d : A) (e : of x ≡ of (get_or l m d) + 1) where
  abbrev before : ℕ → ℕ
  before j = of (get_or l j d)

  abbrev after : ℕ → ℕ
  after j = of (get_or (set l m x) j d)

  count_here : m < length l → after m ≡ before m + 1
  count_here h = ap of (get_or-set_same l m x d h) ∙ e

  count_else : (j : ℕ) → j ≢ m → after j ≡ before j
  count_else j h = ap of (get_or-set_other l m j x d h)

  count_total : (p : ℕ) → m < length l → m < p → total after p ≡ total before p + 1
  count_total p h b = total_more before after m p b (count_here h) count_else

  -- no number goes down, and none goes up by more than one
  count_up : (j : ℕ) → (before j ≤ after j) × (after j ≤ before j + 1)
  count_up j = go (ℕ_discrete j m) (dec_lt m (length l))
    where
      go : Dec (j ≡ m) → Dec (m < length l) → (before j ≤ after j) × (after j ≤ before j + 1)
      go (yes z) (yes h) = omega (arith, ap after z, ap before z, count_here h)
      go (yes z) (no h) = omega (arith, ap (λ l. of (get_or l j d)) (set_out l m x (omega arith)))
      go (no z) h = omega (arith, count_else j z)

  count_total_up : (p : ℕ) → (total before p ≤ total after p) × (total after p ≤ total before p + 1)
  count_total_up p = go (dec_lt m (length l)) (dec_lt m p)
    where
      go : Dec (m < length l) → Dec (m < p) → (total before p ≤ total after p) × (total after p ≤ total before p + 1)
      go (yes h) (yes b) = omega (arith, count_total p h b)
      go (yes h) (no b) = omega (arith, total_same before after p (λ j q. sym (count_else j (λ z. omega arith))))
      go (no h) b = omega (arith, ap (λ l. total (λ j. of (get_or l j d)) p) (set_out l m x (omega arith)))

-- a number of a field no lower, and by one higher at most
abbrev pub Up : (Field → ℕ) → (Field → ℕ) → Type 0
Up g h = (f : Field) → (g f ≤ h f) × (h f ≤ g f + 1)

-- one message more sent to shell m
module _ (n : Node) (m : ℕ) where
  abbrev sends : Sent → ℕ
  sends x = x.0

  abbrev sent_one : Sent
  sent_one = sent_number (tally n (sent_in m) + 1)

  pub sent_else : (j : ℕ) → j ≢ m → tally (one_sent n m) (sent_in j) ≡ tally n (sent_in j)
  sent_else j h = count_else sends n.sent m sent_one (sent_number 0) refl j h

  pub sent_up : Up (tally n) (tally (one_sent n m))
  sent_up (sent_in j) = count_up sends n.sent m sent_one (sent_number 0) refl j
  sent_up (taken_in j) = omega arith
  sent_up all_sent = count_total_up sends n.sent m sent_one (sent_number 0) refl (dims n)
  sent_up all_taken = omega arith

-- one message more taken from shell m
module _ (n : Node) (kind : Kind) (m : ℕ) where
  abbrev takes : Taken → ℕ
  takes x = x.0

  abbrev taken_one : Taken
  taken_one = taken_number (tally n (taken_in m) + 1)

  pub taken_else : (j : ℕ) → j ≢ m → tally (counted n kind m) (taken_in j) ≡ tally n (taken_in j)
  taken_else j h = count_else takes n.taken m taken_one (taken_number 0) refl j h

  pub taken_up : Up (tally n) (tally (counted n kind m))
  taken_up (sent_in j) = omega arith
  taken_up (taken_in j) = count_up takes n.taken m taken_one (taken_number 0) refl j
  taken_up all_sent = omega arith
  taken_up all_taken = count_total_up takes n.taken m taken_one (taken_number 0) refl (dims n)

-- ---- the state after a frame of now

-- the frame is stored for its step; if that is before the position, the node goes back to it
pub data GotWay (n : Node) (f : Frame) : Node → Type 0 where
  first_back : f.pass ≡ 1 → f.dim < step_of n → GotWay n f (at (store_first n f.dim (first_of f)) 1 f.dim false 0)
  first_stay : f.pass ≡ 1 → step_of n ≤ f.dim → GotWay n f (store_first n f.dim (first_of f))
  second_back : f.pass ≡ 2 → dims n + f.dim < step_of n
      → GotWay n f (at (store_second n f.dim (second_of f)) 2 f.dim false n.agreed)
  second_stay : f.pass ≡ 2 → step_of n ≤ dims n + f.dim → GotWay n f (store_second n f.dim (second_of f))

pub got_way : (n : Node) (f : Frame) → (f.pass ≡ 1) ⊎ (f.pass ≡ 2) → GotWay n f (gotten n f)
unfolding gotten
got_way n f (inl e) =
    let s = step_first (dims n) f.pass f.dim e in
    let x : stored n f ≡ store_first n f.dim (first_of f) = choose_yes _ _ (eq-eqb f.pass 1 e) in
    let t : choose (eqb f.pass 1) 0 n.agreed ≡ 0 = choose_yes _ _ (eq-eqb f.pass 1 e) in
    let of = step_number (dims n) f.pass f.dim in
    cases (GotWay n f) (ltb of (step_of n)) _ _
    (λ l.
    subst (GotWay n f) (λ i. at (sym x i) (sym e i) f.dim false (sym t i))
    (first_back e (omega (arith, ltb-true of (step_of n) l))))
    (λ l. subst (GotWay n f) (sym x) (first_stay e (omega (arith, ltb-false of (step_of n) l))))
got_way n f (inr e) =
    let one = ne_eqb f.pass 1 (λ q. omega arith) in
    let s = step_second (dims n) f.pass f.dim e in
    let x : stored n f ≡ store_second n f.dim (second_of f) = choose_no _ _ one in
    let t : choose (eqb f.pass 1) 0 n.agreed ≡ n.agreed = choose_no _ _ one in
    let of = step_number (dims n) f.pass f.dim in
    cases (GotWay n f) (ltb of (step_of n)) _ _
    (λ l.
    subst (GotWay n f) (λ i. at (sym x i) (sym e i) f.dim false (sym t i))
    (second_back e (omega (arith, ltb-true of (step_of n) l))))
    (λ l. subst (GotWay n f) (sym x) (second_stay e (omega (arith, ltb-false of (step_of n) l))))

-- it is still the same node with the same tallies, in its phase, and busy if it was
pub got_keeps : {n : Node} {f : Frame} {n' : Node} → GotWay n f n'
    → Alike n n' × (n'.phase ≡ n.phase) × (n'.busy ≡ n.busy)
got_keeps {n} (first_back e l) = (alike n, refl, refl)
got_keeps {n} (first_stay e l) = (alike n, refl, refl)
got_keeps {n} (second_back e l) = (alike n, refl, refl)
got_keeps {n} (second_stay e l) = (alike n, refl, refl)
