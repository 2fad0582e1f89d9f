-- What the frames and the nodes of one phase hold, and that what a node would write is so too.
use mathlib.Core.Path.{◌≡◌, refl, sym, ◌∙◌}
use mathlib.Core.Bool.{false}
use mathlib.Core.Option.{Option, none, some}
use mathlib.Core.List.{[]}
use Prim.Native.Nat.{ℕ, zero, suc, ◌+◌, ◌-◌, ◌≤◌, ◌<◌}
use native.Mathlib.Omega.{arith}
use lib.ListN.{length}
use Rattle.cycle.proofs.Sums.{sum, sum_zero, sum_plus, count}
use Rattle.cycle.proofs.Tree.{Tree}
use Rattle.cycle.proofs.Growth.{Course, total_taken, Claimed}
use Rattle.cycle.proofs.OwnSums.{Confirmed, first_number, second_number, first_sum, second_sum, FirstStored}
use Rattle.cycle.proofs.OwnSums.{SecondStored, Agreed, first_sum_ok, second_sum_ok}
use Rattle.cycle.proofs.Exact.{Entry, sent_to, taken_from, sent_all, taken_all, Entries, entry_of, own_sums, run_sum}
use Rattle.cycle.proofs.OnePhase.{Content, message, report, Parcel, State, PhaseBoard, frame_of, dim_of, Agrees}
use Rattle.cycle.proofs.OnePhase.{alone, first, second, HasEntry}
use Rattle.cycle.proofs.Latest.{own_same}
use Rattle.cycle.proofs.AtRest.{frame_first, frame_second, dim_first, dim_second}

-- ---- the two views of a stored frame

abbrev pub entry_in : Entry → Option Entries → Option ℕ
entry_in f none = none
entry_in f (some x) = some (x f)

abbrev pub confirmed_in : Option Entries → Option Confirmed
confirmed_in none = none
confirmed_in (some x) = some (record { agreed = x taken_all; issued = x sent_all })

first_own : (tal : Entries) (g : ℕ → Option Entries) (f : Entry) (k : ℕ)
    → first_sum (tal f) (λ i. entry_in f (g i)) k ≡ own_sums tal g k f
first_own tal g f zero = refl
first_own tal g f (suc k) = let r = first_own tal g f k in let q = one (g k) in omega arith
  where
    one : (o : Option Entries) → first_number (entry_in f o) ≡ entry_of o f
    one none = refl
    one (some x) = refl

second_own : (tal : Entries) (g : ℕ → Option Entries) (k : ℕ)
    → second_sum (tal sent_all) (λ i. confirmed_in (g i)) k ≡ own_sums tal g k sent_all
second_own tal g zero = refl
second_own tal g (suc k) = let r = second_own tal g k in let q = one (g k) in omega arith
  where
    one : (o : Option Entries) → second_number (confirmed_in o) ≡ entry_of o sent_all
    one none = refl
    one (some x) = refl

abbrev pub world : PhaseBoard → Course
world b =
    record { senders = b.senders; taken = λ y. (b.nodes y).tallies taken_all; done = λ y. (b.nodes y).busy ≡ false }

pub agree_same : (p limit : ℕ) (v v' : State) (s : ℕ) (o : Option ℕ) → v'.tallies ≡ v.tallies
    → ((i : ℕ) → i ≤ s → v'.stored i ≡ v.stored i) → (p ≤ s → v'.agreed ≡ v.agreed)
    → Agrees p limit v s o → Agrees p limit v' s o
agree_same p limit v v' s o t e q alone = alone
agree_same p limit v v' s o t e q (first w x l g c1 c2 c3 c4) =
    let a : (f : Entry) → own_sums v'.tallies v'.stored s f ≡ own_sums v.tallies v.stored s f =
    λ f. rw t (own_same v.tallies v'.stored v.stored s (λ i k. e i (omega arith)) f) in
    first w x l (e s (omega arith) ∙ g) (a (sent_to s) ∙ c1) (a (taken_from s) ∙ c2) (λ f u. omega (arith, a f, c3 f u))
    (λ z. omega (arith, a sent_all, a taken_all, c4 z))
agree_same p limit v v' s o t e q (second w x l g c3 c5 c6) =
    let a : own_sums v'.tallies (λ i. v'.stored (p + i)) (s - p) sent_all ≡ own_sums v.tallies
    (λ i. v.stored (p + i)) (s - p) sent_all =
    rw t (own_same v.tallies (λ i. v'.stored (p + i)) (λ i. v.stored (p + i)) (s - p)
    (λ i k. e (p + i) (omega arith)) sent_all) in
    second w x l (e s (omega arith) ∙ g) (omega arith) (c5 ∙ sym (q l)) (λ z. omega (arith, q l, c6 z))

module _ {P p : ℕ} (tree : Tree P p) (limit : ℕ) where
  -- a frame of pass 1: no number is above the true sum over its sender's run, and the shells add up to the totals
  pub record FirstGood (b : PhaseBoard) (s w : ℕ) (x : Entries) : Type 0 where
    pub le : (f : Entry) → HasEntry p f → x f ≤ run_sum tree (λ y. (b.nodes y).tallies f) s w
    pub taken_total_lem : x taken_all ≡ sum (λ j. x (taken_from j)) 0 p
    pub sent_total_lem : x sent_all ≡ sum (λ j. x (sent_to j)) 0 p

  -- a frame of step s, from w
  pub record FrameOk (b : PhaseBoard) (s w : ℕ) (x : Entries) : Type 0 where
    pub in_first : s < p → FirstGood b s w x
    pub in_second : (k : ℕ) → s ≡ p + k → Claimed P (world b) (tree.low k w) (tree.size k w) (x taken_all) (x sent_all)

  abbrev pub StoredOk : PhaseBoard → ℕ → Option ℕ → Option Entries → Type 0
  StoredOk b s a none = Unit {0}
  StoredOk b s none (some x) = ⊥
  StoredOk b s (some w) (some x) = FrameOk b s w x

  abbrev pub ContentOk : PhaseBoard → ℕ → Content → Type 0
  ContentOk b w message = Unit {0}
  ContentOk b w (report s x) = FrameOk b s w x

  abbrev pub ParcelOk : PhaseBoard → Parcel → Type 0
  ParcelOk b i = ContentOk b i.from i.load

  -- a node: its stored frames are right, T is what the frames of pass 1 give, the steps before its own agree, and its
  -- totals are what it has sent and what it has taken
  pub record NodeOk (b : PhaseBoard) (a : ℕ) (v : State) : Type 0 where
    pub stored_ok : (s : ℕ) → s < p + p → StoredOk b s (tree.awaited (dim_of p s) a) (v.stored s)
    pub agreed_is : p ≤ v.step → v.agreed ≡ own_sums v.tallies v.stored p taken_all
    pub agrees : (s : ℕ) → s < v.step → Agrees p limit v s (tree.awaited (dim_of p s) a)
    pub taken_total_lem : v.tallies taken_all ≡ sum (λ j. v.tallies (taken_from j)) 0 p
    pub sent_total_lem : v.tallies sent_all ≡ sum (λ j. v.tallies (sent_to j)) 0 p
    pub count_is : v.tallies sent_all ≡ count a b.senders
    pub step_le : v.step ≤ p + p

  -- ---- what a node would write is good

  first_stored_of : (b : PhaseBoard) (k : ℕ) (f : Entry) → HasEntry p f → k < p → (o : Option ℕ) (s : Option Entries)
      → StoredOk b k o s
      → FirstStored tree (record { senders = []; taken = λ y. (b.nodes y).tallies f; done = λ y. ⊥ }) k o (entry_in f s)
  first_stored_of b k f v l none none h = tt
  first_stored_of b k f v l none (some x) h = absurd h
  first_stored_of b k f v l (some w) none h = tt
  first_stored_of b k f v l (some w) (some x) h = (h.in_first l).le f v

  pub own_most : (b : PhaseBoard) (a : ℕ) (n : State) → a < P → NodeOk b a n → n.tallies ≡ (b.nodes a).tallies
      → (f : Entry) → HasEntry p f → (k : ℕ) → k ≤ p
      → own_sums n.tallies n.stored k f ≤ run_sum tree (λ y. (b.nodes y).tallies f) k a
  own_most b a n h ok e f v k l =
      let q = first_sum_ok tree (record { senders = []; taken = λ y. (b.nodes y).tallies f; done = λ y. ⊥ }) a
      (n.tallies f) (λ i. entry_in f (n.stored i)) h (rw e (omega arith))
      (λ i m. first_stored_of b i f v m (tree.awaited i a) (n.stored i)
      (rw (dim_first p i m) at (ok.stored_ok i (omega arith)))) k l in
      omega (arith, first_own n.tallies n.stored f k)

  pub linear : (b : PhaseBoard) (a : ℕ) (n : State) → NodeOk b a n → (k : ℕ) → k ≤ p
      → (own_sums n.tallies n.stored k taken_all ≡ sum (λ j. own_sums n.tallies n.stored k (taken_from j)) 0 p)
      × (own_sums n.tallies n.stored k sent_all ≡ sum (λ j. own_sums n.tallies n.stored k (sent_to j)) 0 p)
  linear b a n ok zero l = (ok.taken_total_lem, ok.sent_total_lem)
  linear b a n ok (suc k) l =
      let r = linear b a n ok k (omega arith) in
      let q = part (tree.awaited (dim_of p k) a) (n.stored k) (ok.stored_ok k (omega arith)) in (
        omega (
          arith,
          r.0,
          q.0,
          sum_plus (λ j. own_sums n.tallies n.stored k (taken_from j))
              (λ j. entry_of (n.stored k) (taken_from j)) 0 p,
        ),
        omega (
          arith,
          r.1,
          q.1,
          sum_plus (λ j. own_sums n.tallies n.stored k (sent_to j))
              (λ j. entry_of (n.stored k) (sent_to j)) 0 p,
        ),
      )
    where
      part : (o : Option ℕ) (s : Option Entries) → StoredOk b k o s
          → (entry_of s taken_all ≡ sum (λ j. entry_of s (taken_from j)) 0 p)
          × (entry_of s sent_all ≡ sum (λ j. entry_of s (sent_to j)) 0 p)
      part none none h = (sym (sum_zero 0 p), sym (sum_zero 0 p))
      part none (some x) h = absurd h
      part (some w) none h = (sym (sum_zero 0 p), sym (sum_zero 0 p))
      part (some w) (some x) h = ((h.in_first (omega arith)).taken_total_lem, (h.in_first (omega arith)).sent_total_lem)

  second_stored_of : (b : PhaseBoard) (k : ℕ) (o : Option ℕ) (s : Option Entries) → StoredOk b (p + k) o s
      → SecondStored tree (world b) k o (confirmed_in s)
  second_stored_of b k none none h = tt
  second_stored_of b k none (some x) h = absurd h
  second_stored_of b k (some w) none h = tt
  second_stored_of b k (some w) (some x) h = h.in_second k refl

  pub agreed_of : (v : State) (k : ℕ) (o : Option ℕ) → Agrees p limit v (p + k) o
      → Agreed tree v.agreed o (confirmed_in (v.stored (p + k)))
  agreed_of v k o alone = tt
  agreed_of v k o (first w x l g c1 c2 c3 c4) = absurd (omega arith)
  agreed_of v k o (second w x l g c3 c5 c6) = rw g c5

  agreed_low : (b : PhaseBoard) (a : ℕ) (n : State) → a < P → NodeOk b a n → n.tallies ≡ (b.nodes a).tallies
      → p ≤ n.step → n.agreed ≤ total_taken P (world b)
  agreed_low b a n h ok e l =
      let q = rw (tree.low_top a h, tree.size_top a h) at (own_most b a n h ok e taken_all tt p (omega arith)) in
      omega (arith, ok.agreed_is l)

  pub second_ok_lem : (b : PhaseBoard) (a : ℕ) (n : State) → a < P → NodeOk b a n → n.tallies ≡ (b.nodes a).tallies
      → total_taken P (world b) ≤ length b.senders → (b.nodes a).busy ≡ false → (k : ℕ) → k ≤ p → p ≤ n.step
      → ((j : ℕ) → j < k → Agreed tree n.agreed (tree.awaited j a) (confirmed_in (n.stored (p + j))))
      → Claimed P (world b) (tree.low k a) (tree.size k a) n.agreed
      (own_sums n.tallies (λ i. n.stored (p + i)) k sent_all)
  second_ok_lem b a n h ok e r bu k l m ag =
      rw (second_own n.tallies (λ i. n.stored (p + i)) k) at
      (second_sum_ok tree (world b) a (n.tallies sent_all) n.agreed
      (λ i. confirmed_in (n.stored (p + i))) h ok.count_is (agreed_low b a n h ok e m) r bu
      (λ j q. second_stored_of b j (tree.awaited j a) (n.stored (p + j))
      (rw (dim_second p j) at (ok.stored_ok (p + j) (omega arith)))) k l ag)

  pub frame_ok : (b : PhaseBoard) (a : ℕ) → a < P → NodeOk b a (b.nodes a)
      → total_taken P (world b) ≤ length b.senders → (b.nodes a).busy ≡ false
      → (s : ℕ) → s < p + p → s ≤ (b.nodes a).step → FrameOk b s a (frame_of p (b.nodes a) s)
  frame_ok b a h ok r bu s l m = record { in_first = low; in_second = high }
    where
      v : State
      v = b.nodes a

      low : s < p → FirstGood b s a (frame_of p v s)
      low q =
          rw (frame_first p v s q) (record {
            le = λ f u. own_most b a v h ok refl f u s (omega arith);
            taken_total_lem = (linear b a v ok s (omega arith)).0;
            sent_total_lem = (linear b a v ok s (omega arith)).1;
          })

      high : (k : ℕ) → s ≡ p + k → Claimed P (world b) (tree.low k a) (tree.size k a) (frame_of p v s taken_all)
          (frame_of p v s sent_all)
      high k q =
          rw (q, frame_second p v k) (second_ok_lem b a v h ok refl r bu k (omega arith) (omega arith)
          (λ j u. agreed_of v j (tree.awaited j a) (rw (dim_second p j) at (ok.agrees (p + j) (omega arith)))))
