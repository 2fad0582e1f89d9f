-- One phase alone: a node that has not come to the phase yet is a fresh, busy one that does nothing, and one that has
-- left it is at step p + p. Steps are counted through: pass 1, dimension k is step k; pass 2, dimension k is step p +
-- k.
use mathlib.Core.Path.{◌≡◌}
use mathlib.Core.Logic.{◌⊎◌}
use mathlib.Core.Bool.{Bool, true, false}
use mathlib.Core.Option.{Option, none, some}
use mathlib.Core.List.{List, [], ◌∷◌, ◌++◌, map}
use Prim.Native.Nat.{ℕ, suc, ◌+◌, ◌-◌, ◌≤◌, ◌<◌}
use native.Mathlib.Decide.{dec_lt}
use lib.ListN.{length}
use Rattle.cycle.proofs.Sums.{update, pick, snoc}
use Rattle.cycle.proofs.Tree.{Tree}
use Rattle.cycle.proofs.Lists.{All}
use Rattle.cycle.proofs.Exact.{Entry, sent_to, taken_from, sent_all, taken_all, Entries, own_sums, InRun}

-- what is under way: a work message, or the numbers of a frame of a step
pub data Content : Type 0 where
  message : Content
  report : ℕ → Entries → Content

pub record Parcel : Type 0 where
  pub from : ℕ
  pub to : ℕ
  pub load : Content

-- a node in the phase: its tallies, the step that it is at, T, and the frame stored for each step
pub record State : Type 0 where
  pub busy : Bool
  pub tallies : Entries
  pub step : ℕ
  pub flag : Bool
  pub agreed : ℕ
  pub stored : ℕ → Option Entries

-- The nodes and the items under way. History: the senders in order, how much each has sent to each and taken from each,
-- and whether something was lost.
pub record PhaseBoard : Type 0 where
  pub nodes : ℕ → State
  pub items : List Parcel
  pub senders : List ℕ
  pub sent_between : ℕ → ℕ → ℕ
  pub taken_between : ℕ → ℕ → ℕ
  pub lossy : Bool

-- the numbers of a frame of pass 2: T, and total sent
abbrev pub confirming : ℕ → ℕ → Entries
confirming T x (sent_to j) = 0
confirming T x (taken_from j) = 0
confirming T x sent_all = x
confirming T x taken_all = T

-- the frame that v would write for step s
abbrev pub frame_of : ℕ → State → ℕ → Entries
frame_of p v s =
    pick (dec_lt s p) (own_sums v.tallies v.stored s)
    (confirming v.agreed (own_sums v.tallies (λ i. v.stored (p + i)) (s - p) sent_all))

-- the dimension of a step
abbrev pub dim_of : ℕ → ℕ → ℕ
dim_of p s = pick (dec_lt s p) s (s - p)

-- ---- when a step agrees

-- a number of a board of dimension p
abbrev pub HasEntry : ℕ → Entry → Type 0
HasEntry p (sent_to j) = j < p
HasEntry p (taken_from j) = j < p
HasEntry p sent_all = Unit {0}
HasEntry p taken_all = Unit {0}

-- the fields that a frame of step s shows beside shell s: the shells above, and the totals
abbrev pub Above : ℕ → ℕ → Entry → Type 0
Above s p (sent_to j) = (s < j) × (j < p)
Above s p (taken_from j) = (s < j) × (j < p)
Above s p sent_all = Unit {0}
Above s p taken_all = Unit {0}

pub above_ok : (s p : ℕ) (f : Entry) → Above s p f → HasEntry p f
above_ok s p (sent_to j) h = h.1
above_ok s p (taken_from j) h = h.1
above_ok s p sent_all h = tt
above_ok s p taken_all h = tt

-- the step agrees, by the frame of the node that is awaited in it
pub data Agrees (p limit : ℕ) (v : State) (s : ℕ) : Option ℕ → Type 0 where
  alone : Agrees p limit v s none
  first : (w : ℕ) (x : Entries) → s < p → v.stored s ≡ some x
      → own_sums v.tallies v.stored s (sent_to s) ≡ x (taken_from s)
      → own_sums v.tallies v.stored s (taken_from s) ≡ x (sent_to s)
      → ((f : Entry) → Above s p f → own_sums v.tallies v.stored s f + x f ≤ limit)
      → (suc s ≡ p → own_sums v.tallies v.stored s sent_all + x sent_all ≡ own_sums v.tallies
      v.stored s taken_all + x taken_all) → Agrees p limit v s (some w)
  second : (w : ℕ) (x : Entries) → p ≤ s → v.stored s ≡ some x
      → own_sums v.tallies (λ i. v.stored (p + i)) (s - p) sent_all + x sent_all ≤ limit → x taken_all ≡ v.agreed
      → (suc s ≡ p + p → own_sums v.tallies (λ i. v.stored (p + i)) (s - p) sent_all + x sent_all ≡ v.agreed)
      → Agrees p limit v s (some w)

-- the same to each receiver
abbrev pub posts : ℕ → Content → List ℕ → List Parcel
posts a q rs = map (λ r. record { from = a; to = r; load = q }) rs

abbrev pub OnLink : ℕ → ℕ → Parcel → Type 0
OnLink a c i = (i.from ≡ a) × (i.to ≡ c)

-- no item of xs is on the link from a to c: what comes next on it is its oldest
abbrev pub First : List Parcel → ℕ → ℕ → Type 0
First xs a c = All (λ i. OnLink a c i → ⊥) xs

abbrev pub at_step : State → ℕ → Bool → ℕ → State
at_step v s f T = record { busy = v.busy; tallies = v.tallies; step = s; flag = f; agreed = T; stored = v.stored }

abbrev pub with_stored : State → ℕ → Entries → State
with_stored v s x =
    record {
      busy = v.busy;
      tallies = v.tallies;
      step = v.step;
      flag = v.flag;
      agreed = v.agreed;
      stored = update v.stored s (some x);
    }

abbrev pub with_tallies : State → Bool → Entries → State
with_tallies v b t =
    record { busy = b; tallies = t; step = v.step; flag = v.flag; agreed = v.agreed; stored = v.stored }

abbrev pub changed : PhaseBoard → ℕ → State → List Parcel → List ℕ → (ℕ → ℕ → ℕ) → (ℕ → ℕ → ℕ) → PhaseBoard
changed b a v is log sent_between taken_between =
    record {
      nodes = update b.nodes a v;
      items = is;
      senders = log;
      sent_between = sent_between;
      taken_between = taken_between;
      lossy = b.lossy;
    }

abbrev pub placed : PhaseBoard → ℕ → State → List Parcel → PhaseBoard
placed b a v is = changed b a v is b.senders b.sent_between b.taken_between

abbrev pub one_more : (ℕ → ℕ → ℕ) → ℕ → ℕ → ℕ → ℕ → ℕ
one_more m a c = update m a (update (m a) c (suc (m a c)))

abbrev pub bump_sent : Entries → ℕ → Entries
bump_sent t j (sent_to i) = update (λ i. t (sent_to i)) j (suc (t (sent_to j))) i
bump_sent t j (taken_from i) = t (taken_from i)
bump_sent t j sent_all = suc (t sent_all)
bump_sent t j taken_all = t taken_all

abbrev pub bump_taken : Entries → ℕ → Entries
bump_taken t j (sent_to i) = t (sent_to i)
bump_taken t j (taken_from i) = update (λ i. t (taken_from i)) j (suc (t (taken_from j))) i
bump_taken t j sent_all = t sent_all
bump_taken t j taken_all = suc (t taken_all)

module _ {P p : ℕ} (tree : Tree P p) where
  -- nobody awaits a in step s
  abbrev pub Unheard : ℕ → ℕ → Type 0
  Unheard a s = (c : ℕ) → c < P → tree.awaited (dim_of p s) c ≡ some a → ⊥

  -- c is in shell j of a
  abbrev pub Shell : ℕ → ℕ → ℕ → Type 0
  Shell a c j = (k : ℕ) → k ≤ p → (InRun tree k a c → j < k) × (j < k → InRun tree k a c)

  -- an event of the phase
  pub data Turn (limit : ℕ) (b : PhaseBoard) : PhaseBoard → Type 0 where
    sends : (a c j : ℕ) → a < P → c < P → j < p → Shell a c j → (b.nodes a).busy ≡ true → length b.senders < limit
        → Turn limit b (changed b a (with_tallies (b.nodes a) true (bump_sent (b.nodes a).tallies j))
        (b.items ++ posts a message (c ∷ [])) (snoc b.senders a) (one_more b.sent_between a c) b.taken_between)
    rests : (a : ℕ) → a < P → Turn limit b
        (placed b a (with_tallies (b.nodes a) false (b.nodes a).tallies) b.items)
    -- c is busy after it, or not
    takes : (xs ys : List Parcel) (a c j : ℕ) (busy : Bool) → a < P → c < P → j < p → Shell c a j
        → b.items ≡ xs ++ record { from = a; to = c; load = message } ∷ ys → (b.nodes c).step < p + p
        → Turn limit b (changed b c (at_step
        (with_tallies (b.nodes c) busy (bump_taken (b.nodes c).tallies j)) 0 true 0) (xs ++ ys) b.senders
        b.sent_between (one_more b.taken_between a c))
    stores : (xs ys : List Parcel) (a c s : ℕ) (x : Entries) → c < P → s < p + p
        → b.items ≡ xs ++ record { from = a; to = c; load = report s x } ∷ ys → First xs a c
        → (b.nodes c).step < p + p → tree.awaited (dim_of p s) c ≡ some a → (b.nodes c).step ≤ s
        → Turn limit b (placed b c (with_stored (b.nodes c) s x) (xs ++ ys))
    falls : (xs ys : List Parcel) (a c s : ℕ) (x : Entries) (T : ℕ) → c < P → s < p + p
        → b.items ≡ xs ++ record { from = a; to = c; load = report s x } ∷ ys → First xs a c
        → (b.nodes c).step < p + p → tree.awaited (dim_of p s) c ≡ some a → s < (b.nodes c).step
        → (p ≤ s → T ≡ (b.nodes c).agreed)
        → Turn limit b (placed b c (at_step (with_stored (b.nodes c) s x) s false T) (xs ++ ys))
    drops : (xs ys : List Parcel) (a c s : ℕ) (x : Entries) → c < P
        → b.items ≡ xs ++ record { from = a; to = c; load = report s x } ∷ ys
        → p + p ≤ (b.nodes c).step → Turn limit b (placed b c (b.nodes c) (xs ++ ys))
    puts : (a : ℕ) (rs : List ℕ) → a < P → (b.nodes a).busy ≡ false → (b.nodes a).step < p + p
        → ((c : ℕ) → c < P → tree.awaited (dim_of p (b.nodes a).step) c ≡ some a
        → (xs : List ℕ) × ((ys : List ℕ) × (rs ≡ xs ++ c ∷ ys)))
        → Turn limit b (placed b a (at_step (b.nodes a) (b.nodes a).step false (b.nodes a).agreed)
        (b.items ++ posts a (report (b.nodes a).step (frame_of p (b.nodes a) (b.nodes a).step)) rs))
    waits : (a : ℕ) → a < P → (b.nodes a).busy ≡ false → ((b.nodes a).flag ≡ false) ⊎ Unheard a (b.nodes a).step
        → Turn limit b (placed b a (at_step (b.nodes a) (b.nodes a).step false (b.nodes a).agreed) b.items)
    moves : (a T : ℕ) → a < P → (b.nodes a).busy ≡ false → (b.nodes a).step < p + p
        → ((b.nodes a).flag ≡ false) ⊎ Unheard a (b.nodes a).step
        → Agrees p limit (b.nodes a) (b.nodes a).step (tree.awaited (dim_of p (b.nodes a).step) a)
        → (p ≤ (b.nodes a).step → T ≡ (b.nodes a).agreed)
        → (suc (b.nodes a).step ≡ p → T ≡ own_sums (b.nodes a).tallies (b.nodes a).stored p taken_all)
        → Turn limit b (placed b a (at_step (b.nodes a) (suc (b.nodes a).step) true T) b.items)
    loses : (xs ys : List Parcel) (t : Parcel) → b.items ≡ xs ++ t ∷ ys
        → Turn limit b (record {
          nodes = b.nodes;
          items = xs ++ ys;
          senders = b.senders;
          sent_between = b.sent_between;
          taken_between = b.taken_between;
          lossy = true;
        })
