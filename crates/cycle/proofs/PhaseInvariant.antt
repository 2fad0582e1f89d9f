-- The invariant of one phase, and what an event at one node has to give to keep it.
use mathlib.Core.Path.{◌≡◌, sym, ap, ◌∙◌}
use mathlib.Core.Logic.{◌≢◌}
use mathlib.Core.Bool.{true, false}
use mathlib.Core.Option.{Option, none, some}
use mathlib.Core.List.{List}
use Prim.Native.Nat.{ℕ, ◌+◌, ◌≤◌, ◌<◌}
use native.Mathlib.Omega.{arith}
use lib.ListN.{length}
use Rattle.cycle.proofs.Sums.{update, update_all, sum, sum_ext, sum_le, count, Below}
use Rattle.cycle.proofs.FinalClaim.{Quiet}
use Rattle.cycle.proofs.Tree.{Tree}
use Rattle.cycle.proofs.Growth.{Course, total_taken, Growth, same, sends, takes_one, claimed_keep}
use Rattle.cycle.proofs.Lists.{All, all_map}
use Rattle.cycle.proofs.Exact.{Entry, sent_to, taken_from, sent_all, taken_all, Entries, run_sum}
use Rattle.cycle.proofs.OnePhase.{Content, message, report, Parcel, State, PhaseBoard, dim_of, changed}
use Rattle.cycle.proofs.Latest.{Latest, BusyAtStart}
use Rattle.cycle.proofs.NodeOk.{world, FrameOk, StoredOk, ContentOk, ParcelOk, NodeOk}
use Rattle.cycle.proofs.Messages.{messages, messages_on}

module _ {P p : ℕ} (tree : Tree P p) (limit : ℕ) where
  pub record PhaseInvariant (b : PhaseBoard) : Type 0 where
    -- what the nodes and the items say
    pub nodes_ok : (a : ℕ) → a < P → NodeOk tree limit b a (b.nodes a)
    pub items_ok : All (ParcelOk tree limit b) b.items
    -- senders are nodes of the board
    pub below : Below P b.senders
    -- what is taken or under way was sent, in all and of each pair; and where nothing is lost there is nothing else
    pub covers : total_taken P (world b) + messages b.items ≤ length b.senders
    pub covers_pairs : (y z : ℕ) → b.taken_between y z + messages_on y z b.items ≤ b.sent_between y z
    pub balance : b.lossy ≡ false → total_taken P (world b) + messages b.items ≡ length b.senders
    pub pairs : b.lossy ≡ false → (y z : ℕ) → b.sent_between y z ≡ b.taken_between y z + messages_on y z b.items
    -- the tallies by shell are what was sent to and taken from each node of the shell
    pub sent_shells : (y : ℕ) → y < P → (k : ℕ) → k ≤ p
        → run_sum tree (b.sent_between y) k y ≡ sum (λ j. (b.nodes y).tallies (sent_to j)) 0 k
    pub taken_shells : (z : ℕ) → z < P → (k : ℕ) → k ≤ p
        → run_sum tree (λ y. b.taken_between y z) k z ≡ sum (λ j. (b.nodes z).tallies (taken_from j)) 0 k
    pub small : length b.senders ≤ limit
    pub busy_start : BusyAtStart tree b
    -- who has left has left a quiet phase
    pub quiet : (a : ℕ) → a < P → p + p ≤ (b.nodes a).step
        → Quiet b.senders (total_taken P (world b)) P (world b).done (b.nodes a).agreed
    -- where nothing is lost, the latest frames are those that would be written now
    pub latest : b.lossy ≡ false → Latest tree b

  pub reach : (b : PhaseBoard) → PhaseInvariant b → total_taken P (world b) ≤ length b.senders
  reach b i = omega (arith, i.covers)

  frame_keep : (b b' : PhaseBoard) → Growth P (world b) (world b')
      → ((y : ℕ) (f : Entry) → (b.nodes y).tallies f ≤ (b'.nodes y).tallies f)
      → total_taken P (world b) ≤ length b.senders
      → (s w : ℕ) (x : Entries) → FrameOk tree limit b s w x → FrameOk tree limit b' s w x
  frame_keep b b' e g r s w x h =
      record {
        in_first = λ l. record {
          le =
              λ f v. omega (
                arith,
                (h.in_first l).le f v,
                sum_le (λ y. (b.nodes y).tallies f)
                    (λ y. (b'.nodes y).tallies f) (tree.low s w) (tree.size s w) (λ y i j. g y f),
              );
          taken_total_lem = (h.in_first l).taken_total_lem;
          sent_total_lem = (h.in_first l).sent_total_lem;
        };
        in_second =
            λ k q. claimed_keep P (world b) (world b') (tree.low k w) (tree.size k w) (x taken_all) (x sent_all) r e
            (h.in_second k q);
      }

  pub kept_keep : (b b' : PhaseBoard) → Growth P (world b) (world b')
      → ((y : ℕ) (f : Entry) → (b.nodes y).tallies f ≤ (b'.nodes y).tallies f)
      → total_taken P (world b) ≤ length b.senders
      → (s : ℕ) (o : Option ℕ) (x : Option Entries) → StoredOk tree limit b s o x → StoredOk tree limit b' s o x
  kept_keep b b' e g r s none none h = tt
  kept_keep b b' e g r s none (some x) h = h
  kept_keep b b' e g r s (some w) none h = tt
  kept_keep b b' e g r s (some w) (some x) h = frame_keep b b' e g r s w x h

  pub load_keep : (b b' : PhaseBoard) → Growth P (world b) (world b')
      → ((y : ℕ) (f : Entry) → (b.nodes y).tallies f ≤ (b'.nodes y).tallies f)
      → total_taken P (world b) ≤ length b.senders
      → (w : ℕ) (q : Content) → ContentOk tree limit b w q → ContentOk tree limit b' w q
  load_keep b b' e g r w message h = tt
  load_keep b b' e g r w (report s x) h = frame_keep b b' e g r s w x h

  pub items_keep : (b b' : PhaseBoard) → Growth P (world b) (world b')
      → ((y : ℕ) (f : Entry) → (b.nodes y).tallies f ≤ (b'.nodes y).tallies f)
      → total_taken P (world b) ≤ length b.senders
      → (is : List Parcel) → All (ParcelOk tree limit b) is → All (ParcelOk tree limit b') is
  items_keep b b' e g r is h =
      all_map (ParcelOk tree limit b) (ParcelOk tree limit b') (λ i k. load_keep b b' e g r i.from i.load k) is h

  -- a node as it was, on the new board
  pub node_keep : (b b' : PhaseBoard) → Growth P (world b) (world b')
      → ((y : ℕ) (f : Entry) → (b.nodes y).tallies f ≤ (b'.nodes y).tallies f)
      → total_taken P (world b) ≤ length b.senders
      → (a : ℕ) (v : State) → count a b'.senders ≡ count a b.senders → NodeOk tree limit b a v
      → NodeOk tree limit b' a v
  node_keep b b' e g r a v c h =
      record {
        stored_ok = λ s l. kept_keep b b' e g r s (tree.awaited (dim_of p s) a) (v.stored s) (h.stored_ok s l);
        agreed_is = h.agreed_is;
        agrees = h.agrees;
        taken_total_lem = h.taken_total_lem;
        sent_total_lem = h.sent_total_lem;
        count_is = h.count_is ∙ sym c;
        step_le = h.step_le;
      }

  pub quiet_keep : (w w' : Course) (T : ℕ) → Growth P w w' → Quiet w.senders (total_taken P w) P w.done T
      → Quiet w'.senders (total_taken P w') P w'.done T
  quiet_keep w w' T (same a b c) q =
      record {
        all_sent_lem = ap length a ∙ q.all_sent_lem;
        all_taken_lem = sum_ext w'.taken w.taken 0 P (λ i k l. b i)
            ∙ q.all_taken_lem;
        all_idle = λ y h. c y (q.all_idle y h);
      }
  quiet_keep w w' T (sends z zP a b n c) q = absurd (n (q.all_idle z zP))
  quiet_keep w w' T (takes_one a b c) q = absurd (omega (arith, q.all_sent_lem, q.all_taken_lem))

  -- what an event that changes node a to v, and the items and histories, has to give
  pub record Obligations (b : PhaseBoard) (a : ℕ) (v : State) (is : List Parcel) (log' : List ℕ)
      (sentBetween' takenBetween' : ℕ → ℕ → ℕ) : Type 0 where
    pub here : a < P
    pub evol : Growth P (world b) (world (changed b a v is log' sentBetween' takenBetween'))
    pub grow : (f : Entry) → (b.nodes a).tallies f ≤ v.tallies f
    pub others : (y : ℕ) → y ≢ a → count y log' ≡ count y b.senders
    pub node : NodeOk tree limit (changed b a v is log' sentBetween' takenBetween') a v
    pub items : All (ParcelOk tree limit (changed b a v is log' sentBetween' takenBetween')) is
    pub below : Below P log'
    pub covers : total_taken P (world (changed b a v is log' sentBetween' takenBetween')) + messages is ≤ length log'
    pub covers_pairs : (y z : ℕ) → takenBetween' y z + messages_on y z is ≤ sentBetween' y z
    pub balance : b.lossy ≡ false
        → total_taken P (world (changed b a v is log' sentBetween' takenBetween')) + messages is ≡ length log'
    pub pairs : b.lossy ≡ false → (y z : ℕ) → sentBetween' y z ≡ takenBetween' y z + messages_on y z is
    pub rows : (y : ℕ) → y ≢ a → (z : ℕ) → sentBetween' y z ≡ b.sent_between y z
    pub columns : (z : ℕ) → z ≢ a → (y : ℕ) → takenBetween' y z ≡ b.taken_between y z
    pub sent_shells : (k : ℕ) → k ≤ p → run_sum tree (sentBetween' a) k a ≡ sum (λ j. v.tallies (sent_to j)) 0 k
    pub taken_shells : (k : ℕ) → k ≤ p
        → run_sum tree (λ y. takenBetween' y a) k a ≡ sum (λ j. v.tallies (taken_from j)) 0 k
    pub small : length log' ≤ limit
    pub busy_start : v.busy ≡ true → (v.step ≡ 0) × (v.flag ≡ true)
    pub quiet : p + p ≤ v.step → Quiet log' (total_taken P (world (changed b a v is log' sentBetween' takenBetween'))) P
        (world (changed b a v is log' sentBetween' takenBetween')).done v.agreed
    pub latest : b.lossy ≡ false → Latest tree (changed b a v is log' sentBetween' takenBetween')

  pub grows : (b : PhaseBoard) (a : ℕ) (v : State) → ((f : Entry) → (b.nodes a).tallies f ≤ v.tallies f)
      → (y : ℕ) (f : Entry) → (b.nodes y).tallies f ≤ (update b.nodes a v y).tallies f
  grows b a v g =
      update_all (λ y u. (f : Entry) → (b.nodes y).tallies f ≤ u.tallies f) b.nodes a v g (λ y n f. omega arith)

  pub phase_keep : (b : PhaseBoard) → PhaseInvariant b
      → (a : ℕ) (v : State) (is : List Parcel) (log' : List ℕ) (sentBetween' takenBetween' : ℕ → ℕ → ℕ)
      → Obligations b a v is log' sentBetween' takenBetween'
      → PhaseInvariant (changed b a v is log' sentBetween' takenBetween')
  phase_keep b i a v is log' sentBetween' takenBetween' g =
      record {
        nodes_ok = update_all (λ y u. y < P → NodeOk tree limit b' y u) b.nodes a v (λ h. g.node)
            (λ y n h. node_keep b b' g.evol (grows b a v g.grow) (reach b i) y (b.nodes y) (g.others y n)
            (i.nodes_ok y h));
        items_ok = g.items;
        below = g.below;
        covers = g.covers;
        covers_pairs = g.covers_pairs;
        balance = g.balance;
        pairs = g.pairs;
        sent_shells =
            update_all (λ y u. y < P → (k : ℕ) → k ≤ p
            → run_sum tree (sentBetween' y) k y ≡ sum (λ j. u.tallies (sent_to j)) 0 k) b.nodes a v
            (λ h. g.sent_shells)
            (λ y n h k l. sum_ext (sentBetween' y) (b.sent_between y) (tree.low k y) (tree.size k y)
            (λ z i j. g.rows y n z) ∙ i.sent_shells y h k l);
        taken_shells =
            update_all (λ z u. z < P → (k : ℕ) → k ≤ p
            → run_sum tree (λ y. takenBetween' y z) k z ≡ sum (λ j. u.tallies (taken_from j)) 0 k) b.nodes a v
            (λ h. g.taken_shells)
            (λ z n h k l. sum_ext (λ y. takenBetween' y z) (λ y. b.taken_between y z) (tree.low k z) (tree.size k z)
            (λ y i j. g.columns z n y) ∙ i.taken_shells z h k l);
        small = g.small;
        busy_start =
            update_all (λ y u. u.busy ≡ true → (u.step ≡ 0) × (u.flag ≡ true)) b.nodes a v g.busy_start
            (λ y n. i.busy_start y);
        quiet =
            update_all (λ y u. y < P → p + p ≤ u.step
            → Quiet log' (total_taken P (world b')) P (world b').done u.agreed) b.nodes a v (λ h. g.quiet)
            (λ y n h l. quiet_keep (world b) (world b') (b.nodes y).agreed g.evol (i.quiet y h l));
        latest = g.latest;
      }
    where
      b' : PhaseBoard
      b' = changed b a v is log' sentBetween' takenBetween'
