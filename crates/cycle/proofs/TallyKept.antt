-- A send and a take keep the invariant of a phase.
use mathlib.Core.Path.{◌≡◌, refl, sym, ◌∙◌}
use mathlib.Core.Logic.{◌⊎◌, inl, inr}
use mathlib.Core.Bool.{Bool, true, false}
use mathlib.Core.List.{List, [], ◌∷◌, ◌++◌}
use Prim.Native.Nat.{ℕ, suc, ◌+◌, ◌≤◌, ◌<◌, zero-le}
use native.Mathlib.Decide.{dec_lt, ℕ_discrete}
use native.Mathlib.Omega.{arith}
use lib.ListN.{length}
use Rattle.cycle.proofs.Sums.{update, update_all, update_same, pick, sum, sum_ext, sum_update}
use Rattle.cycle.proofs.Sums.{sum_update_out, snoc, length_snoc, count_snoc_same, count_snoc_other}
use Rattle.cycle.proofs.Tree.{Tree}
use Rattle.cycle.proofs.Growth.{Growth, sends, takes_one}
use Rattle.cycle.proofs.Lists.{all_append}
use Rattle.cycle.proofs.Sums.{below_snoc}
use Rattle.cycle.proofs.Exact.{Entry, sent_to, taken_from, sent_all, taken_all, run_sum}
use Rattle.cycle.proofs.OnePhase.{message, Parcel, State, PhaseBoard, dim_of, posts}
use Rattle.cycle.proofs.OnePhase.{at_step, with_tallies, changed, one_more, bump_sent, bump_taken}
use Rattle.cycle.proofs.OnePhase.{Shell}
use Rattle.cycle.proofs.Newest.{on_link_lem}
use Rattle.cycle.proofs.Latest.{Latest}
use Rattle.cycle.proofs.NodeOk.{world, ParcelOk, NodeOk}
use Rattle.cycle.proofs.Messages.{messages, messages_on, messages_append, messages_on_append}
use Rattle.cycle.proofs.Messages.{more_hit, more_column, more_other}
use Rattle.cycle.proofs.PhaseInvariant.{reach, kept_keep, items_keep, grows}
use Rattle.cycle.proofs.PhaseInvariant.{phase_keep, PhaseInvariant}
use Rattle.cycle.proofs.StillKept.{less, not_busy}

module _ {P p : ℕ} (tree : Tree P p) (limit : ℕ) where
  pre_up : (row shells : ℕ → ℕ) (k a c j : ℕ) → k ≤ p → Shell tree a c j → run_sum tree row k a ≡ sum shells 0 k
      → run_sum tree (update row c (suc (row c))) k a ≡ sum (update shells j (suc (shells j))) 0 k
  pre_up row shells k a c j l s e = go (dec_lt j k)
    where
      go : Dec (j < k) → run_sum tree (update row c (suc (row c))) k a ≡ sum (update shells j (suc (shells j))) 0 k
      go (yes q) =
          let i = (s k l).1 q in
          omega (
            arith,
            sum_update row c (suc (row c)) (tree.low k a) (tree.size k a) i.0 i.1,
            sum_update shells j (suc (shells j)) 0 k zero-le (omega arith),
          )
      go (no q) =
          sum_update_out row c (suc (row c)) (tree.low k a) (tree.size k a) (out (dec_lt c (tree.low k a))) ∙ e
          ∙ sym (sum_update_out shells j (suc (shells j)) 0 k (inr (omega arith)))
        where
          out : Dec (c < tree.low k a) → (c < tree.low k a) ⊎ (tree.low k a + tree.size k a ≤ c)
          out (yes u) = inl u
          out (no u) = inr (far (dec_lt c (tree.low k a + tree.size k a)))
            where
              far : Dec (c < tree.low k a + tree.size k a) → tree.low k a + tree.size k a ≤ c
              far (yes v) = absurd (q ((s k l).0 (omega arith, v)))
              far (no v) = omega arith

  -- ---- a send

  pub send_keep : (b : PhaseBoard) → PhaseInvariant tree limit b → (a c j : ℕ) → a < P → c < P → j < p
      → Shell tree a c j → (b.nodes a).busy ≡ true → length b.senders < limit → (b.lossy ≡ false → Latest tree
      (changed b a (with_tallies (b.nodes a) true (bump_sent (b.nodes a).tallies j))
      (b.items ++ posts a message (c ∷ [])) (snoc b.senders a) (one_more b.sent_between a c) b.taken_between))
      → PhaseInvariant tree limit (changed b a (with_tallies (b.nodes a) true (bump_sent (b.nodes a).tallies j))
      (b.items ++ posts a message (c ∷ [])) (snoc b.senders a) (one_more b.sent_between a c) b.taken_between)
  send_keep b i a c j h hc jp sl bu lm la =
      phase_keep tree limit b i a v is (snoc b.senders a) (one_more b.sent_between a c) b.taken_between (
      record {
        here = h;
        evol = ev;
        grow = gr;
        others = λ y n. count_snoc_other b.senders a y n;
        node =
            record {
              stored_ok =
                  λ s l. kept_keep tree limit b b' ev (grows tree limit b a v gr) (reach tree limit b i) s
                  (tree.awaited (dim_of p s) a) (v.stored s) (ok.stored_ok s l);
              agreed_is = λ q. absurd (omega (arith, z.0));
              agrees = λ s l. absurd (omega (arith, z.0));
              taken_total_lem = ok.taken_total_lem;
              sent_total_lem =
                  omega (
                    arith,
                    ok.sent_total_lem,
                    sum_update
                        (λ i. (b.nodes a).tallies (sent_to i)) j (suc ((b.nodes a).tallies (sent_to j))) 0 p zero-le
                        (omega arith),
                  );
              count_is = omega (arith, ok.count_is, count_snoc_same b.senders a);
              step_le = ok.step_le;
            };
        items =
            all_append (ParcelOk tree limit b') b.items (posts a message (c ∷ []))
            (items_keep tree limit b b' ev (grows tree limit b a v gr) (reach tree limit b i) b.items i.items_ok)
            (tt, tt);
        below = below_snoc P b.senders a h i.below;
        covers =
            omega (
              arith,
              sum_ext (world b').taken (world b).taken 0 P
                  (λ y k l. got y),
              messages_append b.items (posts a message (c ∷ [])),
              length_snoc b.senders a,
              i.covers,
            );
        covers_pairs =
            λ y z. omega (
              arith,
              more_hit b.sent_between a c y z,
              messages_on_append y z b.items (posts a message (c ∷ [])),
              i.covers_pairs y z,
            );
        balance =
            λ ll. omega (
              arith,
              sum_ext (world b').taken (world b).taken 0 P
                  (λ y k l. got y),
              messages_append b.items (posts a message (c ∷ [])),
              length_snoc b.senders a,
              i.balance ll,
            );
        pairs =
            λ ll y z. omega (
              arith,
              more_hit b.sent_between a c y z,
              messages_on_append y z b.items (posts a message (c ∷ [])),
              i.pairs ll y z,
            );
        rows = λ y n z. more_other b.sent_between a c y z (inl n);
        columns = λ z n y. refl;
        sent_shells =
            λ k l. rw (update_same b.sent_between a (update (b.sent_between a) c (suc (b.sent_between a c))))
            (pre_up (b.sent_between a) (λ i. (b.nodes a).tallies (sent_to i)) k a c j l sl (i.sent_shells a h k l));
        taken_shells = i.taken_shells a h;
        small = omega (arith, length_snoc b.senders a);
        busy_start = λ q. z;
        quiet = λ q. absurd (omega (arith, z.0));
        latest = la;
      })
    where
      v : State
      v = with_tallies (b.nodes a) true (bump_sent (b.nodes a).tallies j)

      is : List Parcel
      is = b.items ++ posts a message (c ∷ [])

      b' : PhaseBoard
      b' = changed b a v is (snoc b.senders a) (one_more b.sent_between a c) b.taken_between

      ok : NodeOk tree limit b a (b.nodes a)
      ok = i.nodes_ok a h

      z : ((b.nodes a).step ≡ 0) × ((b.nodes a).flag ≡ true)
      z = i.busy_start a bu

      gr : (f : Entry) → (b.nodes a).tallies f ≤ bump_sent (b.nodes a).tallies j f
      gr (sent_to k) =
          update_all (λ i x. (b.nodes a).tallies (sent_to i) ≤ x)
          (λ i. (b.nodes a).tallies (sent_to i)) j (suc ((b.nodes a).tallies (sent_to j))) (omega arith)
          (λ i q. omega arith) k
      gr (taken_from k) = omega arith
      gr sent_all = omega arith
      gr taken_all = omega arith

      got : (y : ℕ) → (update b.nodes a v y).tallies taken_all ≡ (b.nodes y).tallies taken_all
      got = update_all (λ y u. u.tallies taken_all ≡ (b.nodes y).tallies taken_all) b.nodes a v refl (λ y n. refl)

      ev : Growth P (world b) (world b')
      ev =
          sends a h refl got (λ q. not_busy tree limit (b.nodes a) q bu)
          (update_all (λ y u. (b.nodes y).busy ≡ false → u.busy ≡ false) b.nodes a v
          (λ q. not_busy tree limit (b.nodes a) q bu) (λ y n d. d))

  -- ---- a take

  update_sum : (g : State → ℕ) (nodes : ℕ → State) (a : ℕ) (v : State) → a < P
      → sum (λ y. g (update nodes a v y)) 0 P + g (nodes a) ≡ sum (λ y. g (nodes y)) 0 P + g v
  update_sum g nodes a v h =
      let e = sum_ext (λ y. g (update nodes a v y)) (update (λ y. g (nodes y)) a (g v)) 0 P
      (λ y i j. at y (ℕ_discrete y a)) in
      omega (arith, sum_update (λ y. g (nodes y)) a (g v) 0 P zero-le (omega arith))
    where
      at : (y : ℕ) (d : Dec (y ≡ a)) → g (pick {A = State} d v (nodes y)) ≡ pick {A = ℕ} d (g v) (g (nodes y))
      at y (yes d) = refl
      at y (no d) = refl

  pub take_keep : (b : PhaseBoard) → PhaseInvariant tree limit b → (xs ys : List Parcel) (a c j : ℕ) (busy : Bool) → c < P → j < p
      → Shell tree c a j → b.items ≡ xs ++ record { from = a; to = c; load = message } ∷ ys → (b.nodes c).step < p + p
      → (b.lossy ≡ false → Latest tree
      (changed b c (at_step (with_tallies (b.nodes c) busy (bump_taken (b.nodes c).tallies j)) 0 true 0) (xs ++ ys)
      b.senders b.sent_between (one_more b.taken_between a c)))
      → PhaseInvariant tree limit (changed b c
      (at_step (with_tallies (b.nodes c) busy (bump_taken (b.nodes c).tallies j)) 0 true 0) (xs ++ ys) b.senders
      b.sent_between (one_more b.taken_between a c))
  take_keep b i xs ys a c j busy h jp sl e u la =
      phase_keep tree limit b i c v (xs ++ ys) b.senders b.sent_between (one_more b.taken_between a c) (
      record {
        here = h;
        evol = ev;
        grow = gr;
        others = λ y n. refl;
        node =
            record {
              stored_ok =
                  λ s l. kept_keep tree limit b b' ev (grows tree limit b c v gr) (reach tree limit b i) s
                  (tree.awaited (dim_of p s) c) (v.stored s) (ok.stored_ok s l);
              agreed_is = λ q. absurd (omega arith);
              agrees = λ s l. absurd (omega arith);
              taken_total_lem =
                  omega (
                    arith,
                    ok.taken_total_lem,
                    sum_update
                        (λ i. (b.nodes c).tallies (taken_from i)) j (suc ((b.nodes c).tallies (taken_from j))) 0 p zero-le
                        (omega arith),
                  );
              sent_total_lem = ok.sent_total_lem;
              count_is = ok.count_is;
              step_le = zero-le;
            };
        items =
            items_keep tree limit b b' ev (grows tree limit b c v gr) (reach tree limit b i) (xs ++ ys)
            (less tree limit b i xs ys t e).1;
        below = i.below;
        covers = omega (arith, update_sum (λ n. n.tallies taken_all) b.nodes c v h, one_message, i.covers);
        covers_pairs =
            λ y z. omega (arith, more_hit b.taken_between a c y z, one_on y z, i.covers_pairs y z);
        balance =
            λ ll. omega (arith, update_sum (λ n. n.tallies taken_all) b.nodes c v h, one_message, i.balance ll);
        pairs = λ ll y z. omega (arith, more_hit b.taken_between a c y z, one_on y z, i.pairs ll y z);
        rows = λ y n z. refl;
        columns = λ z n y. more_other b.taken_between a c y z (inr n);
        sent_shells = i.sent_shells c h;
        taken_shells =
            λ k l. sum_ext (λ y. one_more b.taken_between a c y c)
            (update (λ y. b.taken_between y c) a (suc (b.taken_between a c))) (tree.low k c) (tree.size k c)
            (λ y m n. more_column b.taken_between a c y)
            ∙ pre_up (λ y. b.taken_between y c)
            (λ i. (b.nodes c).tallies (taken_from i)) k c a j l sl (i.taken_shells c h k l);
        small = i.small;
        busy_start = λ q. (refl, refl);
        quiet = λ q. absurd (omega arith);
        latest = la;
      })
    where
      t : Parcel
      t = record { from = a; to = c; load = message }

      v : State
      v = at_step (with_tallies (b.nodes c) busy (bump_taken (b.nodes c).tallies j)) 0 true 0

      b' : PhaseBoard
      b' = changed b c v (xs ++ ys) b.senders b.sent_between (one_more b.taken_between a c)

      ok : NodeOk tree limit b c (b.nodes c)
      ok = i.nodes_ok c h

      one_message : messages b.items ≡ suc (messages (xs ++ ys))
      one_message = rw e (omega (arith, messages_append xs (t ∷ ys), messages_append xs ys))

      one_on : (y z : ℕ) → messages_on y z b.items ≡ pick (on_link_lem y z t) 1 0 + messages_on y z (xs ++ ys)
      one_on y z = rw e (omega (arith, messages_on_append y z xs (t ∷ ys), messages_on_append y z xs ys))

      gr : (f : Entry) → (b.nodes c).tallies f ≤ bump_taken (b.nodes c).tallies j f
      gr (sent_to k) = omega arith
      gr (taken_from k) =
          update_all (λ i x. (b.nodes c).tallies (taken_from i) ≤ x)
          (λ i. (b.nodes c).tallies (taken_from i)) j (suc ((b.nodes c).tallies (taken_from j))) (omega arith)
          (λ i q. omega arith) k
      gr sent_all = omega arith
      gr taken_all = omega arith

      ev : Growth P (world b) (world b')
      ev = takes_one refl (λ y. grows tree limit b c v gr y taken_all) (omega (arith, one_message, i.covers))
