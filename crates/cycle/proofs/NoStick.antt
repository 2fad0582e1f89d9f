-- A board of one phase on which nobody is busy, nothing is under way to a node in the phase, and nobody would send, has
-- a node whose step agrees.
use mathlib.Core.Path.{◌≡◌, refl, sym, ap, ◌∙◌, subst}
use mathlib.Core.Logic.{◌⊎◌, inl, inr}
use mathlib.Core.Bool.{false}
use mathlib.Core.Option.{Option, none, some}
use mathlib.Core.List.{List, [], ◌∷◌}
use Prim.Native.Nat.{ℕ, zero, suc, ◌+◌, ◌-◌, ◌≤◌, ◌<◌, zero-le}
use native.Mathlib.Decide.{dec_le, dec_lt, ℕ_discrete}
use native.Mathlib.Omega.{arith}
use lib.ListN.{length}
use lib.Seq.{take_all}
use Rattle.cycle.proofs.Sums.{pick, sum, sum_at, sum_ext, sum_le, sum_split, sum_tight, sum_count, count}
use Rattle.cycle.proofs.FinalClaim.{Quiet, claim_le, firsts}
use Rattle.cycle.proofs.Tree.{Tree, meet_sum}
use Rattle.cycle.proofs.Growth.{total_taken, Claimed}
use Rattle.cycle.proofs.OwnSums.{Agreed}
use Rattle.cycle.proofs.Lists.{All, all_map}
use Rattle.cycle.proofs.Exact.{Entry, sent_to, taken_from, sent_all, taken_all, Entries, entry_of, own_sums, run_sum}
use Rattle.cycle.proofs.Exact.{sum_swap}
use Rattle.cycle.proofs.OnePhase.{Parcel, State, PhaseBoard, frame_of, dim_of, OnLink, Unheard, Agrees, alone}
use Rattle.cycle.proofs.OnePhase.{first, second, HasEntry}
use Rattle.cycle.proofs.Newest.{on_link_lem, latest_none}
use Rattle.cycle.proofs.Latest.{Stands}
use Rattle.cycle.proofs.AtRest.{least, dim_first, dim_second, exact_first, unstuck}
use Rattle.cycle.proofs.NodeOk.{world, confirmed_in, StoredOk, NodeOk, own_most, linear, agreed_of, second_ok_lem}
use Rattle.cycle.proofs.Messages.{is_message, messages, messages_on}
use Rattle.cycle.proofs.PhaseInvariant.{PhaseInvariant, reach}
use Rattle.cycle.proofs.PhaseKept.{closing}

-- ---- sums that are equal at the top are equal below

down : (own ex fk G : ℕ → ℕ) (p : ℕ) → ((k : ℕ) → k < p → own (suc k) ≡ own k + fk k)
    → ((k : ℕ) → k < p → ex (suc k) ≡ ex k + G k)
    → ((k : ℕ) → k ≤ p → own k ≤ ex k) → ((k : ℕ) → k < p → fk k ≤ G k) → own p ≡ ex p → (d k : ℕ) → d + k ≡ p
    → own k ≡ ex k
down own ex fk G p a b c e t zero k q = let z : k ≡ p = omega arith in rw z t
down own ex fk G p a b c e t (suc d) k q =
    let r = down own ex fk G p a b c e t d (suc k) (omega arith) in
    omega (arith, a k (omega arith), b k (omega arith), c k (omega arith), e k (omega arith))

sum_part : (f : ℕ → ℕ) (P low n : ℕ) → low + n ≤ P → sum f low n ≤ sum f 0 P
sum_part f P low n h =
    let e : P ≡ low + (n + (P - (low + n))) = omega arith in
    let z : 0 + low ≡ low = omega arith in
    let q = sum_split f 0 low (n + (P - (low + n))) in
    let q' : sum f 0 (low + (n + (P - (low + n)))) ≡ sum f 0 low + sum f low (n + (P - (low + n))) =
    subst (λ x. sum f 0 (low + (n + (P - (low + n)))) ≡ sum f 0 low + sum f x (n + (P - (low + n)))) z q in
    let r = sum_split f low n (P - (low + n)) in
    let s : sum f 0 P ≡ sum f 0 (low + (n + (P - (low + n)))) = ap (sum f 0) e in
    omega arith

-- a node that has come to t, or none
some_or_none : (g : ℕ → ℕ) (t P : ℕ) → ((w : ℕ) × ((w < P) × (t ≤ g w))) ⊎ ((w : ℕ) → w < P → g w < t)
some_or_none g t zero = inr (λ w l. absurd (omega arith))
some_or_none g t (suc P) = go (some_or_none g t P) (dec_le t (g P))
  where
    go : ((w : ℕ) × ((w < P) × (t ≤ g w))) ⊎ ((w : ℕ) → w < P → g w < t) → Dec (t ≤ g P)
        → ((w : ℕ) × ((w < suc P) × (t ≤ g w))) ⊎ ((w : ℕ) → w < suc P → g w < t)
    go (inl r) d = inl (r.0, (omega (arith, r.1.0), r.1.1))
    go (inr r) (yes d) = inl (P, (omega arith, d))
    go (inr r) (no d) = inr (λ w l. at w l (ℕ_discrete w P))
      where
        at : (w : ℕ) → w < suc P → Dec (w ≡ P) → g w < t
        at w l (yes e) = rw e (omega arith)
        at w l (no e) = r w (omega arith)

messages_on_le : (y z : ℕ) (is : List Parcel) → messages_on y z is ≤ messages is
messages_on_le y z [] = zero-le
messages_on_le y z (i ∷ is) = let r = messages_on_le y z is in let q = go (on_link_lem y z i) in omega arith
  where
    go : (d : Dec (OnLink y z i)) → pick {A = ℕ} d (is_message i.load) 0 ≤ is_message i.load
    go (yes d) = omega arith
    go (no d) = omega arith

no_messages : (is : List Parcel) → All (λ i. ⊥) is → messages is ≡ 0
no_messages [] h = refl
no_messages (i ∷ is) h = absurd h.0

module _ {P p : ℕ} (tree : Tree P p) (limit : ℕ) where
  in_board : (k a : ℕ) → a < P → tree.low k a + tree.size k a ≤ P
  in_board k a h =
      let s = tree.self k a h in
      let e = tree.same k a (tree.low k a + (tree.size k a - 1)) h (omega arith) in
      omega (arith, e.0)

  abbrev gap : (ℕ → ℕ) → ℕ → Option ℕ → ℕ
  gap g k none = 0
  gap g k (some u) = run_sum tree g k u

  widens : (g : ℕ → ℕ) (w : ℕ) → w < P → (k : ℕ) → k < p
      → run_sum tree g (suc k) w ≡ run_sum tree g k w + gap g k (tree.awaited k w)
  widens g w h k l = go (tree.awaited k w) refl
    where
      go : (o : Option ℕ) → tree.awaited k w ≡ o → run_sum tree g (suc k) w ≡ run_sum tree g k w + gap g k o
      go none e = let al = tree.alone k w l h e in rw (al.0, al.1) (omega arith)
      go (some u) e = meet_sum tree.low tree.size k w u g (tree.meet k w u l h e)

  top : (g : ℕ → ℕ) (w : ℕ) → w < P → run_sum tree g p w ≡ sum g 0 P
  top g w h = rw (tree.low_top w h, tree.size_top w h) refl

  -- ---- a node that has left: its sums are exact

  module _ (b : PhaseBoard) (i : PhaseInvariant tree limit b) (w : ℕ) (h : w < P)
      (gone : p + p ≤ (b.nodes w).step) where
    abbrev v : State
    v = b.nodes w

    ok : NodeOk tree limit b w v
    ok = i.nodes_ok w h

    q : Quiet b.senders (total_taken P (world b)) P (world b).done (b.nodes w).agreed
    q = i.quiet w h gone

    all_count : sum (λ y. (b.nodes y).tallies sent_all) 0 P ≡ length b.senders
    all_count =
        sum_ext (λ y. (b.nodes y).tallies sent_all) (λ y. count y b.senders) 0 P
        (λ y k l. (i.nodes_ok y (omega arith)).count_is) ∙ sum_count P b.senders i.below

    kept_gap : (f : Entry) → HasEntry p f → (k : ℕ) → k < p → (o : Option ℕ) (s : Option Entries)
        → StoredOk tree limit b k o s → entry_of s f ≤ gap (λ y. (b.nodes y).tallies f) k o
    kept_gap f u k l none none x = omega arith
    kept_gap f u k l none (some z) x = absurd x
    kept_gap f u k l (some y) none x = zero-le
    kept_gap f u k l (some y) (some z) x = (x.in_first l).le f u

    tight : (f : Entry) → HasEntry p f → own_sums v.tallies v.stored p f ≡ sum (λ y. (b.nodes y).tallies f) 0 P
        → (k : ℕ) → k ≤ p → own_sums v.tallies v.stored k f ≡ run_sum tree (λ y. (b.nodes y).tallies f) k w
    tight f u t k l =
        down (λ k. own_sums v.tallies v.stored k f) (λ k. run_sum tree (λ y. (b.nodes y).tallies f) k w)
        (λ k. entry_of (v.stored k) f) (λ k. gap (λ y. (b.nodes y).tallies f) k (tree.awaited k w)) p
        (λ k l. refl) (λ k l. widens (λ y. (b.nodes y).tallies f) w h k l)
        (λ k l. own_most tree limit b w v h ok refl f u k l)
        (λ k l. kept_gap f u k l (tree.awaited k w) (v.stored k)
        (rw (dim_first p k l) at (ok.stored_ok k (omega arith)))) (t ∙ sym (top (λ y. (b.nodes y).tallies f) w h))
        (p - k) k (omega arith)

    all_taken_sum : own_sums v.tallies v.stored p taken_all ≡ sum (λ y. (b.nodes y).tallies taken_all) 0 P
    all_taken_sum = sym (ok.agreed_is (omega arith)) ∙ sym q.all_taken_lem

    evened : (k : ℕ) (o : Option ℕ) → (o ≡ none → ⊥) → suc k ≡ p → Agrees p limit v k o
        → own_sums v.tallies v.stored (suc k) sent_all ≡ own_sums v.tallies v.stored (suc k) taken_all
    evened k o n e alone = absurd (n refl)
    evened k o n e (first u x l g c1 c2 c3 c4) =
        let s : entry_of (v.stored k) sent_all ≡ x sent_all = rw g refl in
        let t : entry_of (v.stored k) taken_all ≡ x taken_all = rw g refl in
        omega (arith, c4 e)
    evened k o n e (second u x l g c3 c5 c6) = absurd (omega arith)

    all_sent_sum : own_sums v.tallies v.stored p sent_all ≡ sum (λ y. (b.nodes y).tallies sent_all) 0 P
    all_sent_sum =
        let k = p - 1 in
        let e : suc k ≡ p = omega arith in
        let a : Agrees p limit v k (tree.awaited k w) =
        rw (dim_first p k (omega arith)) at (ok.agrees k (omega arith)) in
        let z = subst (λ n. own_sums v.tallies v.stored n sent_all ≡ own_sums v.tallies v.stored n taken_all) e
        (evened k (tree.awaited k w) (tree.not_last k w h e) e a) in
        omega (arith, z, all_taken_sum, all_count, q.all_sent_lem, q.all_taken_lem)

    -- a total that is exact, from shells each of which is at most exact
    shells : (c : ℕ → Entry) (t : Entry) → ((j : ℕ) → j < p → HasEntry p (c j)) → (k : ℕ) → k ≤ p
        → own_sums v.tallies v.stored k t ≡ sum (λ j. own_sums v.tallies v.stored k (c j)) 0 p
        → ((y : ℕ) → y < P → (b.nodes y).tallies t ≡ sum (λ j. (b.nodes y).tallies (c j)) 0 p)
        → own_sums v.tallies v.stored k t ≡ run_sum tree (λ y. (b.nodes y).tallies t) k w
        → (j : ℕ) → j < p → own_sums v.tallies v.stored k (c j) ≡ run_sum tree (λ y. (b.nodes y).tallies (c j)) k w
    shells c t okc k l lin each tot j jp =
        sym (sum_tight (λ j. own_sums v.tallies v.stored k (c j))
        (λ j. run_sum tree (λ y. (b.nodes y).tallies (c j)) k w) 0 p
        (λ j x y. own_most tree limit b w v h ok refl (c j) (okc j (omega arith)) k l)
        (omega (arith, lin, tot, swapped)) j zero-le (omega arith))
      where
        swapped : run_sum tree (λ y. (b.nodes y).tallies t) k w ≡ sum
            (λ j. run_sum tree (λ y. (b.nodes y).tallies (c j)) k w) 0 p
        swapped =
            sum_ext (λ y. (b.nodes y).tallies t)
            (λ y. sum (λ j. (b.nodes y).tallies (c j)) 0 p) (tree.low k w) (tree.size k w)
            (λ y x z. each y (omega (arith, in_board k w h)))
            ∙ sum_swap (λ y j. (b.nodes y).tallies (c j)) (tree.low k w) (tree.size k w) 0 p

    gone_first : (k : ℕ) → k ≤ p → (f : Entry) → HasEntry p f
        → own_sums v.tallies v.stored k f ≡ run_sum tree (λ y. (b.nodes y).tallies f) k w
    gone_first k l (sent_to j) u =
        shells sent_to sent_all (λ j x. x) k l (linear tree limit b w v ok k l).1
        (λ y x. (i.nodes_ok y x).sent_total_lem) (tight sent_all tt all_sent_sum k l) j u
    gone_first k l (taken_from j) u =
        shells taken_from taken_all (λ j x. x) k l (linear tree limit b w v ok k l).0
        (λ y x. (i.nodes_ok y x).taken_total_lem) (tight taken_all tt all_taken_sum k l) j u
    gone_first k l sent_all u = tight sent_all tt all_sent_sum k l
    gone_first k l taken_all u = tight taken_all tt all_taken_sum k l

    -- a pass 2 frame for a total that is all there is holds at least what its run sent
    at_least : (low n T x : ℕ) → low + n ≤ P → T ≡ length b.senders → Claimed P (world b) low n T x
        → sum (λ y. (b.nodes y).tallies sent_all) low n ≤ x
    at_least low n T x r t o =
        let e = sum_le (λ y. (b.nodes y).tallies sent_all) o.part low n
        (λ y j l. one y j l (claim_le b.senders (total_taken P (world b)) ((world b).done y) y (o.part y) T
        (o.claims y j l))) in
        omega (arith, o.adds)
      where
        one : (y : ℕ) → low ≤ y → y < low + n → firsts b.senders T y ≤ o.part y
            → (b.nodes y).tallies sent_all ≤ o.part y
        one y j l c =
            let z : firsts b.senders T y ≡ count y b.senders =
            ap (count y) (take_all T b.senders (omega arith)) in
            omega (arith, (i.nodes_ok y (omega arith)).count_is)

    agreed_all : (b.nodes w).agreed ≡ length b.senders
    agreed_all = sym q.all_sent_lem

    agreed_at : (k : ℕ) → k < p → Agreed tree v.agreed (tree.awaited k w) (confirmed_in (v.stored (p + k)))
    agreed_at k l =
        agreed_of tree limit v k (tree.awaited k w) (rw (dim_second p k) at (ok.agrees (p + k) (omega arith)))

    gap_second : (k : ℕ) → k < p → (o : Option ℕ) (s : Option Entries) → (tree.awaited k w ≡ o)
        → StoredOk tree limit b (p + k) o s → Agreed tree v.agreed o (confirmed_in s)
        → gap (λ y. (b.nodes y).tallies sent_all) k o ≤ entry_of s sent_all
    gap_second k l none none e x a = omega arith
    gap_second k l none (some z) e x a = absurd x
    gap_second k l (some u) none e x a = absurd a
    gap_second k l (some u) (some z) e x a =
        at_least (tree.low k u) (tree.size k u) (z taken_all) (z sent_all) (in_board k u (tree.below k w u l h e))
        (a ∙ agreed_all) (x.in_second k refl)

    closed : (k : ℕ) (o : Option ℕ) → (o ≡ none → ⊥) → suc k ≡ p → Agrees p limit v (p + k) o
        → own_sums v.tallies (λ i. v.stored (p + i)) (suc k) sent_all ≡ v.agreed
    closed k o n e a = closing tree limit v k o n e a

    gone_second : (k : ℕ) → k ≤ p → own_sums v.tallies (λ i. v.stored (p + i)) k sent_all ≡ run_sum tree
        (λ y. (b.nodes y).tallies sent_all) k w
    gone_second k l =
        sym (down (λ k. run_sum tree (λ y. (b.nodes y).tallies sent_all) k w)
        (λ k. own_sums v.tallies (λ i. v.stored (p + i)) k sent_all)
        (λ k. gap (λ y. (b.nodes y).tallies sent_all) k (tree.awaited k w)) (λ k. entry_of (v.stored (p + k)) sent_all) p
        (λ k l. widens (λ y. (b.nodes y).tallies sent_all) w h k l) (λ k l. refl)
        (λ k l. at_least (tree.low k w) (tree.size k w) v.agreed
        (own_sums v.tallies (λ i. v.stored (p + i)) k sent_all) (in_board k w h) agreed_all
        (second_ok_lem tree limit b w v h ok refl (reach tree limit b i) (q.all_idle w h) k l (omega arith)
        (λ j x. agreed_at j (omega arith))))
        (λ k l. gap_second k l (tree.awaited k w) (v.stored (p + k)) refl
        (rw (dim_second p k) at (ok.stored_ok (p + k) (omega arith))) (agreed_at k l))
        all_second (p - k) k (omega arith))
      where
        all_second : run_sum tree (λ y. (b.nodes y).tallies sent_all) p w ≡ own_sums v.tallies
            (λ i. v.stored (p + i)) p sent_all
        all_second =
            let k = p - 1 in
            let e : suc k ≡ p = omega arith in
            let z = subst (λ n. own_sums v.tallies (λ i. v.stored (p + i)) n sent_all ≡ v.agreed) e
            (closed k (tree.awaited k w) (tree.not_last k w h e) e
            (rw (dim_second p k) at (ok.agrees (p + k) (omega arith)))) in
            top (λ y. (b.nodes y).tallies sent_all) w h ∙ all_count ∙ sym agreed_all ∙ sym z

  -- ---- a board at rest

  module _ (b : PhaseBoard) (i : PhaseInvariant tree limit b) (whole : b.lossy ≡ false)
      (rest : (a : ℕ) → a < P → (b.nodes a).busy ≡ false)
      (nothing : All (λ t. (t.to < P) × (p + p ≤ (b.nodes t.to).step)) b.items)
      (nobody : (a : ℕ) → a < P → (b.nodes a).step < p + p
      → ((b.nodes a).flag ≡ false) ⊎ Unheard tree a (b.nodes a).step)
      (u : ℕ) (hu : u < P) (in-phase : (b.nodes u).step < p + p) where
    messages_none : messages b.items ≡ 0
    messages_none = go (some_or_none (λ y. (b.nodes y).step) (p + p) P)
      where
        go : ((w : ℕ) × ((w < P) × (p + p ≤ (b.nodes w).step))) ⊎ ((w : ℕ) → w < P → (b.nodes w).step < p + p)
            → messages b.items ≡ 0
        go (inl r) =
            let q = i.quiet r.0 r.1.0 r.1.1 in omega (arith, i.balance whole, q.all_sent_lem, q.all_taken_lem)
        go (inr r) =
            no_messages b.items (all_map (λ t. (t.to < P) × (p + p ≤ (b.nodes t.to).step)) (λ t. ⊥)
            (λ t h. omega (arith, r t.to h.0, h.1)) b.items nothing)

    the_least : (a : ℕ) × ((a < P) × ((y : ℕ) → y < P → (b.nodes a).step ≤ (b.nodes y).step))
    the_least = least (λ y. (b.nodes y).step) P (omega arith)

    abbrev a : ℕ
    a = the_least.0

    a<P : a < P
    a<P = the_least.1.0

    A<pp : (b.nodes a).step < p + p
    A<pp = omega (arith, the_least.1.1 u hu)

    stands : (w c s : ℕ) → w < P → c < P → s ≤ (b.nodes a).step → tree.awaited (dim_of p s) c ≡ some w
        → Stands (b.nodes w) s
    stands w c s hw hc l e = go (dec_lt s (b.nodes w).step)
      where
        go : Dec (s < (b.nodes w).step) → Stands (b.nodes w) s
        go (yes k) = inl k
        go (no k) = at (omega (arith, the_least.1.1 w hw)) (nobody w hw (omega (arith, A<pp)))
          where
            at : s ≡ (b.nodes w).step → ((b.nodes w).flag ≡ false) ⊎ Unheard tree w (b.nodes w).step
                → Stands (b.nodes w) s
            at q (inl f) = inr (q, f)
            at q (inr f) = absurd (f c hc (subst (λ s. tree.awaited (dim_of p s) c ≡ some w) q e))

    dim_lt : (s : ℕ) → s < p + p → dim_of p s < p
    dim_lt s l = go (dec_lt s p)
      where
        go : Dec (s < p) → dim_of p s < p
        go (yes k) = rw (dim_first p s k) k
        go (no k) =
            let q : s ≡ p + (s - p) = omega arith in
            let d : dim_of p s ≡ s - p = ap (dim_of p) q ∙ dim_second p (s - p) in
            rw d (omega arith)

    stored_is : (w c s : ℕ) → c < P → s ≤ (b.nodes a).step → (b.nodes c).step < p + p
        → tree.awaited (dim_of p s) c ≡ some w → (b.nodes c).stored s ≡ some (frame_of p (b.nodes w) s)
    stored_is w c s hc l m e =
        let hw = tree.below (dim_of p s) c w (dim_lt s (omega (arith, A<pp))) hc e in
        sym (latest_none s w c b.items ((b.nodes c).stored s)
        (all_map (λ t. (t.to < P) × (p + p ≤ (b.nodes t.to).step)) (λ t. OnLink w c t → ⊥)
        (λ t k o. let z : (b.nodes t.to).step ≡ (b.nodes c).step = ap (λ y. (b.nodes y).step) o.1 in
        omega (arith, k.1)) b.items nothing))
        ∙ i.latest whole w c s hc (omega (arith, A<pp)) e (stands w c s hw hc l e) m

    lone_none : (c s : ℕ) → c < P → s ≤ (b.nodes a).step → tree.awaited (dim_of p s) c ≡ none
        → (b.nodes c).stored s ≡ none
    lone_none c s hc l e =
        go ((b.nodes c).stored s) (subst
        (λ o. StoredOk tree limit b s o ((b.nodes c).stored s)) e ((i.nodes_ok c hc).stored_ok s (omega (arith, A<pp))))
      where
        go : (o : Option Entries) → StoredOk tree limit b s none o → o ≡ none
        go none x = refl
        go (some z) x = absurd x

    all_taken_between : (y z : ℕ) → b.taken_between y z ≡ b.sent_between y z
    all_taken_between y z = omega (arith, i.pairs whole y z, messages_on_le y z b.items, messages_none)

    counted : sum (λ y. (b.nodes y).tallies sent_all) 0 P ≡ length b.senders
    counted =
        sum_ext (λ y. (b.nodes y).tallies sent_all) (λ y. count y b.senders) 0 P
        (λ y k l. (i.nodes_ok y (omega arith)).count_is) ∙ sum_count P b.senders i.below

    all_small : (f : Entry) → HasEntry p f → sum (λ y. (b.nodes y).tallies f) 0 P ≤ limit
    all_small (sent_to j) x =
        let e = sum_le (λ y. (b.nodes y).tallies (sent_to j)) (λ y. (b.nodes y).tallies sent_all) 0 P
        (λ y k l. omega (
          arith,
          (i.nodes_ok y (omega arith)).sent_total_lem,
          sum_at
              (λ j. (b.nodes y).tallies (sent_to j)) p j x,
        )) in
        omega (arith, counted, i.small)
    all_small (taken_from j) x =
        let e = sum_le (λ y. (b.nodes y).tallies (taken_from j)) (λ y. (b.nodes y).tallies taken_all) 0 P
        (λ y k l. omega (
          arith,
          (i.nodes_ok y (omega arith)).taken_total_lem,
          sum_at
              (λ j. (b.nodes y).tallies (taken_from j)) p j x,
        )) in
        omega (arith, reach tree limit b i, i.small)
    all_small sent_all x = omega (arith, counted, i.small)
    all_small taken_all x = omega (arith, reach tree limit b i, i.small)

    agreed_R : (w : ℕ) → w < P → p ≤ (b.nodes a).step → (b.nodes w).agreed ≡ total_taken P (world b)
    agreed_R w hw l = go (dec_lt (b.nodes w).step (p + p))
      where
        go : Dec ((b.nodes w).step < p + p) → (b.nodes w).agreed ≡ total_taken P (world b)
        go (no m) = sym (i.quiet w hw (omega arith)).all_taken_lem
        go (yes m) =
            (i.nodes_ok w hw).agreed_is (omega (arith, the_least.1.1 w hw))
            ∙ exact_first tree b.nodes (b.nodes a).step stored_is lone_none (gone_first b i) (gone_second b i) p p
            (omega arith)
            (omega arith) (omega arith) w hw taken_all tt
            ∙ top (λ y. (b.nodes y).tallies taken_all) w hw

    -- NO STICK: some node in the phase agrees, so it would move or leave on a barrier call
    pub no_stick : (a : ℕ) × ((a < P) × (((b.nodes a).step < p + p) × Agrees p limit (b.nodes a) (b.nodes a).step
        (tree.awaited (dim_of p (b.nodes a).step) a)))
    no_stick = (
      a,
      (
        a<P,
        (
          A<pp,
          unstuck tree b.nodes (b.nodes a).step stored_is lone_none (gone_first b i) (gone_second b i)
              b.sent_between
              i.sent_shells
              (λ z hz k l. sum_ext (λ y. b.sent_between y z) (λ y. b.taken_between y z) (tree.low k z) (tree.size k z)
              (λ y m n. sym (all_taken_between y z)) ∙ i.taken_shells z hz k l)
              limit (total_taken P (world b))
              (λ f x k c l hc. omega (
                arith,
                sum_part
                    (λ y. (b.nodes y).tallies f) P (tree.low k c) (tree.size k c) (in_board k c hc),
                all_small f x,
              ))
              (omega (arith, counted, i.balance whole, messages_none)) refl agreed_R a a<P refl A<pp,
        ),
      ),
    )
