-- A board at rest: nobody busy, nothing under way to a node still in the phase, nobody with a frame to send. Then all
-- sums are exact as far as everybody has come, and the step of the node that is least far agrees.
use mathlib.Core.Path.{◌≡◌, refl, sym, ap, ◌∙◌}
use mathlib.Core.Option.{Option, none, some}
use Prim.Native.Nat.{ℕ, zero, suc, ◌+◌, ◌-◌, ◌≤◌, ◌<◌}
use native.Mathlib.Decide.{dec_le, dec_lt, ℕ_discrete}
use native.Mathlib.Omega.{arith}
use Rattle.cycle.proofs.Sums.{pick, sum}
use Rattle.cycle.proofs.Tree.{Tree, Meet, meet_sum}
use Rattle.cycle.proofs.Exact.{Entry, sent_to, taken_from, sent_all, taken_all, Entries, own_sums, run_sum, Exact}
use Rattle.cycle.proofs.Exact.{own_exact, back, other, across}
use Rattle.cycle.proofs.OnePhase.{State, confirming, frame_of, dim_of, Agrees, alone, first, second, HasEntry}
use Rattle.cycle.proofs.OnePhase.{above_ok}

-- ---- the least of the first P

pub least : (g : ℕ → ℕ) (P : ℕ) → 0 < P → (a : ℕ) × ((a < P) × ((y : ℕ) → y < P → g a ≤ g y))
least g zero h = absurd (omega arith)
least g (suc zero) h = (0, (omega arith, λ y l. let e : y ≡ 0 = omega arith in rw e (omega arith)))
least g (suc (suc P)) h = pick (least g (suc P) (omega arith))
  where
    pick : (a : ℕ) × ((a < suc P) × ((y : ℕ) → y < suc P → g a ≤ g y))
        → (a : ℕ) × ((a < suc (suc P)) × ((y : ℕ) → y < suc (suc P) → g a ≤ g y))
    pick r = go (dec_le (g r.0) (g (suc P)))
      where
        at : (a : ℕ) → g a ≤ g (suc P) → ((y : ℕ) → y < suc P → g a ≤ g y) → (y : ℕ) → y < suc (suc P) → g a ≤ g y
        at a l m y k = go (ℕ_discrete y (suc P))
          where
            go : Dec (y ≡ suc P) → g a ≤ g y
            go (yes e) = rw e l
            go (no n) = m y (omega arith)

        go : Dec (g r.0 ≤ g (suc P)) → (a : ℕ) × ((a < suc (suc P)) × ((y : ℕ) → y < suc (suc P) → g a ≤ g y))
        go (yes l) = (r.0, (omega (arith, r.1.0), at r.0 l r.1.1))
        go (no l) = (suc P, (omega arith, at (suc P) (omega arith) (λ y k. omega (arith, r.1.1 y k))))

pub frame_first : (p : ℕ) (v : State) (s : ℕ) → s < p → frame_of p v s ≡ own_sums v.tallies v.stored s
frame_first p v s l = go (dec_lt s p)
  where
    go : (d : Dec (s < p)) → pick d (own_sums v.tallies v.stored s)
        (confirming v.agreed (own_sums v.tallies (λ i. v.stored (p + i)) (s - p) sent_all)) ≡ own_sums v.tallies
        v.stored s
    go (yes k) = refl
    go (no k) = absurd (k l)

pub frame_second : (p : ℕ) (v : State) (k : ℕ)
    → frame_of p v (p + k) ≡ confirming v.agreed (own_sums v.tallies (λ i. v.stored (p + i)) k sent_all)
frame_second p v k = go (dec_lt (p + k) p)
  where
    e : p + k - p ≡ k
    e = omega arith

    go : (d : Dec (p + k < p)) → pick d (own_sums v.tallies v.stored (p + k))
        (confirming v.agreed (own_sums v.tallies (λ i. v.stored (p + i)) (p + k - p) sent_all)) ≡ confirming
        v.agreed (own_sums v.tallies (λ i. v.stored (p + i)) k sent_all)
    go (yes q) = absurd (omega arith)
    go (no q) = rw e refl

pub dim_first : (p s : ℕ) → s < p → dim_of p s ≡ s
dim_first p s l = go (dec_lt s p)
  where
    go : (d : Dec (s < p)) → pick d s (s - p) ≡ s
    go (yes k) = refl
    go (no k) = absurd (k l)

pub dim_second : (p k : ℕ) → dim_of p (p + k) ≡ k
dim_second p k = go (dec_lt (p + k) p)
  where
    go : (d : Dec (p + k < p)) → pick d (p + k) (p + k - p) ≡ k
    go (yes q) = absurd (omega arith)
    go (no q) = omega arith

module _ {P p : ℕ} (tree : Tree P p) (nodes : ℕ → State) (A : ℕ)
    (stored_is : (w c s : ℕ) → c < P → s ≤ A → (nodes c).step < p + p → tree.awaited (dim_of p s) c ≡ some w
    → (nodes c).stored s ≡ some (frame_of p (nodes w) s))
    (lone_none : (c s : ℕ) → c < P → s ≤ A → tree.awaited (dim_of p s) c ≡ none → (nodes c).stored s ≡ none)
    (gone_first : (w : ℕ) → w < P → p + p ≤ (nodes w).step → (k : ℕ) → k ≤ p → (f : Entry) → HasEntry p f
    → own_sums (nodes w).tallies (nodes w).stored k f ≡ run_sum tree (λ y. (nodes y).tallies f) k w)
    (gone_second : (w : ℕ) → w < P → p + p ≤ (nodes w).step → (k : ℕ) → k ≤ p
    → own_sums (nodes w).tallies (λ i. (nodes w).stored (p + i)) k sent_all ≡ run_sum tree
    (λ y. (nodes y).tallies sent_all) k w) where
  tal : ℕ → Entries
  tal y = (nodes y).tallies

  -- ---- all sums are exact, as far as everybody has come

  pub exact_first : (K k : ℕ) → k ≤ K → k ≤ suc A → k ≤ p → (w : ℕ) → w < P → (f : Entry) → HasEntry p f
      → own_sums (nodes w).tallies (nodes w).stored k f ≡ run_sum tree (λ y. (nodes y).tallies f) k w
  exact_first zero k a b c w h f v =
      own_exact tree (λ y. (nodes y).tallies) f w (nodes w).stored h k c (λ i l. absurd (omega arith))
  exact_first (suc K) k a b c w h f v =
      by (λ i l u hu. exact_first K i (omega arith) (omega arith) (omega arith) u hu f v)
      (dec_lt (nodes w).step (p + p))
    where
      Below_k : Type 0
      Below_k =
          (i : ℕ) → i < k → (u : ℕ) → u < P
          → own_sums (nodes u).tallies (nodes u).stored i f ≡ run_sum tree (λ y. (nodes y).tallies f) i u

      here : Below_k → (i : ℕ) → i < k → (nodes w).step < p + p → (o : Option ℕ) → tree.awaited i w ≡ o
          → Exact tree (λ y. (nodes y).tallies) f i o ((nodes w).stored i)
      here ih i l m none e = rw (lone_none w i h (omega arith) (rw (dim_first p i (omega arith)) e)) tt
      here ih i l m (some u) e =
          rw (
            stored_is u w i h (omega arith) m (rw (dim_first p i (omega arith)) e),
            frame_first p (nodes u) i (omega arith),
          ) (ih i l u (tree.below i w u (omega arith) h e))

      by : Below_k → Dec ((nodes w).step < p + p)
          → own_sums (nodes w).tallies (nodes w).stored k f ≡ run_sum tree (λ y. (nodes y).tallies f) k w
      by ih (yes m) =
          own_exact tree (λ y. (nodes y).tallies) f w (nodes w).stored h k c
          (λ i l. here ih i l m (tree.awaited i w) refl)
      by ih (no m) = gone_first w h (omega arith) k c f v

  exact_second : (K k : ℕ) → k ≤ K → p + k ≤ suc A → k ≤ p → (w : ℕ) → w < P
      → own_sums (nodes w).tallies (λ i. (nodes w).stored (p + i)) k sent_all ≡ run_sum tree
      (λ y. (nodes y).tallies sent_all) k w
  exact_second zero k a b c w h =
      own_exact tree (λ y. (nodes y).tallies) sent_all w (λ i. (nodes w).stored (p + i)) h k c
      (λ i l. absurd (omega arith))
  exact_second (suc K) k a b c w h =
      by (λ i l u hu. exact_second K i (omega arith) (omega arith) (omega arith) u hu) (dec_lt (nodes w).step (p + p))
    where
      Below_k : Type 0
      Below_k =
          (i : ℕ) → i < k → (u : ℕ) → u < P
          → own_sums (nodes u).tallies (λ i. (nodes u).stored (p + i)) i sent_all ≡ run_sum tree
          (λ y. (nodes y).tallies sent_all) i u

      here : Below_k → (i : ℕ) → i < k → (nodes w).step < p + p → (o : Option ℕ) → tree.awaited i w ≡ o
          → Exact tree (λ y. (nodes y).tallies) sent_all i o ((nodes w).stored (p + i))
      here ih i l m none e = rw (lone_none w (p + i) h (omega arith) (rw (dim_second p i) e)) tt
      here ih i l m (some u) e =
          rw (stored_is u w (p + i) h (omega arith) m (rw (dim_second p i) e), frame_second p (nodes u) i)
          (ih i l u (tree.below i w u (omega arith) h e))

      by : Below_k → Dec ((nodes w).step < p + p)
          → own_sums (nodes w).tallies (λ i. (nodes w).stored (p + i)) k sent_all ≡ run_sum tree
          (λ y. (nodes y).tallies sent_all) k w
      by ih (yes m) =
          own_exact tree (λ y. (nodes y).tallies) sent_all w (λ i. (nodes w).stored (p + i)) h k c
          (λ i l. here ih i l m (tree.awaited i w) refl)
      by ih (no m) = gone_second w h (omega arith) k c

  -- ---- the node that is least far

  module _ (m : ℕ → ℕ → ℕ)
      (sent_shells : (y : ℕ) → y < P → (k : ℕ) → k ≤ p
      → run_sum tree (m y) k y ≡ sum (λ j. (nodes y).tallies (sent_to j)) 0 k)
      (taken_shells : (z : ℕ) → z < P → (k : ℕ) → k ≤ p
      → run_sum tree (λ y. m y z) k z ≡ sum (λ j. (nodes z).tallies (taken_from j)) 0 k)
      (limit R : ℕ) (small : (f : Entry) → HasEntry p f → (k b : ℕ) → k ≤ p → b < P
      → run_sum tree (λ y. (nodes y).tallies f) k b ≤ limit)
      (sent-R : sum (λ y. (nodes y).tallies sent_all) 0 P ≡ R) (taken-R : sum (λ y. (nodes y).tallies taken_all) 0 P ≡ R)
      (agreed_R : (w : ℕ) → w < P → p ≤ A → (nodes w).agreed ≡ R)
      (a : ℕ) (h : a < P) (at-A : (nodes a).step ≡ A) (in-phase : A < p + p) where
    tops : (f : Entry) → run_sum tree (λ y. (nodes y).tallies f) p a ≡ sum (λ y. (nodes y).tallies f) 0 P
    tops f = rw (tree.low_top a h, tree.size_top a h) refl

    agree_first : A < p → (w : ℕ) → tree.awaited A a ≡ some w → Agrees p limit (nodes a) A (some w)
    agree_first l w e =
        first w (own_sums (nodes w).tallies (nodes w).stored A) l got
        (own (sent_to A) l ∙ across tree m (λ y j. (nodes y).tallies (sent_to j))
        (λ z j. (nodes z).tallies (taken_from j)) sent_shells taken_shells A a w l h hw mt ∙ sym (his (taken_from A) l))
        (own (taken_from A) l ∙ sym (across tree m (λ y j. (nodes y).tallies (sent_to j))
        (λ z j. (nodes z).tallies (taken_from j)) sent_shells taken_shells A w a l hw h bk) ∙ sym (his (sent_to A) l))
        (λ f u. let v = above_ok A p f u in
        omega (
          arith,
          own f v,
          his f v,
          meet_sum tree.low tree.size A a w
              (λ y. (nodes y).tallies f) mt,
          small f v (suc A) a (omega arith) h,
        )) (λ last. omega (
          arith,
          own sent_all tt,
          his sent_all tt,
          own taken_all tt,
          his taken_all tt,
          whole last sent_all,
          whole last taken_all,
        ))
      where
        hw : w < P
        hw = tree.below A a w l h e

        mt : Meet tree.low tree.size A a w
        mt = tree.meet A a w l h e

        bk : Meet tree.low tree.size A w a
        bk = back tree A a w mt (tree.same (suc A) a w h (other tree A a w w mt (tree.self A w hw)))

        own : (f : Entry) → HasEntry p f
            → own_sums (nodes a).tallies (nodes a).stored A f ≡ run_sum tree (λ y. (nodes y).tallies f) A a
        own f v = exact_first A A (omega arith) (omega arith) (omega arith) a h f v

        his : (f : Entry) → HasEntry p f
            → own_sums (nodes w).tallies (nodes w).stored A f ≡ run_sum tree (λ y. (nodes y).tallies f) A w
        his f v = exact_first A A (omega arith) (omega arith) (omega arith) w hw f v

        got : (nodes a).stored A ≡ some (own_sums (nodes w).tallies (nodes w).stored A)
        got =
            stored_is w a A h (omega arith) (omega arith) (rw (dim_first p A l) e)
            ∙ ap some (frame_first p (nodes w) A l)

        whole : suc A ≡ p → (f : Entry)
            → run_sum tree (λ y. (nodes y).tallies f) A a + run_sum tree (λ y. (nodes y).tallies f) A w ≡ sum
            (λ y. (nodes y).tallies f) 0 P
        whole last f = sym (meet_sum tree.low tree.size A a w (λ y. (nodes y).tallies f) mt) ∙ rw last (tops f)

    agree_second : (k : ℕ) → A ≡ p + k → (w : ℕ) → tree.awaited k a ≡ some w → Agrees p limit (nodes a) A (some w)
    agree_second k q w e =
        second w (confirming (nodes w).agreed (own_sums (nodes w).tallies (λ i. (nodes w).stored (p + i)) k sent_all))
        (omega arith) got
        (rw k_is (omega (
          arith,
          own,
          his,
          meet_sum tree.low tree.size k a w
              (λ y. (nodes y).tallies sent_all) mt,
          small sent_all tt (suc k) a (omega arith) h,
        ))) (agreed_R w hw (omega arith) ∙ sym (agreed_R a h (omega arith)))
        (λ last. rw k_is (omega (arith, own, his, whole (omega arith), agreed_R a h (omega arith))))
      where
        k_is : A - p ≡ k
        k_is = omega arith

        hw : w < P
        hw = tree.below k a w (omega arith) h e

        mt : Meet tree.low tree.size k a w
        mt = tree.meet k a w (omega arith) h e

        own : own_sums (nodes a).tallies (λ i. (nodes a).stored (p + i)) k sent_all ≡ run_sum tree
            (λ y. (nodes y).tallies sent_all) k a
        own = exact_second k k (omega arith) (omega arith) (omega arith) a h

        his : own_sums (nodes w).tallies (λ i. (nodes w).stored (p + i)) k sent_all ≡ run_sum tree
            (λ y. (nodes y).tallies sent_all) k w
        his = exact_second k k (omega arith) (omega arith) (omega arith) w hw

        got : (nodes a).stored A ≡ some
            (confirming (nodes w).agreed (own_sums (nodes w).tallies (λ i. (nodes w).stored (p + i)) k sent_all))
        got =
            rw q (stored_is w a (p + k) h (omega arith) (omega arith) (rw (dim_second p k) e)
            ∙ ap some (frame_second p (nodes w) k))

        whole : suc k ≡ p → run_sum tree (λ y. (nodes y).tallies sent_all) k a + run_sum tree
            (λ y. (nodes y).tallies sent_all) k w ≡ sum (λ y. (nodes y).tallies sent_all) 0 P
        whole last =
            sym (meet_sum tree.low tree.size k a w (λ y. (nodes y).tallies sent_all) mt) ∙ rw last (tops sent_all)

    -- the step at which the least far stands agrees
    pub unstuck : Agrees p limit (nodes a) A (tree.awaited (dim_of p A) a)
    unstuck = go (dec_lt A p)
      where
        go1 : (l : A < p) (o : Option ℕ) → tree.awaited A a ≡ o → Agrees p limit (nodes a) A o
        go1 l none e = alone
        go1 l (some w) e = agree_first l w e

        go2 : (k : ℕ) → A ≡ p + k → (o : Option ℕ) → tree.awaited k a ≡ o → Agrees p limit (nodes a) A o
        go2 k q none e = alone
        go2 k q (some w) e = agree_second k q w e

        go : Dec (A < p) → Agrees p limit (nodes a) A (tree.awaited (dim_of p A) a)
        go (yes l) = rw (dim_first p A l) (go1 l (tree.awaited A a) refl)
        go (no l) =
            let q : A ≡ p + (A - p) = omega arith in
            let d : dim_of p A ≡ A - p = ap (dim_of p) q ∙ dim_second p (A - p) in
            rw d (go2 (A - p) q (tree.awaited (A - p) a) refl)
