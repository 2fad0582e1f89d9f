-- Why what a node puts into a frame is right: its own sums, by the frames that it has stored.
use mathlib.Core.Path.{◌≡◌, refl, sym, ap}
use mathlib.Core.Option.{Option, none, some}
use mathlib.Core.List.{List, [], ◌∷◌, ◌++◌}
use Prim.Native.Nat.{ℕ, zero, suc, ◌+◌, ◌≤◌, ◌<◌}
use native.Mathlib.Nat.{add-zero}
use native.Mathlib.Decide.{dec_lt}
use native.Mathlib.Omega.{arith}
use lib.ListN.{length, take, drop, get_or, take-append-drop}
use lib.Seq.{take-suc}
use Rattle.cycle.proofs.Sums.{sum, sum_ext, count, count_append, update_same, inside, patch, patch_in, patch_out}
use Rattle.cycle.proofs.FinalClaim.{Claim, over, quiet, later, firsts}
use Rattle.cycle.proofs.Tree.{Tree, Meet, meet_sum, meet_in, meet_apart}
use Rattle.cycle.proofs.Growth.{Course, total_taken, Claims, AtMost, Claimed}

-- ---- a claim is made

count_take_le : (y n : ℕ) (l : List ℕ) → count y (take n l) ≤ count y l
count_take_le y n l =
    let e : count y l ≡ count y (take n l ++ drop n l) = ap (count y) (sym (take-append-drop n l)) in
    omega (arith, count_append y (take n l) (drop n l))

next_counts : (y n : ℕ) (l : List ℕ) → n < length l → get_or l n 0 ≡ y → suc (count y (take n l)) ≤ count y l
next_counts y n l h e =
    let a = count_take_le y (suc n) l in
    let b : count y (take (suc n) l) ≡ count y (take n l ++ (y ∷ [])) = rw (take-suc l n 0 h, e) refl in
    omega (arith, count_append y (take n l) (y ∷ []), update_same {A = ℕ} (λ j. 0) y 1)

claim_make : (l : List ℕ) (R : ℕ) (Q : Type 0) (y T : ℕ) → T ≤ R → R ≤ length l → Q → Claim l R Q y (count y l) T
claim_make l R Q y T a b q = go (dec_lt (firsts l T y) (count y l)) (dec_lt T (length l))
  where
    go : Dec (firsts l T y < count y l) → Dec (T < length l) → Claim l R Q y (count y l) T
    go (yes h) d = over h
    go (no h) (yes k) = later (omega (arith, count_take_le y T l)) k (λ e. h (next_counts y T l k e))
    go (no h) (no k) = quiet (omega (arith, count_take_le y T l)) (omega arith) (omega arith) q

-- ---- own sums

-- what a frame of pass 2 says: T, and total sent
pub record Confirmed : Type 0 where
  pub agreed : ℕ
  pub issued : ℕ

abbrev pub first_number : Option ℕ → ℕ
first_number none = 0
first_number (some x) = x

abbrev pub second_number : Option Confirmed → ℕ
second_number none = 0
second_number (some f) = f.issued

abbrev pub first_sum : ℕ → (ℕ → Option ℕ) → ℕ → ℕ
first_sum base st zero = base
first_sum base st (suc k) = first_sum base st k + first_number (st k)

abbrev pub second_sum : ℕ → (ℕ → Option Confirmed) → ℕ → ℕ
second_sum base st zero = base
second_sum base st (suc k) = second_sum base st k + second_number (st k)

module _ {P p : ℕ} (tree : Tree P p) where
  -- what is stored for step k (o) of a node that awaits a there
  abbrev pub FirstStored : Course → ℕ → Option ℕ → Option ℕ → Type 0
  FirstStored w k a none = Unit {0}
  FirstStored w k none (some x) = ⊥
  FirstStored w k (some v) (some x) = AtMost w (tree.low k v) (tree.size k v) x

  abbrev pub SecondStored : Course → ℕ → Option ℕ → Option Confirmed → Type 0
  SecondStored w k a none = Unit {0}
  SecondStored w k none (some x) = ⊥
  SecondStored w k (some v) (some x) = Claimed P w (tree.low k v) (tree.size k v) x.agreed x.issued

  -- a step that agreed: the frame is there, with the same total
  abbrev pub Agreed : ℕ → Option ℕ → Option Confirmed → Type 0
  Agreed T none o = Unit {0}
  Agreed T (some v) none = ⊥
  Agreed T (some v) (some x) = x.agreed ≡ T

  pub first_sum_ok : (w : Course) (a base : ℕ) (st : ℕ → Option ℕ) → a < P → base ≤ w.taken a
      → ((k : ℕ) → k < p → FirstStored w k (tree.awaited k a) (st k))
      → (k : ℕ) → k ≤ p → AtMost w (tree.low k a) (tree.size k a) (first_sum base st k)
  first_sum_ok w a base st h b ok zero l = rw (tree.low_zero a h, tree.size_zero a h, add-zero) (omega arith)
  first_sum_ok w a base st h b ok (suc k) l =
      go (tree.awaited k a) (st k) refl (ok k (omega arith)) (first_sum_ok w a base st h b ok k (omega arith))
    where
      go : (o : Option ℕ) (s : Option ℕ) → tree.awaited k a ≡ o → FirstStored w k o s
          → first_sum base st k ≤ sum w.taken (tree.low k a) (tree.size k a)
          → first_sum base st k + first_number s ≤ sum w.taken (tree.low (suc k) a) (tree.size (suc k) a)
      go none none e t ih = let al = tree.alone k a (omega arith) h e in rw (al.0, al.1) (omega arith)
      go none (some x) e t ih = absurd t
      go (some v) none e t ih =
          let m = meet_sum tree.low tree.size k a v w.taken (tree.meet k a v (omega arith) h e) in omega arith
      go (some v) (some x) e t ih =
          let m = meet_sum tree.low tree.size k a v w.taken (tree.meet k a v (omega arith) h e) in omega arith

  alone_ok : (w : Course) (k a T x x' : ℕ)
      → (tree.low (suc k) a ≡ tree.low k a) × (tree.size (suc k) a ≡ tree.size k a) → x ≡ x'
      → Claimed P w (tree.low k a) (tree.size k a) T x → Claimed P w (tree.low (suc k) a) (tree.size (suc k) a) T x'
  alone_ok w k a T x x' al e h = rw (al.0, al.1, ← e) h

  join_ok : (w : Course) (k a v T x x' : ℕ) → Meet tree.low tree.size k a v
      → Claimed P w (tree.low k a) (tree.size k a) T x → Claimed P w (tree.low k v) (tree.size k v) T x'
      → Claimed P w (tree.low (suc k) a) (tree.size (suc k) a) T (x + x')
  join_ok w k a v T x x' m h h' = record { in_reach = h.in_reach; part = s; adds = adds'; claims = claims' }
    where
      s : ℕ → ℕ
      s = patch h'.part (tree.low k v) (tree.size k v) h.part

      adds' : x + x' ≡ sum s (tree.low (suc k) a) (tree.size (suc k) a)
      adds' =
          let e = meet_sum tree.low tree.size k a v s m in
          let f = sum_ext s h'.part (tree.low k v) (tree.size k v)
          (λ i b c. patch_in h'.part (tree.low k v) (tree.size k v) h.part i b c) in
          let g = sum_ext s h.part (tree.low k a) (tree.size k a)
          (λ i b c. patch_out h'.part (tree.low k v) (tree.size k v) h.part i
          (meet_apart tree.low tree.size k a v i m b c)) in
          omega (arith, h.adds, h'.adds)

      claims' : (y : ℕ) → tree.low (suc k) a ≤ y → y < tree.low (suc k) a + tree.size (suc k) a
          → Claims P w y (s y) T
      claims' y b c = go (inside (tree.low k v) (tree.size k v) y)
        where
          go : Dec ((tree.low k v ≤ y) × (y < tree.low k v + tree.size k v)) → Claims P w y (s y) T
          go (yes q) =
              rw (patch_in h'.part (tree.low k v) (tree.size k v) h.part y q.0 q.1)
              (h'.claims y q.0 q.1)
          go (no q) =
              let r = meet_in tree.low tree.size k a v y m b c q in
              rw (patch_out h'.part (tree.low k v) (tree.size k v) h.part y q) (h.claims y r.0 r.1)

  pub second_sum_ok : (w : Course) (a base T : ℕ) (st : ℕ → Option Confirmed) → a < P → base ≡ count a w.senders
      → T ≤ total_taken P w → total_taken P w ≤ length w.senders → w.done a
      → ((k : ℕ) → k < p → SecondStored w k (tree.awaited k a) (st k))
      → (k : ℕ) → k ≤ p → ((j : ℕ) → j < k → Agreed T (tree.awaited j a) (st j))
      → Claimed P w (tree.low k a) (tree.size k a) T (second_sum base st k)
  second_sum_ok w a base T st h b t r d ok zero l ag =
      record {
        in_reach = t;
        part = λ y. base;
        adds = rw (tree.low_zero a h, tree.size_zero a h) (omega arith);
        claims = λ y i j. one_claim y i j;
      }
    where
      one_claim : (y : ℕ) → tree.low 0 a ≤ y → y < tree.low 0 a + tree.size 0 a → Claims P w y base T
      one_claim y i j =
          let e : y ≡ a = omega (arith, tree.low_zero a h, tree.size_zero a h) in
          rw (e, b) (claim_make w.senders (total_taken P w) (w.done a) a T t r d)
  second_sum_ok w a base T st h b t r d ok (suc k) l ag =
      go (tree.awaited k a) (st k) refl (ok k (omega arith)) (ag k (omega arith))
      (second_sum_ok w a base T st h b t r d ok k (omega arith) (λ j q. ag j (omega arith)))
    where
      go : (o : Option ℕ) (s : Option Confirmed) → tree.awaited k a ≡ o → SecondStored w k o s → Agreed T o s
          → Claimed P w (tree.low k a) (tree.size k a) T (second_sum base st k)
          → Claimed P w (tree.low (suc k) a) (tree.size (suc k) a) T (second_sum base st k + second_number s)
      go none none e q g ih =
          alone_ok w k a T (second_sum base st k) (second_sum base st k + 0) (tree.alone k a (omega arith) h e)
          (omega arith) ih
      go none (some x) e q g ih = absurd q
      go (some v) none e q g ih = absurd g
      go (some v) (some x) e q g ih =
          join_ok w k a v T (second_sum base st k) x.issued (tree.meet k a v (omega arith) h e) ih (rw g at q)
