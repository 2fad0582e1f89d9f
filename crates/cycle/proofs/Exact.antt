-- Where what every node has stored is what its partner would write now, the own sums of a node are the sums over its
-- run; and where all work is taken, what one run has sent to its sibling the sibling has taken.
use mathlib.Core.Path.{◌≡◌, refl, sym, ◌∙◌}
use mathlib.Core.Option.{Option, none, some}
use Prim.Native.Nat.{ℕ, zero, suc, ◌+◌, ◌≤◌, ◌<◌}
use native.Mathlib.Nat.{add-zero, zero-add}
use native.Mathlib.Omega.{arith}
use Rattle.cycle.proofs.Sums.{sum, sum_ext, sum_plus, sum_zero}
use Rattle.cycle.proofs.Tree.{Tree, Meet, meet_sum}

-- ---- sums of sums

pub sum_swap : (m : ℕ → ℕ → ℕ) (i n j l : ℕ) → sum (λ y. sum (m y) j l) i n ≡ sum (λ z. sum (λ y. m y z) i n) j l
sum_swap m i n j zero = sum_zero i n
sum_swap m i n j (suc l) =
    let a = sum_plus (λ y. sum (m y) j l) (λ y. m y (j + l)) i n in
    let b = sum_swap m i n j l in
    omega arith

-- ---- the numbers of a node and of a frame: sent and taken by shell, and in all

pub data Entry : Type 0 where
  sent_to : ℕ → Entry
  taken_from : ℕ → Entry
  sent_all : Entry
  taken_all : Entry

abbrev pub Entries : Type 0
Entries = Entry → ℕ

-- the number of a stored frame; 0 where none is stored
abbrev pub entry_of : Option Entries → Entries
entry_of none f = 0
entry_of (some x) f = x f

-- the own sums: tallies, and the stored frames of the first k steps
abbrev pub own_sums : Entries → (ℕ → Option Entries) → ℕ → Entries
own_sums tal g zero f = tal f
own_sums tal g (suc k) f = own_sums tal g k f + entry_of (g k) f

module _ {P p : ℕ} (tree : Tree P p) where
  -- a sum over the run of a in dimension k
  abbrev pub run_sum : (ℕ → ℕ) → ℕ → ℕ → ℕ
  run_sum g k a = sum g (tree.low k a) (tree.size k a)

  -- what is stored for step k, from the awaited node if there is one, is exact in the number f
  abbrev pub Exact : (ℕ → Entries) → Entry → ℕ → Option ℕ → Option Entries → Type 0
  Exact tal f k none none = Unit {0}
  Exact tal f k none (some x) = ⊥
  Exact tal f k (some w) none = ⊥
  Exact tal f k (some w) (some x) = x f ≡ run_sum (λ y. tal y f) k w

  pub own_exact : (tal : ℕ → Entries) (f : Entry) (a : ℕ) (g : ℕ → Option Entries) → a < P → (k : ℕ) → k ≤ p
      → ((i : ℕ) → i < k → Exact tal f i (tree.awaited i a) (g i)) → own_sums (tal a) g k f ≡ run_sum (λ y. tal y f) k a
  own_exact tal f a g h zero l e = rw (tree.low_zero a h, tree.size_zero a h, add-zero) (omega arith)
  own_exact tal f a g h (suc k) l e =
      go (tree.awaited k a) (g k) refl (e k (omega arith))
      (own_exact tal f a g h k (omega arith) (λ i q. e i (omega arith)))
    where
      go : (o : Option ℕ) (s : Option Entries) → tree.awaited k a ≡ o → Exact tal f k o s
          → own_sums (tal a) g k f ≡ run_sum (λ y. tal y f) k a
          → own_sums (tal a) g k f + entry_of s f ≡ run_sum (λ y. tal y f) (suc k) a
      go none none q x ih = let al = tree.alone k a (omega arith) h q in rw (al.0, al.1) (omega arith)
      go none (some z) q x ih = absurd x
      go (some w) none q x ih = absurd x
      go (some w) (some z) q x ih =
          let m = meet_sum tree.low tree.size k a w (λ y. tal y f) (tree.meet k a w (omega arith) h q) in
          omega arith

  -- ---- across: what one run has sent to its sibling, the sibling has taken

  abbrev pub InRun : ℕ → ℕ → ℕ → Type 0
  InRun k a y = (tree.low k a ≤ y) × (y < tree.low k a + tree.size k a)

  abbrev pub SameRun : ℕ → ℕ → ℕ → Type 0
  SameRun k a y = (y < P) × (tree.low k y ≡ tree.low k a) × (tree.size k y ≡ tree.size k a)

  wider : (k b w y : ℕ) → Meet tree.low tree.size k b w → InRun k b y → InRun (suc k) b y
  wider k b w y (Meet.right i j l) h = omega arith
  wider k b w y (Meet.left i j l) h = omega arith

  pub other : (k b w y : ℕ) → Meet tree.low tree.size k b w → InRun k w y → InRun (suc k) b y
  other k b w y (Meet.right i j l) h = omega arith
  other k b w y (Meet.left i j l) h = omega arith

  pub back : (k b w : ℕ) → Meet tree.low tree.size k b w → SameRun (suc k) b w
      → Meet tree.low tree.size k w b
  back k b w (Meet.right i j l) s = Meet.left i (s.1 ∙ j) (s.2 ∙ l)
  back k b w (Meet.left i j l) s = Meet.right i (s.1 ∙ j) (s.2 ∙ l)

  -- a row over the sibling's run, from what it is over the runs of y
  shell : (k b w y : ℕ) (row t : ℕ → ℕ) → k < p → b < P → Meet tree.low tree.size k b w → InRun k b y
      → ((k : ℕ) → k ≤ p → run_sum row k y ≡ sum t 0 k) → run_sum row k w ≡ t k
  shell k b w y row t l h mt i pre =
      let s = tree.same k b y h i in
      let u = tree.same (suc k) b y h (wider k b w y mt i) in
      let e : run_sum row (suc k) b ≡ sum t 0 (suc k) = rw (u.1, u.2) at (pre (suc k) (omega arith)) in
      let d : run_sum row k b ≡ sum t 0 k = rw (s.1, s.2) at (pre k (omega arith)) in
      let c = meet_sum tree.low tree.size k b w row mt in
      let z : t (0 + k) ≡ t k = rw (zero-add k) refl in
      omega arith

  pub across : (m : ℕ → ℕ → ℕ) (s t : ℕ → ℕ → ℕ)
      → ((y : ℕ) → y < P → (k : ℕ) → k ≤ p → run_sum (m y) k y ≡ sum (s y) 0 k)
      → ((z : ℕ) → z < P → (k : ℕ) → k ≤ p → run_sum (λ y. m y z) k z ≡ sum (t z) 0 k)
      → (k b w : ℕ) → k < p → b < P → w < P → Meet tree.low tree.size k b w
      → run_sum (λ y. s y k) k b ≡ run_sum (λ z. t z k) k w
  across m s t sp tp k b w l hb hw mt =
      sym (sum_ext (λ y. run_sum (m y) k w) (λ y. s y k) (tree.low k b) (tree.size k b)
      (λ y i j. shell k b w y (m y) (s y) l hb mt (i, j) (sp y (tree.same k b y hb (i, j)).0)))
      ∙ sum_swap m (tree.low k b) (tree.size k b) (tree.low k w) (tree.size k w)
      ∙ sum_ext (λ z. run_sum (λ y. m y z) k b) (λ z. t z k) (tree.low k w) (tree.size k w)
      (λ z i j. shell k w b z (λ y. m y z) (t z) l hw
      (back k b w mt (tree.same (suc k) b w hb (other k b w w mt (tree.self k w hw)))) (i, j)
      (tp z (tree.same k w z hw (i, j)).0))
