-- Laws of places: what each place says of a node and its run, and that receivers are those who await.
use mathlib.Core.Path.{◌≡◌, refl, sym, ap, ◌∙◌, subst}
use mathlib.Core.Logic.{◌≢◌, ◌⊎◌, inl, inr}
use mathlib.Core.Option.{Option, none, some}
use mathlib.Core.List.Memᴰ
use mathlib.Core.List.{List, [], ◌∷◌, Memᴰ}
use Prim.Native.Nat.{ℕ, suc, ◌+◌, ◌-◌, ◌≤◌, ◌<◌}
use native.Mathlib.Decide.{dec_le, ℕ_discrete}
use native.Mathlib.Omega.{arith}
use borrow.Author.Tests.{le-leb, lt-leb, lt-ltb, le-ltb, eq-eqb, ne_eqb}
use Rattle.base.proofs.Laws.{clash, choose_yes, choose_no}
use Rattle.tree.specs.Tree.{middle, left, right, left_size, right_size, across, Place, alone, hermit, neighbour}
use Rattle.tree.specs.Tree.{messenger, place_in, place, awaits, sends_to, awaited, receivers, run_of}
use Rattle.tree.specs.Tree.{Run}
use Rattle.tree.proofs.Runs.{In, run_has, run_same}

module _ (r : Run) (a : ℕ) where
  -- the place by the tests that lead to it
  pub place_alone : right_size r ≡ 0 → place_in r a ≡ alone
  unfolding place_in
  place_alone e = rw (le-ltb 0 (right_size r) (omega arith), eq-eqb (right_size r) 0 e)

  pub place_even : 0 < right_size r → left_size r ≤ right_size r → place_in r a ≡ neighbour (across r a)
  unfolding place_in
  place_even s e = rw (
    lt-ltb 0 (right_size r) s,
    le-ltb (right_size r) (left_size r) e,
    ne_eqb (right_size r) 0 (omega arith),
  )

  module _ (s : 0 < right_size r) (e : right_size r < left_size r) where
    pub place_hermit : a ≡ middle r → place_in r a ≡ hermit (a + 1)
    unfolding place_in
    place_hermit m = rw (lt-ltb 0 (right_size r) s, lt-ltb (right_size r) (left_size r) e, eq-eqb a (middle r) m)

    pub place_messenger : a ≡ middle r + 1 → place_in r a ≡ messenger (across r a) (middle r)
    unfolding place_in
    place_messenger m =
        rw (
          lt-ltb 0 (right_size r) s,
          lt-ltb (right_size r) (left_size r) e,
          ne_eqb a (middle r) (omega arith),
          eq-eqb a (middle r + 1) m,
        )

    pub place_plain : a ≢ middle r → a ≢ middle r + 1 → place_in r a ≡ neighbour (across r a)
    unfolding place_in
    place_plain m n =
        rw (
          lt-ltb 0 (right_size r) s,
          lt-ltb (right_size r) (left_size r) e,
          ne_eqb a (middle r) m,
          ne_eqb a (middle r + 1) n,
          ne_eqb (right_size r) 0 (omega arith),
        )

  pub across_left : a ≤ middle r → across r a ≡ middle r + 1 + (a - r.low)
  across_left h = choose_yes (middle r + 1 + (a - r.low)) (r.low + (a - (middle r + 1))) (le-leb a (middle r) h)

  pub across_right : middle r < a → across r a ≡ r.low + (a - (middle r + 1))
  across_right h = choose_no (middle r + 1 + (a - r.low)) (r.low + (a - (middle r + 1))) (lt-leb a (middle r) h)

-- what is known of a node by its place in r
pub data PlaceIs (r : Run) (a : ℕ) : Place → Type 0 where
  is_alone : r.low ≡ r.high → PlaceIs r a alone
  is_hermit : a ≡ middle r → 0 < right_size r → right_size r < left_size r → PlaceIs r a (hermit (a + 1))
  is_messenger : (b : ℕ) → a ≡ middle r + 1 → right_size r < left_size r → b ≡ r.low
      → PlaceIs r a (messenger b (middle r))
  is_left : (b : ℕ) → a ≤ middle r → a - r.low < right_size r → b ≡ middle r + 1 + (a - r.low)
      → PlaceIs r a (neighbour b)
  is_right : (b : ℕ) → middle r < a → (right_size r < left_size r → a ≢ middle r + 1) → b ≡ r.low + (a - (middle r + 1))
      → PlaceIs r a (neighbour b)

pub place_is : (r : Run) (a : ℕ) → In r a → PlaceIs r a (place_in r a)
place_is r a h =
    go (ℕ_discrete (right_size r) 0) (dec_le (left_size r) (right_size r)) (ℕ_discrete a (middle r))
    (ℕ_discrete a (middle r + 1)) (dec_le a (middle r))
  where
    beside : (0 < right_size r) → (right_size r < left_size r → a ≢ middle r)
        → (right_size r < left_size r → a ≢ middle r + 1) → Dec (a ≤ middle r) → PlaceIs r a (neighbour (across r a))
    beside s m n (yes l) = is_left (across r a) l (go (dec_le (left_size r) (right_size r))) (across_left r a l)
      where
        go : Dec (left_size r ≤ right_size r) → a - r.low < right_size r
        go (yes e) = omega arith
        go (no e) = let u : a ≢ middle r = m (omega arith) in omega arith
    beside s m n (no l) = is_right (across r a) (omega arith) n (across_right r a (omega arith))

    go : Dec (right_size r ≡ 0) → Dec (left_size r ≤ right_size r) → Dec (a ≡ middle r) → Dec (a ≡ middle r + 1)
        → Dec (a ≤ middle r) → PlaceIs r a (place_in r a)
    go (yes z) e m n l = rw (place_alone r a z) (is_alone (omega arith))
    go (no z) (yes e) m n l = rw (place_even r a (omega arith) e)
        (beside (omega arith) (λ f. absurd (omega arith)) (λ f. absurd (omega arith)) l)
    go (no z) (no e) (yes m) n l = rw (place_hermit r a (omega arith) (omega arith) m)
        (is_hermit m (omega arith) (omega arith))
    go (no z) (no e) (no m) (yes n) l =
        rw (place_messenger r a (omega arith) (omega arith) n)
        (is_messenger (across r a) n (omega arith) (across_right r a (omega arith) ∙ (omega arith)))
    go (no z) (no e) (no m) (no n) l = rw (place_plain r a (omega arith) (omega arith) m n)
        (beside (omega arith) (λ f. m) (λ f. n) l)

-- ---- who is awaited is on the other side, and receivers are those who await

pub data Sides (r : Run) (a b : ℕ) : Type 0 where
  left_right : In (left r) a → In (right r) b → Sides r a b
  right_left : In (right r) a → In (left r) b → Sides r a b

-- nobody is not somebody
pub no_one : {A : Type 0} {b : ℕ} → ◌≡◌ {A = Option ℕ} none (some b) → A
no_one q = let z : ◌≡◌ {A = ℕ} 0 1 = cc in absurd (omega arith)

sides_of : (r : Run) (a b : ℕ) {x : Place} → In r a → PlaceIs r a x → awaits x ≡ some b → Sides r a b
sides_of r a b h (is_alone e) q = no_one q
sides_of r a b h (is_hermit e s l) q = let z : a + 1 ≡ b = cc in left_right (omega arith) (omega arith)
sides_of r a b h (is_messenger u e l f) q = let z : u ≡ b = cc in right_left (omega arith) (omega arith)
sides_of r a b h (is_left u l m e) q = let z : u ≡ b = cc in left_right (omega arith) (omega arith)
sides_of r a b h (is_right u l m e) q = let z : u ≡ b = cc in right_left (omega arith) (omega arith)

lone_of : (r : Run) (a : ℕ) {x : Place} → PlaceIs r a x → awaits x ≡ none → r.low ≡ r.high
lone_of r a (is_alone e) q = e
lone_of r a (is_hermit e s l) q = no_one (sym q)
lone_of r a (is_messenger u e l f) q = no_one (sym q)
lone_of r a (is_left u l m e) q = no_one (sym q)
lone_of r a (is_right u l m e) q = no_one (sym q)

module _ (r : Run) (a b : ℕ) (ha : In r a) (hb : In r b) where
  first : {c : ℕ} {l : List ℕ} → b ≡ c → Memᴰ b (c ∷ l)
  first e = Memᴰ.head e

  -- whom b awaits sends to b: b a hermit, in the left part, in the right part
  to_hermit : {x : Place} → b ≡ middle r → a ≡ middle r + 1 → right_size r < left_size r → PlaceIs r a x
      → (c : ℕ) × (x ≡ messenger c b)
  to_hermit e f l (is_alone g) = absurd (omega arith)
  to_hermit e f l (is_hermit g s m) = absurd (omega arith)
  to_hermit e f l (is_messenger u g m n) = (u, ap (messenger u) (sym e))
  to_hermit e f l (is_left u g m n) = absurd (omega arith)
  to_hermit e f l (is_right u g m n) = absurd (m l f)

  to_left : {x : Place} → b ≤ middle r → a ≡ middle r + 1 + (b - r.low) → PlaceIs r a x → Memᴰ b (sends_to x)
  to_left e f (is_alone g) = absurd (omega arith)
  to_left e f (is_hermit g s m) = absurd (omega arith)
  to_left e f (is_messenger u g m n) = first (omega arith)
  to_left e f (is_left u g m n) = absurd (omega arith)
  to_left e f (is_right u g m n) = first (omega arith)

  to_right : {x : Place} → middle r < b → a ≡ r.low + (b - (middle r + 1)) → PlaceIs r a x → Memᴰ b (sends_to x)
  to_right e f (is_alone g) = absurd (omega arith)
  to_right e f (is_hermit g s m) = absurd (omega arith)
  to_right e f (is_messenger u g m n) = absurd (omega arith)
  to_right e f (is_left u g m n) = first (omega arith)
  to_right e f (is_right u g m n) = absurd (omega arith)

  heard : {x y : Place} → PlaceIs r a x → PlaceIs r b y → awaits y ≡ some a → Memᴰ b (sends_to x)
  heard p (is_alone e) q = no_one q
  heard p (is_hermit e s l) q =
      let z : b + 1 ≡ a = cc in
      let m = to_hermit e (omega arith) l p in
      subst (λ x. Memᴰ b (sends_to x)) (sym m.1) (Memᴰ.tail (Memᴰ.head refl))
  heard p (is_messenger u e l f) q = let z : u ≡ a = cc in to_right (omega arith) (omega arith) p
  heard p (is_left u l m e) q = let z : u ≡ a = cc in to_left l (omega arith) p
  heard p (is_right u l m e) q = let z : u ≡ a = cc in to_right l (omega arith) p

  -- to whom a sends, awaits a: the neighbour of a in the left part and in the right part, and the hermit
  from_left : {y : Place} → a ≤ middle r → b ≡ middle r + 1 + (a - r.low) → PlaceIs r b y → awaits y ≡ some a
  from_left e f (is_alone g) = absurd (omega arith)
  from_left e f (is_hermit g s m) = absurd (omega arith)
  from_left e f (is_messenger u g m n) = ap some (omega arith)
  from_left e f (is_left u g m n) = absurd (omega arith)
  from_left e f (is_right u g m n) = ap some (omega arith)

  from_right : {y : Place} → middle r < a → b ≡ r.low + (a - (middle r + 1)) → PlaceIs r b y → awaits y ≡ some a
  from_right e f (is_alone g) = absurd (omega arith)
  from_right e f (is_hermit g s m) = absurd (omega arith)
  from_right e f (is_messenger u g m n) = absurd (omega arith)
  from_right e f (is_left u g m n) = ap some (omega arith)
  from_right e f (is_right u g m n) = absurd (omega arith)

  from_messenger : {y : Place} → a ≡ middle r + 1 → right_size r < left_size r → b ≡ middle r → PlaceIs r b y
      → y ≡ hermit a
  from_messenger e l f (is_alone g) = absurd (omega arith)
  from_messenger e l f (is_hermit g s m) = ap hermit (omega arith)
  from_messenger e l f (is_messenger u g m n) = absurd (omega arith)
  from_messenger e l f (is_left u g m n) = absurd (omega arith)
  from_messenger e l f (is_right u g m n) = absurd (omega arith)

-- who is on the list of those that a sends to is in the run
told_in : (r : Run) (a b : ℕ) {x : Place} → In r a → PlaceIs r a x → Memᴰ b (sends_to x) → In r b
told_in r a b h (is_alone e) m = absurd (Memᴰ.not-nil m)
told_in r a b h (is_hermit e s l) m = absurd (Memᴰ.not-nil m)
told_in r a b h (is_messenger u e l f) m = go (Memᴰ.cases_cons m)
  where
    go : (b ≡ u) ⊎ Memᴰ b (middle r ∷ []) → In r b
    go (inl z) = omega arith
    go (inr n) = let z = Memᴰ.eq_of_singleton n in omega arith
told_in r a b h (is_left u l m e) n = let z = Memᴰ.eq_of_singleton n in omega arith
told_in r a b h (is_right u l m e) n = let z = Memᴰ.eq_of_singleton n in omega arith

told : (r : Run) (a b : ℕ) {x y : Place} → In r a → In r b → PlaceIs r a x → PlaceIs r b y → Memᴰ b (sends_to x)
    → awaits y ≡ some a
told r a b ha hb (is_alone e) p m = absurd (Memᴰ.not-nil m)
told r a b ha hb (is_hermit e s l) p m = absurd (Memᴰ.not-nil m)
told r a b {y = y} ha hb (is_messenger u e l f) p m = go (Memᴰ.cases_cons m)
  where
    go : (b ≡ u) ⊎ Memᴰ b (middle r ∷ []) → awaits y ≡ some a
    go (inl z) = from_right r a b ha hb (omega arith) (omega arith) p
    go (inr n) = let z = Memᴰ.eq_of_singleton n in ap awaits (from_messenger r a b ha hb e l z p)
told r a b ha hb (is_left u l m e) p n = let z = Memᴰ.eq_of_singleton n in from_left r a b ha hb l (z ∙ e) p
told r a b ha hb (is_right u l m e) p n = let z = Memᴰ.eq_of_singleton n in from_right r a b ha hb l (z ∙ e) p

-- where a hermit and a messenger stand
hermit_of : (r : Run) (a b : ℕ) {x : Place} → PlaceIs r a x → x ≡ hermit b
    → (a ≡ middle r) × (b ≡ a + 1) × (0 < right_size r) × (right_size r < left_size r)
hermit_of r a b (is_alone e) q = clash (cc)
hermit_of r a b (is_hermit e s l) q = let z : a + 1 ≡ b = cc in (e, sym z, s, l)
hermit_of r a b (is_messenger u e l f) q = clash (cc)
hermit_of r a b (is_left u l m e) q = clash (cc)
hermit_of r a b (is_right u l m e) q = clash (cc)

messenger_of : (r : Run) (a b h : ℕ) {x : Place} → PlaceIs r a x → x ≡ messenger b h
    → (a ≡ middle r + 1) × (right_size r < left_size r) × (h ≡ middle r)
messenger_of r a b h (is_alone e) q = clash (cc)
messenger_of r a b h (is_hermit e s l) q = clash (cc)
messenger_of r a b h (is_messenger u e l f) q = let z : middle r ≡ h = cc in (e, l, sym z)
messenger_of r a b h (is_left u l m e) q = clash (cc)
messenger_of r a b h (is_right u l m e) q = clash (cc)

-- ---- the same, in a dimension of a board

module _ (P k a : ℕ) (on : a < P) where
  pub here : PlaceIs (run_of P (suc k) a) a (place P k a)
  unfolding place
  here = place_is (run_of P (suc k) a) a (run_has P (suc k) a on)

  -- the awaited node is in the other part of the run one dimension up
  pub awaited_side : (b : ℕ) → awaited P k a ≡ some b → Sides (run_of P (suc k) a) a b
  unfolding awaited
  awaited_side b q = sides_of (run_of P (suc k) a) a b (run_has P (suc k) a on) here q

  pub awaited_in_lem : (b : ℕ) → awaited P k a ≡ some b → In (run_of P (suc k) a) b
  awaited_in_lem b q = go (awaited_side b q)
    where
      go : Sides (run_of P (suc k) a) a b → In (run_of P (suc k) a) b
      go (left_right i j) = omega arith
      go (right_left i j) = omega arith

  pub alone_one : awaited P k a ≡ none → (run_of P (suc k) a).low ≡ (run_of P (suc k) a).high
  unfolding awaited
  alone_one q = lone_of (run_of P (suc k) a) a here q

-- the place of a node in the run of another that has it
there : (P k a b : ℕ) → a < P → In (run_of P (suc k) a) b → PlaceIs (run_of P (suc k) a) b (place P k b)
there P k a b on i =
    let s = run_same P (suc k) a b on i in
    subst (λ r. PlaceIs r b (place P k b)) s.1 (here P k b s.0)

-- b is a receiver of a in k exactly if b awaits a in k
pub awaits_receives : (P k a b : ℕ) → b < P → awaited P k b ≡ some a → Memᴰ b (receivers P k a)
unfolding receivers awaited
awaits_receives P k a b on q =
    let i = awaited_in_lem P k b on a q in
    heard (run_of P (suc k) b) a b i (run_has P (suc k) b on) (there P k b a on i) (here P k b on) q

pub receives_awaits : (P k a b : ℕ) → a < P → Memᴰ b (receivers P k a) → (b < P) × (awaited P k b ≡ some a)
unfolding receivers awaited
receives_awaits P k a b on m =
    let h = run_has P (suc k) a on in
    let i = told_in (run_of P (suc k) a) a b h (here P k a on) m in
    ((run_same P (suc k) a b on i).0, told (run_of P (suc k) a) a b h i (here P k a on) (there P k a b on i) m)

-- what a node's place says of its partners
module _ (P k a : ℕ) (on : a < P) where
  pub neighbour_place : (b : ℕ) → place P k a ≡ neighbour b
      → (receivers P k a ≡ b ∷ []) × (awaited P k a ≡ some b) × (awaited P k b ≡ some a)
  unfolding receivers awaited
  neighbour_place b q =
      let s = ap sends_to q in
      (s, ap awaits q, (receives_awaits P k a b on (rw s (Memᴰ.head refl))).1)

  pub messenger_place : (b h : ℕ) → place P k a ≡ messenger b h
      → (receivers P k a ≡ b ∷ h ∷ []) × (awaited P k a ≡ some b) × (awaited P k b ≡ some a)
      × (awaited P k h ≡ some a)
  unfolding receivers awaited
  messenger_place b h q =
      let s = ap sends_to q in (
        s,
        ap awaits q,
        (receives_awaits P k a b on (rw s (Memᴰ.head refl))).1,
        (receives_awaits P k a h on (rw s (Memᴰ.tail (Memᴰ.head refl)))).1,
      )

  -- the node before a messenger is its hermit
  pub messenger_hermit : (b h : ℕ) → place P k a ≡ messenger b h → (h + 1 ≡ a) × (place P k h ≡ hermit a)
  messenger_hermit b h q =
      let r = run_of P (suc k) a in
      let i = run_has P (suc k) a on in
      let m = messenger_of r a b h (here P k a on) q in
      let j : In r h = omega arith in
      (omega arith, from_messenger r a h i j m.0 m.1 m.2 (there P k a h on j))

  -- and the node after a hermit is its messenger
  pub hermit_next_lem : (b : ℕ) → place P k a ≡ hermit b → (b ≡ a + 1) × ((c : ℕ) × (place P k b ≡ messenger c a))
  hermit_next_lem b q =
      let r = run_of P (suc k) a in
      let i = run_has P (suc k) a on in
      let m = hermit_of r a b (here P k a on) q in
      let j : In r b = omega arith in
      (m.1, to_hermit r b a j i m.0 (omega arith) m.3 (there P k a b on j))

-- who is awaited has receivers
pub awaited_sends : (P k a b : ℕ) → b < P → awaited P k b ≡ some a → (c : ℕ) × (l : List ℕ) × (receivers P k a ≡ c ∷ l)
awaited_sends P k a b on q = go (receivers P k a) (awaits_receives P k a b on q)
  where
    go : (l : List ℕ) → Memᴰ b l → (c : ℕ) × (m : List ℕ) × (l ≡ c ∷ m)
    go [] m = absurd (Memᴰ.not-nil m)
    go (c ∷ l) m = (c, l, refl)
