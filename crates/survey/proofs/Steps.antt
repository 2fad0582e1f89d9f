-- Laws of the test of a step: it is the state test's, dimension by dimension.
use mathlib.Core.Path.{◌≡◌, refl, sym, ap, ◌∙◌}
use mathlib.Core.Bool.{Bool, true, false, not}
use mathlib.Core.Logic.{◌⊎◌, inl, inr, ⊎_elim}
use mathlib.Core.Option.{Option, none, some}
use Prim.Native.Nat.{ℕ, suc, ◌-◌, ◌≤◌, ◌<◌, ◌+◌}
use native.Mathlib.Decide.{dec_le, ℕ_discrete}
use native.Mathlib.Omega.{arith}
use lib.Dec.{ltb, eqb}
use borrow.Author.Tests.{lt-ltb, le-ltb, lt-leb, eq-eqb, ne_eqb, ltb-true, eqb-true, not-true}
use Rattle.base.specs.Choice.{choose, both, either, every}
use Rattle.base.specs.Limits.{Limits, Fits, width}
use Rattle.base.proofs.Laws.{clash, both_true, both_make, every_at, every_make, every_same}
use Rattle.tree.specs.Tree.{dimension, Place, alone, hermit, neighbour, messenger, awaits, place, awaited}
use Rattle.tree.specs.Lookups.{bad_board, place_lookup}
use Rattle.tree.proofs.Dimension.{smallest}
use Rattle.tree.proofs.Lookups.{board_good}
use Rattle.tree.proofs.Halves.{alone_lowest}
use Rattle.node.specs.Sums.{dims, Field, sent_in, taken_in, all_sent, all_taken, number}
use Rattle.node.specs.declared.Stored.{Stored}
use Rattle.node.specs.Agree.{is_none, is_alone, is_within, first_clauses, agrees}
use Rattle.node.specs.State.{board_ok, position_ok, passed_ok, awaits_frame}
use Rattle.node.specs.declared.Node.{Node}
use Rattle.node.specs.Sums.{Has as InFrame}
use Rattle.survey.specs.Pieces.{awaits_at, first_past, second_past}
use Rattle.survey.specs.declared.Spot.{Spot}
use Rattle.survey.specs.Spots.{lone_answer, lone, spot_at}

abbrev pub spot_of : Limits → Node → Spot
spot_of L n = spot_at L (dims n) n.nodes n.number n.pass n.dim n.agreed

-- ---- whom a node awaits

lone_place : (x : Place) → lone_answer (Rattle.base.specs.Refusal.found x) ≡ is_none (awaits x)
lone_place alone = refl
lone_place (hermit next) = refl
lone_place (neighbour b) = refl
lone_place (messenger b h) = refl

module _ (L : Limits) (P a : ℕ) (good : bad_board L P ≡ false) (on : a < P) where
  some_dimension : 0 < dimension P → 2 ≤ P
  some_dimension h = go (dec_le P 1)
    where
      go : Dec (P ≤ 1) → 2 ≤ P
      go (yes l) = absurd (omega (arith, smallest P 0 l))
      go (no l) = omega arith

  lone_first : 0 < dimension P → lone L P a ≡ is_none (awaited P 0 a)
  unfolding lone place_lookup awaited
  lone_first h = rw (good, lt-leb P a on, lt-leb (dimension P) 0 h) (lone_place (place P 0 a))

  alone_by : (k : ℕ) → k < dimension P → both (eqb k 0) (lone L P a) ≡ is_none (awaited P k a)
  alone_by k l = go (ℕ_discrete k 0)
    where
      some_one : (w : Option ℕ) → awaited P k a ≡ w → (k ≡ 0 → ⊥) → false ≡ is_none w
      some_one none e n = absurd (n (alone_lowest P k a l on (some_dimension (omega arith)) e))
      some_one (some w) e n = refl

      go : Dec (k ≡ 0) → both (eqb k 0) (lone L P a) ≡ is_none (awaited P k a)
      go (yes e) = rw (eq-eqb k 0 e) (lone_first (omega arith) ∙ ap (λ j. is_none (awaited P j a)) (sym e))
      go (no e) = rw (ne_eqb k 0 e) (some_one (awaited P k a) refl e)

pub awaits_same : (L : Limits) (n : Node) (k : ℕ) → board_ok L n ≡ true → awaits_at (spot_of L n) k ≡ awaits_frame n k
unfolding awaits_at board_ok
awaits_same L n k ok = go (dec_le (dims n) k)
  where
    go : Dec (dims n ≤ k)
        → both (ltb k (dims n)) (not (both (eqb k 0) (lone L n.nodes n.number)))
        ≡ both (ltb k (dims n)) (not (is_alone n k))
    go (yes l) = rw (le-ltb k (dims n) l)
    go (no l) =
        let q = both_true (not (bad_board L n.nodes)) (ltb n.number n.nodes) ok in
        rw (lt-ltb k (dims n) (omega arith))
        (ap not
        (alone_by L n.nodes n.number (not-true _ q.0) (ltb-true _ _ q.1) k (omega arith)))

-- ---- the clauses read the sums that a frame of the dimension has

module _ (L : Limits) (p k : ℕ) (f g : Field → ℕ) (x : Stored) (l : k < p)
    (same : (h : Field) → InFrame p k h → f h ≡ g h) where
  abbrev within : (Field → ℕ) → ℕ → Bool
  within own m =
      both (is_within L (own (sent_in m) + number x (sent_in m))) (is_within L (own (taken_in m) + number x (taken_in m)))

  shells_same : every (suc k) (p - suc k) (within f) ≡ every (suc k) (p - suc k) (within g)
  shells_same =
      every_same (suc k) (p - suc k) (within f) (within g)
      (λ m a b. rw (same (sent_in m) (omega arith, omega arith), same (taken_in m) (omega arith, omega arith)))

  pub clauses_same : first_clauses L p k f x ≡ first_clauses L p k g x
  unfolding first_clauses
  clauses_same =
      rw (same (sent_in k) (omega arith, l), same (taken_in k) (omega arith, l), same all_sent tt, same all_taken tt, shells_same)

-- ---- the board and the position

pub few : (L : Limits) → Fits L → (n : Node) → board_ok L n ≡ true → dims n ≤ width
unfolding board_ok
few L fit n board =
    let q = both_true (not (bad_board L n.nodes)) (ltb n.number n.nodes) board in
    let b = board_good L n.nodes (not-true _ q.0) in
    smallest n.nodes width (omega (arith, b.1, fit.nodes))

module _ (n : Node) (position : position_ok n ≡ true) where
  -- the position is below p, or 0
  here : (n.dim < dims n) ⊎ (n.dim ≡ 0)
  unfolding position_ok
  here = go (eqb (dims n) 0) position
    where
      go : (t : Bool)
          → choose t (both (eqb n.pass 1) (eqb n.dim 0))
          (both (either (eqb n.pass 1) (eqb n.pass 2)) (ltb n.dim (dims n)))
          ≡ true
          → (n.dim < dims n) ⊎ (n.dim ≡ 0)
      go true e = inr (eqb-true _ _ (both_true (eqb n.pass 1) (eqb n.dim 0) e).1)
      go false e =
          inl (ltb-true _ _ (both_true (either (eqb n.pass 1) (eqb n.pass 2)) (ltb n.dim (dims n)) e).1)

  before : (k : ℕ) → k < n.dim → k < dims n
  before k h = ⊎_elim (λ l. omega arith) (λ e. absurd (omega arith)) here

-- ---- what the state test says of a step, and what the steps say of it

module _ (L : Limits) (n : Node) where
  -- a step before the position, in either pass
  pub passed_first : (k : ℕ) → k < dims n → passed_ok L n ≡ true → first_past (spot_of L n) k ≡ true
      → agrees L n 1 k ≡ true
  unfolding passed_ok
  passed_first k l ok = go (eqb n.pass 1) ok
    where
      go : (t : Bool)
          → choose t (every 0 n.dim (agrees L n 1))
          (both (every 0 (dims n) (agrees L n 1)) (every 0 n.dim (agrees L n 2)))
          ≡ true
          → either (not t) (ltb k n.dim) ≡ true → agrees L n 1 k ≡ true
      go true e h = every_at 0 n.dim (agrees L n 1) e k (omega arith) (omega (arith, ltb-true k n.dim h))
      go false e h =
          every_at 0 (dims n) (agrees L n 1)
          (both_true (every 0 (dims n) (agrees L n 1)) (every 0 n.dim (agrees L n 2)) e).0 k (omega arith)
          (omega arith)

  pub passed_second : (k : ℕ) → passed_ok L n ≡ true → second_past (spot_of L n) k ≡ true → agrees L n 2 k ≡ true
  unfolding passed_ok
  passed_second k ok = go (eqb n.pass 1) ok
    where
      go : (t : Bool)
          → choose t (every 0 n.dim (agrees L n 1))
          (both (every 0 (dims n) (agrees L n 1)) (every 0 n.dim (agrees L n 2)))
          ≡ true
          → both (not t) (ltb k n.dim) ≡ true → agrees L n 2 k ≡ true
      go true e h = clash (sym h)
      go false e h =
          every_at 0 n.dim (agrees L n 2)
          (both_true (every 0 (dims n) (agrees L n 1)) (every 0 n.dim (agrees L n 2)) e).1 k (omega arith)
          (omega (arith, ltb-true k n.dim h))

  pub all_passed : position_ok n ≡ true
      → ((k : ℕ) → k < dims n → first_past (spot_of L n) k ≡ true → agrees L n 1 k ≡ true)
      → ((k : ℕ) → k < dims n → second_past (spot_of L n) k ≡ true → agrees L n 2 k ≡ true) → passed_ok L n ≡ true
  unfolding passed_ok
  all_passed position = go (eqb n.pass 1)
    where
      go : (t : Bool) → ((k : ℕ) → k < dims n → either (not t) (ltb k n.dim) ≡ true → agrees L n 1 k ≡ true)
          → ((k : ℕ) → k < dims n → both (not t) (ltb k n.dim) ≡ true → agrees L n 2 k ≡ true)
          → choose t (every 0 n.dim (agrees L n 1))
          (both (every 0 (dims n) (agrees L n 1)) (every 0 n.dim (agrees L n 2)))
          ≡ true
      go true a b =
          every_make 0 n.dim (agrees L n 1)
          (λ k i j. a k (before n position k (omega arith)) (lt-ltb k n.dim (omega arith)))
      go false a b =
          both_make (every_make 0 (dims n) (agrees L n 1) (λ k i j. a k (omega arith) refl))
          (every_make 0 n.dim (agrees L n 2)
          (λ k i j. b k (before n position k (omega arith)) (lt-ltb k n.dim (omega arith))))
