-- Laws of runs: a node is in its run, the nodes of a run have the same run, and how large runs are.
use mathlib.Core.Path.{◌≡◌, refl, sym, ◌∙◌}
use Prim.Native.Nat.{ℕ, zero, suc, ◌+◌, ◌-◌, ◌^◌, ◌≤◌, ◌<◌}
use native.Mathlib.Decide.{dec_le}
use native.Mathlib.Numerals.{add-one}
use native.Mathlib.Omega.{arith}
use borrow.Author.Tests.{le-leb, lt-leb}
use Rattle.base.proofs.Laws.{choose_yes, choose_no}
use Rattle.tree.specs.Tree.{dimension, root, middle, left, right, part, run_below, run_of}
use Rattle.tree.specs.Tree.{Run}
use Rattle.tree.proofs.Dimension.{fits, above_half}

-- node a is in the run
abbrev pub In : Run → ℕ → Type 0
In r a = (r.low ≤ a) × (a ≤ r.high)

abbrev pub size : Run → ℕ
size r = suc r.high - r.low

pub run_is : (r : Run) (a b : ℕ) → r.low ≡ a → r.high ≡ b → r ≡ record { low = a; high = b }
run_is r a b p q = λ i. record { low = p i; high = q i }

-- ---- the parts of a run

pub part_left : (r : Run) (a : ℕ) → a ≤ middle r → part r a ≡ left r
unfolding part
part_left r a h = choose_yes (left r) (right r) (le-leb a (middle r) h)

pub part_right : (r : Run) (a : ℕ) → middle r < a → part r a ≡ right r
unfolding part
part_right r a h = choose_no (left r) (right r) (lt-leb a (middle r) h)

-- a node is in the left part or in the right, and that is its part
pub data Parts (r : Run) (a : ℕ) : Type 0 where
  on_left : In (left r) a → part r a ≡ left r → Parts r a
  on_right : In (right r) a → part r a ≡ right r → Parts r a

pub parts : (r : Run) (a : ℕ) → In r a → Parts r a
parts r a h = go (dec_le a (middle r))
  where
    go : Dec (a ≤ middle r) → Parts r a
    go (yes l) = on_left (omega arith) (part_left r a l)
    go (no l) = on_right (omega arith) (part_right r a (omega arith))

part_has : (r : Run) (a : ℕ) → In r a → In (part r a) a
part_has r a h = go (parts r a h)
  where
    go : Parts r a → In (part r a) a
    go (on_left i e) = rw e i
    go (on_right i e) = rw e i

-- who is in the part of a is in the run, and has the same part
part_same : (r : Run) (a b : ℕ) → In r a → In (part r a) b → In r b × (part r b ≡ part r a)
part_same r a b h i = go (parts r a h)
  where
    go : Parts r a → In r b × (part r b ≡ part r a)
    go (on_left j e) = let q : In (left r) b = rw e at i in (omega arith, part_left r b q.1 ∙ sym e)
    go (on_right j e) = let q : In (right r) b = rw e at i in (omega arith, part_right r b (omega arith) ∙ sym e)

-- ---- runs so many splits below the root

pub below_step : (P n a : ℕ) → run_below P (n + 1) a ≡ part (run_below P n a) a
unfolding run_below
below_step P n a = rw add-one

pub below_has : (P n a : ℕ) → a < P → In (run_below P n a) a
unfolding run_below
below_has P zero a h = omega arith
below_has P (suc n) a h = part_has (run_below P n a) a (below_has P n a h)

pub below_same : (P n a b : ℕ) → a < P → In (run_below P n a) b → (b < P) × (run_below P n b ≡ run_below P n a)
unfolding run_below
below_same P zero a b h i = (omega arith, refl)
below_same P (suc n) a b h i =
    let q = part_same (run_below P n a) a b (below_has P n a h) i in
    let s = below_same P n a b h q.0 in
    (s.0, rw s.1 q.1)

below_small : (P n a k : ℕ) → a < P → P ≤ 2 ^ (n + k) → size (run_below P n a) ≤ 2 ^ k
unfolding run_below
below_small P zero a k h f = let z : 0 + k ≡ k = omega arith in omega (arith, rw z at f)
below_small P (suc n) a k h f =
    go (below_small P n a (suc k) h (let z : suc n + k ≡ n + suc k = omega arith in rw z at f))
    (parts (run_below P n a) a (below_has P n a h))
  where
    r : Run
    r = run_below P n a

    go : size (run_below P n a) ≤ 2 ^ suc k → Parts (run_below P n a) a → size (part (run_below P n a) a) ≤ 2 ^ k
    go l (on_left i e) = rw e (omega arith)
    go l (on_right i e) = rw e (omega arith)

below_large : (P n a k : ℕ) → a < P → 2 ^ (n + k) ≤ P → 2 ^ k ≤ size (run_below P n a)
unfolding run_below
below_large P zero a k h f = let z : 0 + k ≡ k = omega arith in omega (arith, rw z at f)
below_large P (suc n) a k h f =
    go (below_large P n a (suc k) h (let z : suc n + k ≡ n + suc k = omega arith in rw z at f))
    (parts (run_below P n a) a (below_has P n a h))
  where
    go : 2 ^ suc k ≤ size (run_below P n a) → Parts (run_below P n a) a → 2 ^ k ≤ size (part (run_below P n a) a)
    go l (on_left i e) = rw e (omega arith)
    go l (on_right i e) = rw e (omega arith)

-- ---- the run of a node in a dimension

pub run_up : (P p k a : ℕ) → p ≡ dimension P → run_below P (p - (k + 1)) a ≡ run_of P (suc k) a
unfolding run_of
run_up P p k a e = rw (e, add-one)

pub run_has : (P k a : ℕ) → a < P → In (run_of P k a) a
unfolding run_of
run_has P k a h = below_has P (dimension P - k) a h

-- the nodes of a run are on the board and have that run
pub run_same : (P k a b : ℕ) → a < P → In (run_of P k a) b → (b < P) × (run_of P k b ≡ run_of P k a)
unfolding run_of
run_same P k a b h i = below_same P (dimension P - k) a b h i

-- in dimension p the run is the whole board
pub run_top : (P a : ℕ) → run_of P (dimension P) a ≡ root P
unfolding run_of run_below
run_top P a = let z : dimension P - dimension P ≡ 0 = omega arith in rw z

-- one dimension lower a node has its part of the run
pub run_step : (P k a : ℕ) → k < dimension P → run_of P k a ≡ part (run_of P (suc k) a) a
unfolding run_of run_below
run_step P k a l = let z : dimension P - k ≡ suc (dimension P - suc k) = omega arith in rw z

pub run_grows : (P k a b : ℕ) → k < dimension P → a < P → In (run_of P k a) b → In (run_of P (suc k) a) b
run_grows P k a b l h i = (part_same (run_of P (suc k) a) a b (run_has P (suc k) a h) (rw (run_step P k a l) at i)).0

pub run_size : (P k a : ℕ) → k ≤ dimension P → a < P → size (run_of P k a) ≤ 2 ^ k
unfolding run_of
run_size P k a l h =
    let z : dimension P - k + k ≡ dimension P = omega arith in
    below_small P (dimension P - k) a k h (rw z (fits P))

-- a run one dimension up is larger than half of what its dimension allows
pub run_large : (P k a : ℕ) → k < dimension P → 2 ≤ P → a < P → 2 ^ k ≤ size (run_of P (suc k) a)
unfolding run_of
run_large P k a l two h =
    let z : dimension P - suc k + k ≡ dimension P - 1 = omega arith in
    below_large P (dimension P - suc k) a k h (rw z (omega (arith, above_half P two)))

-- in dimension 0 the run is the node itself
pub run_zero : (P a : ℕ) → a < P → run_of P 0 a ≡ record { low = a; high = a }
run_zero P a h = run_is (run_of P 0 a) a a (omega (arith, i, s)) (omega (arith, i, s))
  where
    i : In (run_of P 0 a) a
    i = run_has P 0 a h

    s : size (run_of P 0 a) ≤ 2 ^ 0
    s = run_size P 0 a (omega arith) h
