-- Laws of the distance: how it is found by splitting, and what it says of runs.
use mathlib.Core.Path.{◌≡◌, sym, ap, ◌∙◌, subst}
use mathlib.Core.Logic.{◌≢◌}
use mathlib.Core.Bool.{true, false}
use mathlib.Core.Option.{none, some}
use Prim.Native.Nat.{ℕ, zero, suc, ◌+◌, ◌-◌, ◌≤◌, ◌<◌}
use native.Mathlib.Decide.{dec_le}
use native.Mathlib.Omega.{arith}
use borrow.Author.Tests.{le-leb, lt-leb}
use Rattle.base.specs.Choice.{choose}
use Rattle.base.proofs.Laws.{clash, choose_yes, choose_no}
use Rattle.tree.specs.Tree.{dimension, part, run_below, run_of, awaited, inside, distance_below, distance, InShell}
use Rattle.tree.specs.Tree.{Run}
use Rattle.tree.proofs.Runs.{In, below_step, run_zero, run_top, run_has, run_same, run_grows}
use Rattle.tree.proofs.Halves.{joined_other, joined_apart, joined_has, joined, awaited_below, alone_keeps}

pub inside_yes : (r : Run) (b : ℕ) → In r b → inside r b ≡ true
inside_yes r b h = rw (le-leb r.low b h.0, le-leb b r.high h.1)

inside_no : (r : Run) (b : ℕ) → (In r b → ⊥) → inside r b ≡ false
inside_no r b h = go (dec_le r.low b) (dec_le b r.high)
  where
    go : Dec (r.low ≤ b) → Dec (b ≤ r.high) → inside r b ≡ false
    go (yes l) (yes m) = absurd (h (l, m))
    go (yes l) (no m) = rw (le-leb r.low b l, lt-leb b r.high (omega arith))
    go (no l) m = rw (lt-leb r.low b (omega arith))

dec_in : (r : Run) (b : ℕ) → Dec (In r b)
dec_in r b = go (dec_le r.low b) (dec_le b r.high)
  where
    go : Dec (r.low ≤ b) → Dec (b ≤ r.high) → Dec (In r b)
    go (yes l) (yes m) = yes (l, m)
    go (yes l) (no m) = no (λ i. m i.1)
    go (no l) m = no (λ i. l i.0)

pub inside_in : (r : Run) (b : ℕ) → inside r b ≡ true → In r b
inside_in r b e = go (dec_in r b)
  where
    go : Dec (In r b) → In r b
    go (yes i) = i
    go (no i) = clash (sym e ∙ inside_no r b i)

module _ (P a b k : ℕ) where
  pub below_together : In (run_of P k a) b → distance_below P a b (suc k) ≡ distance_below P a b k
  unfolding distance_below
  below_together h = choose_yes (distance_below P a b k) k (inside_yes (run_of P k a) b h)

  pub below_apart : (In (run_of P k a) b → ⊥) → distance_below P a b (suc k) ≡ k
  unfolding distance_below
  below_apart h = choose_no (distance_below P a b k) k (inside_no (run_of P k a) b h)

-- one turn of the walk down from the root: from dimension k to k - 1
module _ (P a b p k : ℕ) (r s : Run) (e : p ≡ dimension P) (pos : 0 < k) (top : k ≤ p) (was : r ≡ run_below P (p - k) a)
    (now : s ≡ part r a) where
  pub walk_run : s ≡ run_below P (p - (k - 1)) a
  walk_run = let z : p - (k - 1) ≡ p - k + 1 = omega arith in rw (z, below_step) (cc)

  walked : run_of P (k - 1) a ≡ s
  unfolding run_of
  walked = rw (← e) (sym walk_run)

  split : distance_below P a b k ≡ choose (inside s b) (distance_below P a b (k - 1)) (k - 1)
  unfolding distance_below
  split =
      let again : k ≡ suc (k - 1) = omega arith in
      ap (distance_below P a b) again ∙ ap (λ r. choose (inside r b) (distance_below P a b (k - 1)) (k - 1)) walked

  pub walk_together : inside s b ≡ true → distance_below P a b (k - 1) ≡ distance_below P a b k
  walk_together h = sym (split ∙ choose_yes (distance_below P a b (k - 1)) (k - 1) h)

  pub walk_apart : inside s b ≡ false → k - 1 ≡ distance_below P a b k
  walk_apart h = sym (split ∙ choose_no (distance_below P a b (k - 1)) (k - 1) h)

-- ---- What the distance says of runs

run_wider : (P a b n k : ℕ) → a < P → n + k ≤ dimension P → In (run_of P k a) b → In (run_of P (n + k) a) b
run_wider P a b zero k h l i = let z : 0 + k ≡ k = omega arith in rw z i
run_wider P a b (suc n) k h l i =
    let z : suc n + k ≡ suc (n + k) = omega arith in
    rw z (run_grows P (n + k) a b (omega arith) h (run_wider P a b n k h (omega arith) i))

-- a run that has a node has it in each dimension above too
pub run_above : (P a b k m : ℕ) → a < P → k ≤ m → m ≤ dimension P → In (run_of P k a) b → In (run_of P m a) b
run_above P a b k m h l t i =
    let z : m - k + k ≡ m = omega arith in rw z at (run_wider P a b (m - k) k h (omega arith) i)

module _ (P a b : ℕ) (ha : a < P) (ne : a ≢ b) where
  Apart : ℕ → ℕ → Type 0
  Apart n k = (In (run_of P k a) b → distance_below P a b n < k) × (distance_below P a b n < k → In (run_of P k a) b)

  not_zero : In (run_of P 0 a) b → ⊥
  not_zero i = let e = run_zero P a ha in let j : In (record { low = a; high = a }) b = rw e at i in ne (omega arith)

  -- b is in the runs of a above the distance, and in none up to it
  apart : (n : ℕ) → n ≤ dimension P → In (run_of P n a) b → (k : ℕ) → k ≤ n → Apart n k
  unfolding Apart
  apart zero l i k m = absurd (not_zero i)
  apart (suc n) l i k m = go (apart n (omega arith)) (dec_in (run_of P n a) b) (dec_le k n)
    where
      top : Dec (k ≤ n) → (k ≤ n → ⊥) → In (run_of P k a) b
      top (yes q) r = absurd (r q)
      top (no q) r = let z : k ≡ suc n = omega arith in subst (λ (k : ℕ). In (run_of P k a) b) (sym z) i

      go : (In (run_of P n a) b → (k : ℕ) → k ≤ n → Apart n k) → Dec (In (run_of P n a) b) → Dec (k ≤ n)
          → (In (run_of P k a) b → distance_below P a b (suc n) < k)
          × (distance_below P a b (suc n) < k → In (run_of P k a) b)
      go ih (yes j) (yes q) = rw (below_together P a b n j) (ih j k q)
      go ih (yes j) (no q) =
          let s = (ih j n (omega arith)).0 j in
          let e = below_together P a b n j in
          ((λ x. omega arith), (λ x. top (dec_le k n) q))
      go ih (no j) (yes q) =
          let e = below_apart P a b n j in
          ((λ x. absurd (j (run_above P a b k n ha q (omega arith) x))), (λ x. absurd (omega arith)))
      go ih (no j) (no q) = let e = below_apart P a b n j in ((λ x. omega arith), (λ x. top (dec_le k n) q))

  module _ (hb : b < P) where
    in_top : In (run_of P (dimension P) a) b
    in_top = rw (run_top P a) (omega arith)

    -- b is in a's run of dimension k exactly if k is above their distance
    pub near : (k : ℕ) → k ≤ dimension P → In (run_of P k a) b → distance P a b < k
    unfolding Apart distance
    near k l i = (apart (dimension P) (omega arith) in_top k l).0 i

    pub nearer : (k : ℕ) → k ≤ dimension P → distance P a b < k → In (run_of P k a) b
    unfolding Apart distance
    nearer k l i = (apart (dimension P) (omega arith) in_top k l).1 i

    pub distance_below_lem : distance P a b < dimension P
    distance_below_lem = near (dimension P) (omega arith) in_top

-- ---- Shells

exactly : (d k : ℕ) → d < suc k → (d < k → ⊥) → d ≡ k
exactly d k l f = go (dec_le k d)
  where
    go : Dec (k ≤ d) → d ≡ k
    go (yes e) = omega arith
    go (no e) = absurd (f (omega arith))

module _ (P a b : ℕ) (ha : a < P) (hb : b < P) (ne : a ≢ b) where
  other_way : (k : ℕ) → k ≤ dimension P → distance P a b < k → distance P b a < k
  other_way k l d =
      let i = nearer P a b ha ne hb k l d in
      let e = run_same P k a b ha i in
      near P b a hb (λ q. ne (sym q)) ha k l (rw e.1 (run_has P k a ha))

-- the distance is symmetric
pub distance_symmetric : (P a b : ℕ) → a < P → b < P → a ≢ b → distance P a b ≡ distance P b a
distance_symmetric P a b ha hb ne =
    let x = distance_below_lem P a b ha ne hb in
    let y = distance_below_lem P b a hb (λ q. ne (sym q)) ha in
    let u = other_way P a b ha hb ne (suc (distance P a b)) x (omega arith) in
    let v = other_way P b a hb ha (λ q. ne (sym q)) (suc (distance P b a)) y (omega arith) in
    omega arith

module _ (P k a : ℕ) (l : k < dimension P) (ha : a < P) where
  -- shell k of a node is the run of the node that it awaits in k
  pub shell_awaited : (w b : ℕ) → awaited P k a ≡ some w → InShell P k a b → In (run_of P k w) b
  shell_awaited w b q s =
      let d = s.2 in
      let up = nearer P a b ha s.1 s.0 (suc k) l (omega arith) in
      joined_other b (joined P k a l ha w q) up (λ i. far k (omega arith)
      (near P a b ha s.1 s.0 k (omega arith) i))
    where
      far : (k : ℕ) → k ≤ distance P a b → distance P a b < k → ⊥
      far k e f = omega arith

  pub awaited_shell : (w b : ℕ) → awaited P k a ≡ some w → In (run_of P k w) b → InShell P k a b
  awaited_shell w b q i =
      let hw = awaited_below P k a l ha w q in
      let hb = (run_same P k w b hw i).0 in
      let own = run_has P k a ha in
      let j = joined P k a l ha w q in
      let out : In (run_of P k a) b → ⊥ = λ o. joined_apart b j o i in
      let ne : a ≢ b = λ e. out (subst (λ b. In (run_of P k a) b) e own) in
      let d = near P a b ha ne hb (suc k) l (joined_has a b j own i) in
      (hb, ne, exactly (distance P a b) k d (λ f. out (nearer P a b ha ne hb k (omega arith) f)))

  -- a node that is alone in k has nobody at distance k
  pub alone_shell : (b : ℕ) → awaited P k a ≡ none → InShell P k a b → ⊥
  alone_shell b q s =
      let d = s.2 in
      let up = nearer P a b ha s.1 s.0 (suc k) l (omega arith) in
      let n = near P a b ha s.1 s.0 k (omega arith) (rw (alone_keeps P k a l ha q) at up) in
      omega arith

shell_moves : (P k m a y b : ℕ) → a < P → k ≤ m → m < dimension P → In (run_of P k a) y
    → InShell P m a b → InShell P m y b
shell_moves P k m a y b ha l t i s =
    let j = run_above P a y k m ha l (omega arith) i in
    let e = run_same P m a y ha j in
    let f = run_same P (suc m) a y ha (run_grows P m a y t ha j) in
    let d = s.2 in
    let up = nearer P a b ha s.1 s.0 (suc m) t (omega arith) in
    let out : In (run_of P m y) b → ⊥ = λ o. far (near P a b ha s.1 s.0 m (omega arith) (rw e.1 at o)) in
    let ne : y ≢ b = λ z. out (subst (λ b. In (run_of P m y) b) z (run_has P m y e.0)) in
    let n = near P y b e.0 ne s.0 (suc m) t (rw f.1 up) in
    (s.0, ne, exactly (distance P y b) m n (λ g. out (nearer P y b e.0 ne s.0 m (omega arith) g)))
  where
    far : distance P a b < m → ⊥
    far z = let d = s.2 in omega arith

-- nodes of one run in dimension k have the same shells from k up
pub same_shells_lem : (P k m a y b : ℕ) → a < P → k ≤ m → m < dimension P → In (run_of P k a) y
    → (InShell P m a b → InShell P m y b) × (InShell P m y b → InShell P m a b)
same_shells_lem P k m a y b ha l t i =
    let e = run_same P k a y ha i in
    (shell_moves P k m a y b ha l t i, shell_moves P k m y a b e.0 l t (rw e.1 (run_has P k a ha)))
