-- Laws of sibling runs: a run is its two halves, adjacent and disjoint, or itself where a node is alone.
use mathlib.Core.Path.{◌≡◌, refl, sym, ap, ◌∙◌}
use mathlib.Core.Logic.{◌≢◌}
use mathlib.Core.Option.{none, some}
use mathlib.Core.List.{List, ◌∷◌}
use Prim.Native.Nat.{ℕ, suc, ◌+◌, ◌-◌, ◌≤◌, ◌<◌}
use native.Mathlib.Decide.{dec_le}
use native.Mathlib.Omega.{arith}
use lib.Pow.{pow_mono}
use Rattle.base.proofs.Laws.{clash}
use Rattle.tree.specs.Tree.{dimension, root, left, part, run_of, Place, sends_to, awaited, receivers}
use Rattle.tree.specs.Tree.{Run}
use Rattle.tree.proofs.Runs.{In, size, run_is, part_left, part_right, run_has, run_same, run_step, run_top}
use Rattle.tree.proofs.Runs.{run_large}
use Rattle.tree.proofs.Places.{PlaceIs, is_alone, is_hermit, is_messenger, is_left, is_right, here}
use Rattle.tree.proofs.Places.{Sides, left_right, right_left, awaited_side, awaited_in_lem, alone_one}

-- two runs side by side, that make up a third
pub data Joined (own other whole : Run) : Type 0 where
  before : other.low ≡ own.high + 1 → whole ≡ record { low = own.low; high = other.high } → Joined own other whole
  after : own.low ≡ other.high + 1 → whole ≡ record { low = other.low; high = own.high } → Joined own other whole

module _ {own other whole : Run} where
  -- a node of the whole run is in the one or in the other, and not in both
  pub joined_other : (b : ℕ) → Joined own other whole → In whole b → (In own b → ⊥) → In other b
  joined_other b (before e f) i n = go (rw f at i) (dec_le b own.high)
    where
      go : In (record { low = own.low; high = other.high }) b → Dec (b ≤ own.high) → In other b
      go u (yes z) = absurd (n (u.0, z))
      go u (no z) = omega arith
  joined_other b (after e f) i n = go (rw f at i) (dec_le own.low b)
    where
      go : In (record { low = other.low; high = own.high }) b → Dec (own.low ≤ b) → In other b
      go u (yes z) = absurd (n (z, u.1))
      go u (no z) = omega arith

  pub joined_apart : (b : ℕ) → Joined own other whole → In own b → In other b → ⊥
  joined_apart b (before e f) i j = omega arith
  joined_apart b (after e f) i j = omega arith

  pub joined_has : (a b : ℕ) → Joined own other whole → In own a → In other b → In whole b
  joined_has a b (before e f) i j = rw f (omega arith)
  joined_has a b (after e f) i j = rw f (omega arith)

-- the run of a node in a part of a run: that part
part_run : (P k a b : ℕ) → k < dimension P → a < P → In (run_of P (suc k) a) b → run_of P k b ≡ part (run_of P (suc k) a) b
part_run P k a b l h i = run_step P k b l ∙ ap (λ r. part r b) (run_same P (suc k) a b h i).1

module _ (P k a : ℕ) (l : k < dimension P) (h : a < P) where
  abbrev r : Run
  r = run_of P (suc k) a

  own_run : run_of P k a ≡ part r a
  own_run = run_step P k a l

  -- the awaited node is on the board
  pub awaited_below : (b : ℕ) → awaited P k a ≡ some b → b < P
  awaited_below b q = (run_same P (suc k) a b h (awaited_in_lem P k a h b q)).0

  -- one dimension up, the run is one's own run and that of the awaited node
  pub joined : (b : ℕ) → awaited P k a ≡ some b → Joined (run_of P k a) (run_of P k b) r
  joined b q =
      let i = awaited_in_lem P k a h b q in
      go (own_run) (part_run P k a b l h i) (awaited_side P k a h b q)
    where
      go : run_of P k a ≡ part r a → run_of P k b ≡ part r b → Sides r a b → Joined (run_of P k a) (run_of P k b) r
      go e f (left_right i j) =
          let x = e ∙ part_left r a i.1 in
          let y = f ∙ part_right r b (omega arith) in
          rw (x, y) (before refl refl)
      go e f (right_left i j) =
          let x = e ∙ part_right r a (omega arith) in
          let y = f ∙ part_left r b j.1 in
          rw (x, y) (after refl refl)

  -- a node and its neighbour stand at the same place in their runs
  pub same_place : (b : ℕ) (bs : List ℕ) → receivers P k a ≡ b ∷ bs → (run_of P k a).low + b ≡ (run_of P k b).low + a
  unfolding receivers
  same_place b bs q = go (here P k a h) q (run_has P (suc k) a h)
    where
      go : {x : Place} → PlaceIs r a x → sends_to x ≡ b ∷ bs → In r a → (run_of P k a).low + b ≡ (run_of P k b).low + a
      go (is_alone e) q i = clash (cc)
      go (is_hermit e s m) q i = clash (cc)
      go (is_messenger u e m f) q i =
          let z : u ≡ b = cc in
          let j : In r b = omega arith in
          let x = own_run ∙ part_right r a (omega arith) in
          let y = part_run P k a b l h j ∙ part_left r b (omega arith) in
          rw (x, y) (omega arith)
      go (is_left u e m f) q i =
          let z : u ≡ b = cc in
          let j : In r b = omega arith in
          let x = own_run ∙ part_left r a e in
          let y = part_run P k a b l h j ∙ part_right r b (omega arith) in
          rw (x, y) (omega arith)
      go (is_right u e m f) q i =
          let z : u ≡ b = cc in
          let j : In r b = omega arith in
          let x = own_run ∙ part_right r a e in
          let y = part_run P k a b l h j ∙ part_left r b (omega arith) in
          rw (x, y) (omega arith)

  -- sizes of sibling runs differ by at most one
  pub sizes_close : (b : ℕ) → awaited P k a ≡ some b
      → (size (run_of P k a) ≤ size (run_of P k b) + 1) × (size (run_of P k b) ≤ size (run_of P k a) + 1)
  sizes_close b q =
      let i = awaited_in_lem P k a h b q in
      let u = run_has P (suc k) a h in
      go (own_run) (part_run P k a b l h i) (awaited_side P k a h b q) u
    where
      go : run_of P k a ≡ part r a → run_of P k b ≡ part r b → Sides r a b → In r a
          → (size (run_of P k a) ≤ size (run_of P k b) + 1) × (size (run_of P k b) ≤ size (run_of P k a) + 1)
      go e f (left_right i j) u =
          let x = e ∙ part_left r a i.1 in
          let y = f ∙ part_right r b (omega arith) in
          rw (x, y) (omega arith)
      go e f (right_left i j) u =
          let x = e ∙ part_right r a (omega arith) in
          let y = f ∙ part_left r b j.1 in
          rw (x, y) (omega arith)

  -- the run of a node that is alone stays as it is
  pub alone_keeps : awaited P k a ≡ none → r ≡ run_of P k a
  alone_keeps q =
      let e = alone_one P k a h q in
      let i = run_has P (suc k) a h in
      let x : part r a ≡ record { low = r.low; high = r.high } =
      part_left r a (omega arith) ∙ run_is (left r) r.low r.high refl (omega arith) in
      sym (own_run ∙ x)

  -- alone happens in dimension 0 only
  pub alone_lowest : 2 ≤ P → awaited P k a ≡ none → k ≡ 0
  alone_lowest two q = go (dec_le 1 k)
    where
      e : r.low ≡ r.high
      e = alone_one P k a h q

      go : Dec (1 ≤ k) → k ≡ 0
      go (yes m) = absurd (omega (arith, e, run_large P k a l two h, pow_mono m))
      go (no m) = omega arith

  -- and never in the last
  pub alone_not_last : 2 ≤ P → suc k ≡ dimension P → awaited P k a ≢ none
  alone_not_last two e q =
      let s = alone_one P k a h q in
      let t : r ≡ root P = ap (λ d. run_of P d a) e ∙ run_top P a in
      let u : r.low ≡ 0 = ap (λ (x : Run). x.low) t in
      let v : r.high ≡ P - 1 = ap (λ (x : Run). x.high) t in
      omega arith
