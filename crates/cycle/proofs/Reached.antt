-- What every ledger that is reached has: a phase that somebody has left is over, phases are within one of one another,
-- nobody has left the phase of a message under way, and no board sticks.
use mathlib.Core.Path.{◌≡◌, refl, sym, ap, ◌∙◌}
use mathlib.Core.Logic.{◌⊎◌}
use mathlib.Core.Bool.{Bool, true, false}
use mathlib.Core.List.{List, ◌∷◌, ◌++◌}
use Prim.Native.Nat.{ℕ, suc, ◌+◌, ◌≤◌, ◌<◌}
use native.Mathlib.Decide.{dec_lt}
use native.Mathlib.Omega.{arith}
use Rattle.cycle.proofs.Tree.{Tree}
use Rattle.cycle.proofs.Lists.{All, all_map}
use Rattle.cycle.proofs.OnePhase.{message, dim_of, Unheard, Agrees}
use Rattle.cycle.proofs.Messages.{is_message, messages, messages_append}
use Rattle.cycle.proofs.NoStick.{no_stick}
use Rattle.cycle.proofs.Ledger.{Dated, of_phase, phase_of, Ledger, Invariant, Reached, reached_invariant, Over}
use Rattle.cycle.proofs.Dating.{phase_mid}

module _ {P p : ℕ} {tree : Tree P p} {limit : ℕ} {b : Ledger} (r : Reached tree limit b) where
  pub invariant : Invariant tree limit b
  invariant = reached_invariant tree limit b r

  idle_means : (y n : ℕ) → ((b.pages n).nodes y).busy ≡ false → n ≤ b.phase y
  idle_means y n e = go (dec_lt (b.phase y) n)
    where
      go : Dec (b.phase y < n) → n ≤ b.phase y
      go (no l) = omega arith
      go (yes l) =
          let f = ap (λ v. v.busy) (invariant.ahead y n l) in let z : ◌≡◌ {A = Bool} true false = sym f ∙ e in
          let q : ◌≡◌ {A = ℕ} 0 1 = cc in absurd (omega arith)

  pub safe : (a n : ℕ) → a < P → n < b.phase a → Over tree limit b n
  safe a n h l =
      let q = (invariant.fit n).quiet a h (invariant.past a n l) in
      record {
        taken = q.all_taken_lem ∙ sym q.all_sent_lem;
        idle = q.all_idle;
        reached = λ y k. idle_means y n (q.all_idle y k);
      }

  -- the phases of two nodes are within one of one another
  pub within_one : (a c : ℕ) → a < P → c < P → b.phase a ≤ suc (b.phase c)
  within_one a c h k = go (dec_lt (suc (b.phase c)) (b.phase a))
    where
      go : Dec (suc (b.phase c) < b.phase a) → b.phase a ≤ suc (b.phase c)
      go (no l) = omega arith
      go (yes l) = absurd (omega (arith, (safe a (suc (b.phase c)) h l).reached c k))

  -- while a message is under way nobody has left its phase
  pub message_holds : (xs ys : List Dated) (m : Dated) → b.items ≡ xs ++ m ∷ ys → m.item.load ≡ message
      → (y : ℕ) → y < P → b.phase y ≤ m.phase
  message_holds xs ys m e l y h = go (dec_lt m.phase (b.phase y))
    where
      n : ℕ
      n = m.phase

      go : Dec (m.phase < b.phase y) → b.phase y ≤ m.phase
      go (no k) = omega arith
      go (yes k) =
          absurd (omega (
            arith,
            (safe y n h k).taken,
            (invariant.fit n).covers,
            ap messages (ap (of_phase n) e ∙ phase_mid n xs ys m refl),
            messages_append (of_phase n xs) (m.item ∷ of_phase n ys),
            ap is_message l,
          ))

  -- where nobody in the oldest phase is busy, has something of it under way to it, or would send, a step agrees
  pub no_board_sticks : (u : ℕ) → u < P → (b.pages (b.phase u)).lossy ≡ false
      → ((y : ℕ) → y < P → b.phase u ≤ b.phase y)
      → ((a : ℕ) → a < P → b.phase a ≡ b.phase u → ((b.pages (b.phase u)).nodes a).busy ≡ false)
      → All (λ t. (t.to < P) × (b.phase u < b.phase t.to)) (of_phase (b.phase u) b.items)
      → ((a : ℕ) → a < P → b.phase a ≡ b.phase u
      → (((b.pages (b.phase u)).nodes a).flag ≡ false) ⊎ Unheard tree a ((b.pages (b.phase u)).nodes a).step)
      → (a : ℕ) × ((a < P) × ((b.phase a ≡ b.phase u) × Agrees p limit ((b.pages (b.phase u)).nodes a)
      ((b.pages (b.phase u)).nodes a).step (tree.awaited (dim_of p ((b.pages (b.phase u)).nodes a).step) a)))
  no_board_sticks u hu whole old rest nothing nobody =
      let q = no_stick tree limit (phase_of b n) (invariant.fit n) whole resting
      (all_map (λ t. (t.to < P) × (n < b.phase t.to))
      (λ t. (t.to < P) × (p + p ≤ ((b.pages n).nodes t.to).step))
      (λ t x. (x.0, invariant.past t.to n x.1)) (of_phase n b.items) nothing)
      (λ a h l. nobody a h (here a h l)) u hu (invariant.now u n refl) in
      (q.0, (q.1.0, (here q.0 q.1.0 q.1.1.0, q.1.1.1)))
    where
      n : ℕ
      n = b.phase u

      here : (a : ℕ) → a < P → ((b.pages n).nodes a).step < p + p → b.phase a ≡ n
      here a h l = go (dec_lt n (b.phase a))
        where
          go : Dec (n < b.phase a) → b.phase a ≡ n
          go (yes k) = absurd (omega (arith, invariant.past a n k))
          go (no k) = omega (arith, old a h)

      resting : (a : ℕ) → a < P → ((b.pages n).nodes a).busy ≡ false
      resting a h = go (dec_lt n (b.phase a))
        where
          go : Dec (n < b.phase a) → ((b.pages n).nodes a).busy ≡ false
          go (yes k) = ((invariant.fit n).quiet a h (invariant.past a n k)).all_idle a h
          go (no k) = rest a h (omega (arith, old a h))
