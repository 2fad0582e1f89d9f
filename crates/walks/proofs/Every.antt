-- What `all` over a range from 0 says, as `every` says it.
use Rattle.std.proofs.Common.{◌≡◌, ◌≤◌, ◌<◌, ◌+◌, ℕ, Bool, true, false, get_or, length, refl, arith}
use Rattle.std.specs.Prelude.{MatchBool}
use Rattle.std.specs.Iterator.{ChecksAll}
use Rattle.std.specs.declared.ops.Range.{Range}
use Rattle.std.specs.Fn.{Mut, Called}
use Rattle.std.specs.List.{range_with_len, AllWithin, HoldsAt}
use Rattle.std.proofs.iter.Yields.{nat_range_steps}
use Rattle.std.proofs.lemmas.Iterator.{cases_from_all, YieldsList-from_range}
use Rattle.std.proofs.lemmas.List.FromFn.{get_or-range_with_len, length-range_with_len}
use mathlib.Core.Path.{sym, ap, ◌∙◌}
use Rattle.base.specs.Choice.{every}
use Rattle.base.proofs.Laws.{clash, every_at, every_make}

module _ (n : ℕ) (t : ℕ → Bool) where
  -- what stands at a place of the range
  at_place : (k : ℕ) → k < n → get_or (range_with_len 0 n) k 0 ≡ k
  at_place k l = omega (arith, get_or-range_with_len 0 n k 0 l)

  told : (r : Bool)
      → MatchBool r (AllWithin (λ m. t m ≡ true) (range_with_len 0 n) 0 (length (range_with_len 0 n)))
      ((k : ℕ) × (k < length (range_with_len 0 n)) × HoldsAt (λ m. t m ≡ false) (range_with_len 0 n) k)
      → r ≡ every 0 n t
  told true h =
      sym
      (every_make 0 n t (λ k a b.
      let l : k < n = omega arith in
      ap t (sym (at_place k l)) ∙ h k 0 a (omega (arith, length-range_with_len 0 n))))
  told false h = go (every 0 n t) refl
    where
      below : h.0 < n
      below = omega (arith, h.1, length-range_with_len 0 n)

      go : (s : Bool) → every 0 n t ≡ s → false ≡ s
      go false e = refl
      go true e = clash (sym (every_at 0 n t e h.0 (omega arith) (omega (arith, below))) ∙ ap t (sym (at_place h.0 below)) ∙ h.2 0)

  -- the closure gives the test of a number, and changes nothing where it holds
  pub all_every : {F : Type 0} {g : Mut F (ℕ × Unit {0}) Bool} (u : Range ℕ) (f : F) (r : Bool)
      → ChecksAll nat_range_steps g (record { start = 0; end = n }) f r u
      → ((x : ℕ) (q : F) → Called g f (x, tt) true q → (q ≡ f) × (t x ≡ true))
      → ((x : ℕ) (q : F) → Called g f (x, tt) false q → t x ≡ false)
      → r ≡ every 0 n t
  all_every u f r d holds fails =
      told r (cases_from_all u f r (λ m. t m ≡ true) (λ m. t m ≡ false) d (YieldsList-from_range 0 n n refl (omega arith)) holds fails)
