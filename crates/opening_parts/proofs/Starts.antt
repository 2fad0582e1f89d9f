-- A board that has just started, place by place.
use mathlib.Core.Path.{◌≡◌, sym, ap, subst, ◌∙◌}
use mathlib.Core.List.{List}
use Prim.Native.Nat.{ℕ, ◌+◌, ◌<◌}
use native.Mathlib.Omega.{arith}
use lib.Dec.{ltb}
use native.Mathlib.Decide.{dec_lt}
use lib.ListN.{set, replicate}
use borrow.Author.Tests.{lt-ltb, le-ltb}
use Rattle.base.specs.Choice.{choose, list}
use Rattle.base.proofs.Laws.{choose_yes, list_set}
use Rattle.states.specs.Words.{no_state, fresh_state}
use Rattle.states.specs.declared.State.{State}
use Rattle.board_states.specs.States.{opening}

module _ {A : Type 0} (f : ℕ → A) (d : A) where
  abbrev below : ℕ → ℕ → A
  below a k = choose (ltb k a) (f k) d

  same : (a j : ℕ) → (j ≡ a → ⊥) → below a j ≡ below (a + 1) j
  same a j n = ap (λ t. choose t (f j) d) (go (dec_lt j a))
    where
      go : Dec (j < a) → ltb j a ≡ ltb j (a + 1)
      go (yes h) = lt-ltb j a h ∙ sym (lt-ltb j (a + 1) (omega arith))
      go (no h) = le-ltb j a (omega arith) ∙ sym (le-ltb j (a + 1) (omega arith))

  -- the next place is filled
  more : (n a : ℕ) → a < n → set (list 0 n (below a)) a (f a) ≡ list 0 n (below (a + 1))
  more n a h =
      subst (λ x. set (list 0 n (below a)) a x ≡ list 0 n (below (a + 1)))
      (let z : 0 + a ≡ a = omega arith in ap (below (a + 1)) z ∙ choose_yes (f a) d (lt-ltb a (a + 1) (omega arith)))
      (list_set 0 n (below a) (below (a + 1)) a h (λ j l u e. same a j (λ z. e (omega (arith, z)))))

-- a board whose places below a are filled
unfoldable pub filled : ℕ → ℕ → List State
filled size a = list 0 16 (λ k. choose (ltb k a) (fresh_state size k) no_state)

pub fill_none : (size : ℕ) (s : State) → s ≡ no_state → replicate 16 s ≡ filled size 0
unfolding filled
fill_none size s e = ap (replicate 16) e

pub fill_next : (size a : ℕ) → a < 16 → set (filled size a) a (fresh_state size a) ≡ filled size (a + 1)
unfolding filled
fill_next size a h = more (fresh_state size) no_state 16 a h

pub fill_all : (size a : ℕ) → a ≡ 16 → record { states = filled size a; size = size; under = 0 } ≡ opening size
unfolding filled
fill_all size a e = ap (λ k. record { states = filled size k; size = size; under = 0 }) e
