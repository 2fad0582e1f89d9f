-- The tree of partners, for two nodes or more, is a tree.
use mathlib.Core.Path.{◌≡◌, refl, sym, ap, ◌∙◌}
use mathlib.Core.Logic.{◌≢◌, ◌⊎◌, inl, inr}
use mathlib.Core.Option.{some}
use mathlib.Core.List.Memᴰ
use mathlib.Core.List.{List, [], ◌∷◌, ◌++◌, Memᴰ}
use Prim.Native.Nat.{ℕ, suc, ◌+◌, ◌≤◌, ◌<◌}
use native.Mathlib.Omega.{arith}
use Rattle.tree.specs.Tree.{dimension, run_of, awaited, receivers, distance}
use Rattle.tree.specs.Tree.{Run}
use Rattle.tree.proofs.Dimension.{positive}
use Rattle.tree.proofs.Runs.{In, size, run_zero, run_top, run_has, run_same}
use Rattle.tree.proofs.Halves.{Joined, before, after, joined, awaited_below, alone_keeps, alone_not_last}
use Rattle.tree.proofs.Places.{awaits_receives, receives_awaits}
use Rattle.tree.proofs.Distances.{near, nearer}
use Rattle.cycle.proofs.Lists.{All}
use Rattle.cycle.proofs.Tree.{Tree, Meet, left, right}
use Rattle.cycle.proofs.OnePhase.{Shell}

abbrev low_of : ℕ → ℕ → ℕ → ℕ
low_of P k a = (run_of P k a).low

abbrev size_of : ℕ → ℕ → ℕ → ℕ
size_of P k a = size (run_of P k a)

-- a node of a run, by the run's size
pub within : (r : Run) (a b : ℕ) → In r a → (r.low ≤ b) × (b < r.low + size r) → In r b
within r a b i h = omega arith

pub sides : (P k a b : ℕ) → a < P → b < P → Joined (run_of P k a) (run_of P k b) (run_of P (suc k) a)
    → Meet (low_of P) (size_of P) k a b
sides P k a b ha hb (before e f) =
    let i = run_has P k a ha in
    let j = run_has P k b hb in
    right (omega arith) (ap (λ (r : Run). r.low) f) (ap size f ∙ (omega arith))
sides P k a b ha hb (after e f) =
    let i = run_has P k a ha in
    let j = run_has P k b hb in
    left (omega arith) (ap (λ (r : Run). r.low) f) (ap size f ∙ (omega arith))

unfoldable pub partners : (P : ℕ) → 2 ≤ P → Tree P (dimension P)
partners P confirming =
    record {
      low = low_of P;
      size = size_of P;
      awaited = awaited P;
      low_zero = λ a h. ap (λ (r : Run). r.low) (run_zero P a h);
      size_zero = λ a h. ap size (run_zero P a h) ∙ (omega arith);
      low_top = λ a h. ap (λ (r : Run). r.low) (run_top P a);
      size_top = λ a h. ap size (run_top P a) ∙ (omega arith);
      below = λ k a w l h e. awaited_below P k a l h w e;
      alone = λ k a l h e. let q = alone_keeps P k a l h e in (ap (λ (r : Run). r.low) q, ap size q);
      meet = λ k a w l h e. sides P k a w h (awaited_below P k a l h w e) (joined P k a l h w e);
      positive = positive P confirming;
      self = λ k a h. let i = run_has P k a h in omega arith;
      same =
          λ k a y h i.
          let s = run_same P k a y h (within (run_of P k a) a y (run_has P k a h) i) in
          (s.0, ap (λ (r : Run). r.low) s.1, ap size s.1);
      not_last = λ k a h e q. alone_not_last P k a (omega arith) h confirming e q;
    }

-- c stands somewhere in the list
abbrev pub Among : List ℕ → ℕ → Type 0
Among rs c = (xs : List ℕ) × ((ys : List ℕ) × (rs ≡ xs ++ c ∷ ys))

among : (c : ℕ) (rs : List ℕ) → Memᴰ c rs → Among rs c
among c [] m = absurd (Memᴰ.not-nil m)
among c (r ∷ rs) m = go (Memᴰ.cases_cons m) (among c rs)
  where
    go : (c ≡ r) ⊎ Memᴰ c rs → (Memᴰ c rs → Among rs c) → Among (r ∷ rs) c
    go (inl e) h = ([], (rs, ap (λ x. x ∷ rs) (sym e)))
    go (inr n) h = let q = h n in (r ∷ q.0, (q.1.0, ap (λ l. r ∷ l) q.1.1))

all_of : (F : ℕ → Type 0) (rs : List ℕ) → ((c : ℕ) → Memᴰ c rs → F c) → All F rs
all_of F [] h = tt
all_of F (r ∷ rs) h = (h r (Memᴰ.head refl), all_of F rs (λ c m. h c (Memᴰ.tail m)))

module _ (P : ℕ) (confirming : 2 ≤ P) where
  pub await_is : (k a : ℕ) → (partners P confirming).awaited k a ≡ awaited P k a
  unfolding partners
  await_is k a = refl

  -- whoever awaits a hears a
  pub hear : (k a c : ℕ) → c < P → (partners P confirming).awaited k c ≡ some a → Among (receivers P k a) c
  hear k a c h e = among c (receivers P k a) (awaits_receives P k a c h (sym (await_is k c) ∙ e))

  pub receivers_await : (k a : ℕ) → a < P
      → All (λ c. (c < P) × ((partners P confirming).awaited k c ≡ some a)) (receivers P k a)
  receivers_await k a h =
      all_of (λ c. (c < P) × ((partners P confirming).awaited k c ≡ some a)) (receivers P k a)
      (λ c m. let r = receives_awaits P k a c h m in (r.0, await_is k c ∙ r.1))

  -- the distance is the shell
  pub shell_ok_lem : (a b : ℕ) → a < P → b < P → a ≢ b → Shell (partners P confirming) a b (distance P a b)
  unfolding partners
  shell_ok_lem a b ha hb ne k l = (
    (λ i. near P a b ha ne hb k l (within (run_of P k a) a b (run_has P k a ha) i)),
    (λ d. let i = nearer P a b ha ne hb k l d in omega arith),
  )
