-- Functions changed at one place, as the board and as the ledger has them.
use mathlib.Core.Path.{◌≡◌, refl, sym, subst}
use mathlib.Core.Logic.{◌≢◌}
use mathlib.Core.Bool.{Bool, true, false}
use Prim.Native.Nat.{ℕ}
use native.Mathlib.Decide.{ℕ_discrete}
use lib.Dec.{eqb}
use borrow.Author.Tests.{eqb-true, eqb-false, eq-eqb, ne_eqb}
use Rattle.base.specs.Choice.{choose}
use Rattle.base.proofs.Laws.{choose_yes, choose_no, cases}
use Rattle.node.specs.Change.{at}
use Rattle.events.specs.Board.{put}
use Rattle.cycle.proofs.Sums.{pick, update}

-- a choice by a test and one by a decision
bridge : {A B : Type 0} (t : Bool) (d : Dec B) (x y u v : A) → (t ≡ true → B) → (t ≡ false → B → ⊥)
    → (B → x ≡ u) → ((B → ⊥) → y ≡ v) → choose t x y ≡ pick d u v
bridge true (yes b) x y u v f g p q = p b
bridge true (no n) x y u v f g p q = absurd (n (f refl))
bridge false (yes b) x y u v f g p q = absurd (g refl b)
bridge false (no n) x y u v f g p q = q n

-- ---- a function changed at one place

pub put_same : {A : Type 0} (f : ℕ → A) (i : ℕ) (v : A) → put f i v i ≡ v
put_same f i v = choose_yes v (f i) (eq-eqb i i refl)

pub put_other : {A : Type 0} (f : ℕ → A) (i : ℕ) (v : A) (j : ℕ) → j ≢ i → put f i v j ≡ f j
put_other f i v j n = choose_no v (f j) (ne_eqb j i n)

pub put_all : {A : Type 0} (F : ℕ → A → Type 0) (f : ℕ → A) (i : ℕ) (v : A) → F i v
    → ((j : ℕ) → j ≢ i → F j (f j)) → (j : ℕ) → F j (put f i v j)
put_all F f i v at rest j =
    cases (F j) (eqb j i) v (f j) (λ e. subst (λ k. F k v) (sym (eqb-true j i e)) at) (λ e. rest j (eqb-false j i e))

pub put_update : {A : Type 0} (f : ℕ → A) (i : ℕ) (v : A) (j : ℕ) → put f i v j ≡ update f i v j
put_update f i v j =
    bridge (eqb j i) (ℕ_discrete j i) v (f j) v (f j) (eqb-true j i) (eqb-false j i) (λ b. refl) (λ n. refl)
