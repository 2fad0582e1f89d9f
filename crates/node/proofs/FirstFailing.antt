-- The first clause that fails: it fails, and all with lower numbers hold. Of seven clauses it is `no_clause` where none fails.
use mathlib.Core.Path.{◌≡◌, refl, sym, ◌∙◌}
use mathlib.Core.Bool.{Bool, true, false}
use mathlib.Core.List.{List, [], ◌∷◌}
use Prim.Native.Nat.{ℕ, zero, suc, ◌<◌}
use native.Mathlib.Omega.{arith}
use lib.Dec.{eqb}
use lib.ListN.{get_or}
use borrow.Author.Tests.{eq-eqb, eqb-true}
use Rattle.base.proofs.Laws.{clash}
use Rattle.node.specs.Agree.{all_hold, first_failing, no_clause}

-- a clause that fails, and those with lower numbers hold
pub record Lowest (cs : List Bool) (c : ℕ) : Type 0 where
  pub fails : get_or cs c true ≡ false
  pub lower : (i : ℕ) → i < c → get_or cs i true ≡ true

pub lowest : (cs : List Bool) → all_hold cs ≡ false → Lowest cs (first_failing cs)
unfolding first_failing
lowest [] e = clash e
lowest (false ∷ cs) e = record { fails = refl; lower = λ i h. absurd (omega arith) }
lowest (true ∷ cs) e =
    let l = lowest cs e in
    record { fails = l.fails; lower = λ i h. before i h l.lower }
  where
    before : (i : ℕ) → i < suc (first_failing cs) → ((j : ℕ) → j < first_failing cs → get_or cs j true ≡ true)
        → get_or (true ∷ cs) i true ≡ true
    before zero h q = refl
    before (suc i) h q = q i (omega arith)

-- not all hold, and the first that fails is c
pub record Named (cs : List Bool) (c : ℕ) : Type 0 where
  pub some : all_hold cs ≡ false
  pub first : first_failing cs ≡ c

pub stops : {t : Bool} {cs : List Bool} → t ≡ false → Named (t ∷ cs) 0
unfolding first_failing
stops e = record { some = rw e; first = rw e }

pub passes : {t : Bool} {cs : List Bool} {c : ℕ} → t ≡ true → Named cs c → Named (t ∷ cs) (suc c)
unfolding first_failing
passes e n = record { some = rw (e, n.some); first = rw (e, n.first) }

-- ---- Seven clauses: the first that fails is `no_clause` where all hold, and only there

pub seven : (a b c d e f g : Bool)
    → let cs = a ∷ b ∷ c ∷ d ∷ e ∷ f ∷ g ∷ [] in eqb (first_failing cs) no_clause ≡ all_hold cs
unfolding first_failing
seven false b c d e f g = refl
seven true false c d e f g = refl
seven true true false d e f g = refl
seven true true true false e f g = refl
seven true true true true false f g = refl
seven true true true true true false g = refl
seven true true true true true true false = refl
seven true true true true true true true = refl

pub none_fails : (a b c d e f g : Bool)
    → let cs = a ∷ b ∷ c ∷ d ∷ e ∷ f ∷ g ∷ [] in first_failing cs ≡ no_clause → all_hold cs ≡ true
none_fails a b c d e f g q = sym (seven a b c d e f g) ∙ eq-eqb _ _ q

pub all_hold_lem : (a b c d e f g : Bool)
    → let cs = a ∷ b ∷ c ∷ d ∷ e ∷ f ∷ g ∷ [] in all_hold cs ≡ true → first_failing cs ≡ no_clause
all_hold_lem a b c d e f g q = eqb-true _ _ (seven a b c d e f g ∙ q)
