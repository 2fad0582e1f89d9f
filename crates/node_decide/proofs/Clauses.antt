-- The clause that a scan names for the position: `no_clause` where its step agrees, else the first that fails.
use mathlib.Core.Path.{◌≡◌, refl, sym, ap, ◌∙◌}
use mathlib.Core.Bool.{Bool, true, false}
use mathlib.Core.List.{List, [], ◌∷◌}
use Prim.Native.Nat.{suc, ◌%◌, ◌≤◌}
use native.Mathlib.Nat.{mod-eq_of_lt}
use native.Mathlib.Omega.{arith}
use lib.Dec.{eqb, eqb-suc-suc}
use lib.ListN.{length}
use borrow.Author.Tests.{ne_eqb}
use Rattle.base.specs.Choice.{choose}
use Rattle.base.specs.Limits.{Limits}
use Rattle.base.proofs.Laws.{clash, cases}
use Rattle.node.specs.Agree.{is_alone, first_clauses, second_clauses, clauses, all_hold, agrees, first_failing, no_clause}
use Rattle.node.specs.declared.Node.{Node}
use Rattle.scanned.specs.Scan.{clause_here}

-- the first that fails is past the last where all hold, and only there
past_last : (cs : List Bool) → all_hold cs ≡ eqb (first_failing cs) (length cs)
unfolding first_failing
past_last [] = refl
past_last (true ∷ cs) = past_last cs ∙ sym (eqb-suc-suc (first_failing cs) (length cs))
past_last (false ∷ cs) = sym (ne_eqb 0 (suc (length cs)) (λ q. omega arith))

not_past : (cs : List Bool) → first_failing cs ≤ length cs
unfolding first_failing
not_past [] = omega arith
not_past (true ∷ cs) = omega (arith, not_past cs)
not_past (false ∷ cs) = omega arith

module _ (L : Limits) (n : Node) where
  abbrev tests : List Bool
  tests = clauses L n n.pass n.dim

  seven : length tests ≡ no_clause
  unfolding first_clauses second_clauses
  seven = cases (λ (l : List Bool). length l ≡ no_clause) (eqb n.pass 1) _ _ (λ e. refl) (λ e. refl)

  pub agrees_here : agrees L n n.pass n.dim ≡ eqb (clause_here L n) no_clause
  unfolding agrees
  agrees_here = go (is_alone n n.dim)
    where
      go : (t : Bool) → choose t true (all_hold tests) ≡ eqb (choose t no_clause (first_failing tests)) no_clause
      go true = refl
      go false = past_last tests ∙ ap (eqb (first_failing tests)) seven

  pub fails_here : eqb (clause_here L n) no_clause ≡ false → first_failing tests ≡ clause_here L n % 256
  fails_here = go (is_alone n n.dim)
    where
      go : (t : Bool) → let c = choose t no_clause (first_failing tests) in eqb c no_clause ≡ false → first_failing tests ≡ c % 256
      go true e = clash e
      go false e = sym (mod-eq_of_lt (omega (arith, not_past tests, seven)))
