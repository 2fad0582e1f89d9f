-- The words of the walk: one after the other, each once.
use mathlib.Core.Path.{◌≡◌, refl, ap, ◌∙◌}
use mathlib.Core.List.{◌++◌}
use Prim.Native.Nat.{ℕ, zero, suc, ◌+◌, ◌-◌}
use native.Mathlib.Omega.{arith}
use Rattle.base.specs.Choice.{list}
use Rattle.layout.specs.Places.{first_words, second_words, step_words, at_first, at_second}
use Rattle.layout.proofs.Offsets.{first_up, first_more}
use Rattle.walked.specs.Walk.{places_read}
use Rattle.walked.proofs.Rows.{list_join}

pub in_order_lem : (p k : ℕ) → places_read p k ≡ list (at_first p 0) (at_first p k - at_first p 0) (λ i. i)
unfolding places_read
in_order_lem p zero = let e : at_first p 0 - at_first p 0 ≡ 0 = omega arith in rw e
in_order_lem p (suc k) =
    let a = at_first p 0 in
    let here = at_first p k in
    let up = first_up p 0 k (omega arith) in
    let e : here - a + step_words p k ≡ at_first p (suc k) - a = omega (arith, first_more p k) in
    (λ i. in_order_lem p k i ++ list_join here (first_words p k) (at_second p k) second_words (λ j. j) refl i)
    ∙ list_join a (here - a) here (step_words p k) (λ i. i) (omega arith)
    ∙ ap (λ c. list a c (λ i. i)) e
