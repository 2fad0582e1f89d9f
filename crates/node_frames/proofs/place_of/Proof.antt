-- `place_of` is `frame_place`.
use borrow.Author.Rules.{rules}
use borrow.Author.Tests.{eq-eqb, ne_eqb}
use native.Mathlib.Omega.{arith}
use mathlib.Core.Path.{◌≡◌, sym, ◌∙◌}
use Rattle.base.proofs.Laws.{choose_yes, choose_no}
use Rattle.layout.specs.Places.{at_first, at_second}
use Rattle.layout.proofs.Offsets.{first_end, first_found}
use Rattle.node_frames.proofs.place_of.Statement.{statement}
use Rattle.node_frames.proofs.place_of.Tie as tie

-- the words of dimension k begin there
begins : (c : tie.After-first_at-at) → let x = c.args in c.first_at-at.result ≡ at_first x.p x.k
begins c = first_found _ _ _ c.requires.0 c.first_at-at.ensures

add-result : tie.Need-overflow_add-result
add-result c =
    let x = c in
    omega (arith, begins c.before, first_end x.args.p x.args.k x.requires.0 x.requires.1)

add-result-2 : tie.Need-overflow_add-result-else-pass-eq1
add-result-2 c =
    let x = c in
    omega (arith, begins c.before, first_end x.args.p x.args.k x.requires.0 x.requires.1)

returns : tie.Need-returns-then-pass-eq1
returns c = begins c.before ∙ sym (choose_yes _ _ (eq-eqb _ _ c.if-pass-eq1.true))

returns_2 : tie.Need-returns-else-pass-eq1
returns_2 c =
    let x = c.args in
    sym (choose_no _ (at_second x.p x.k) (ne_eqb _ _ c.if-pass-eq1.false) ∙ omega (arith, begins c.before))

pub place_of_spec : {M : Type 1} → statement M
place_of_spec =
    tie.close
    (tie.spec (λ c. search rules) (λ c. search rules) (λ c κs. search rules) (λ c. search rules) (λ c. search rules)
    add-result add-result-2 returns returns_2)
