-- `look` answers `look_turn`.
use borrow.Author.Rules.{rules}
use borrow.Author.Tests.{leb-true, ltb-true, eq-eqb, ne_eqb, not-true, not-false}
use native.Mathlib.Omega.{arith}
use mathlib.Core.Path.{◌≡◌, sym, ◌∙◌}
use mathlib.Core.Bool.{true}
use mathlib.Core.List.{List}
use Prim.Native.Nat.{ℕ, ◌≤◌, ◌<◌}
use lib.Dec.{leb, ltb}
use lib.ListN.{length}
use Rattle.base.proofs.Laws.{choose_yes, choose_no, both_true}
use Rattle.node.specs.Agree.{no_clause}
use Rattle.layout.specs.Places.{head_words, at_dim}
use Rattle.layout.specs.Held.{word}
use Rattle.node_look.specs.Looks.{has_step, look_turn}
use Rattle.node_look.proofs.look.Statement.{statement}
use Rattle.node_look.proofs.look.Tie as tie

returns : tie.Need-returns-then-not-has_step
unfolding look_turn
returns c = sym (choose_no _ _ (sym c.has_step.ensures ∙ c.if-not-has_step.true))

-- the words have a position
module _ (c : tie.Else-not-has_step) where
  abbrev s : tie.Start
  s = c.before.before.before

  abbrev ws : List ℕ
  ws = s.args.s.now

  step : has_step ws s.args.p ≡ true
  step = sym c.has_step.ensures ∙ c.if-not-has_step.false

  known : (head_words ≤ length ws) × (word ws at_dim < s.args.p)
  known =
      let a = both_true (leb head_words (length ws)) (ltb (word ws at_dim) s.args.p) step in
      (leb-true _ _ a.0, ltb-true _ _ a.1)

returns_2 : tie.Need-returns-then-clause-ne-NO_CLAUSE
unfolding look_turn
returns_2 c = sym (choose_yes _ _ (step c.before) ∙ choose_no _ _ (ne_eqb _ no_clause c.if-clause-ne-NO_CLAUSE.true))

shared-slice-read-onward : tie.Need-bounds-s-5
shared-slice-read-onward c = omega (arith, (known c.before.before).0)

cast-onward : tie.Need-overflow_cast-s
cast-onward c =
    let e = c.before.before in
    record { fits = omega (arith, (known e).1, (s e).ranges.p) }

returns_3 : tie.Need-returns
unfolding look_turn
returns_3 c =
    let e = c in
    c.onward.ensures ∙ sym (choose_yes _ _ (step e.before.before.before) ∙ choose_yes _ _ (eq-eqb _ no_clause e.if-clause-ne-NO_CLAUSE.false))

pub look_spec : {M : Type 1} → statement M
look_spec =
    tie.close
    (tie.spec (λ c κs. search rules) returns (λ c. search rules) returns_2 shared-slice-read-onward cast-onward
    (λ c κs. search rules) returns_3)
