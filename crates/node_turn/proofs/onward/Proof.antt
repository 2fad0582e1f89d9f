-- `onward` answers `onward_turn`.
use borrow.Author.Rules.{rules}
use borrow.Author.Tests.{lt-ltb, le-ltb, le-leb, lt-leb, eq-eqb, ne_eqb}
use native.Mathlib.Numerals.{add-one}
use native.Mathlib.Omega.{arith}
use mathlib.Core.Path.{◌≡◌, sym, ap, ◌∙◌}
use Prim.Native.Nat.{ℕ, suc, ◌+◌}
use lib.Dec.{eqb}
use Rattle.base.specs.Choice.{choose}
use Rattle.base.proofs.Laws.{choose_yes, choose_no}
use Rattle.layout.specs.Held.{word}
use Rattle.node_turn.specs.Turn.{onward_turn}
use Rattle.node_turn.specs.declared.Turn.TheVariants.{Moves, Leaves}
use Rattle.layout.specs.Places.{at_pass, at_agreed}
use Rattle.node_turn.proofs.onward.Statement.{statement}
use Rattle.node_turn.proofs.onward.Tie as tie

returns : tie.Need-returns-then-p-k
unfolding onward_turn
returns c = sym (choose_yes _ _ (le-leb _ _ c.if-p-k.true))

returns_2 : tie.Need-returns-then-k-p
unfolding onward_turn
returns_2 c =
    let t = c in
    let w = t in
    let a = w.args in
    let e : a.k + 1 ≡ suc a.k = add-one a.k in
    (λ i. Moves (w.word_at-pass.ensures i) (e i) (c.word_at.ensures i))
    ∙ sym
    (choose_no _ _ (lt-leb _ _ w.if-p-k.false)
    ∙ choose_yes _ _ (lt-ltb (suc a.k) a.p (omega (arith, t.if-k-p.true))))

-- the last dimension
module _ (c : tie.Else-k-p) where
  abbrev w : tie.After-word_at-pass
  w = c.before

  abbrev s : tie.Start
  s = w.before.before.before

  last : (total : ℕ) → let a = s.args in
      choose (eqb w.word_at-pass.result 1) (Moves 2 0 total) Leaves
      ≡ onward_turn a.p (word a.s.now at_pass) a.k (word a.s.now at_agreed) total
  unfolding onward_turn
  last total =
      let a = s.args in
      ap (λ pass. choose (eqb pass 1) (Moves 2 0 total) Leaves) w.word_at-pass.ensures
      ∙ sym
      (choose_no _ _ (lt-leb _ _ w.if-p-k.false)
      ∙ choose_no _ _ (le-ltb (suc a.k) a.p (omega (arith, c.if-k-p.false))))

returns_3 : tie.Need-returns-then-pass-eq1
returns_3 c = sym (choose_yes _ _ (eq-eqb _ _ c.if-pass-eq1.true)) ∙ last c.before _

returns-4 : tie.Need-returns
returns-4 c = sym (choose_no _ _ (ne_eqb _ _ c.if-pass-eq1.false)) ∙ last c.before _

pub onward_spec : {M : Type 1} → statement M
onward_spec =
    tie.close
    (tie.spec returns (λ c κs. search rules) (λ c. search rules) (λ c. search rules) (λ c κs. search rules) returns_2
    returns_3 returns-4)
