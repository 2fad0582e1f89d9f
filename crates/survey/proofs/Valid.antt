-- The state test is the conjunction of its parts.
use mathlib.Core.Path.{◌≡◌, refl, sym, ◌∙◌}
use mathlib.Core.Bool.{Bool, true, false}
use Rattle.base.specs.Choice.{every}
use Rattle.base.specs.Limits.{Limits, width}
use Rattle.base.proofs.Laws.{clash, both_true, both_make}
use Rattle.node.specs.State.{board_ok, position_ok, tallies_ok, total_ok, first_ok, second_ok, passed_ok, busy_ok, valid}
use Rattle.node.specs.declared.Node.{Node}

pub record Whole (L : Limits) (n : Node) : Type 0 where
  pub board : board_ok L n ≡ true
  pub position : position_ok n ≡ true
  pub tallies : tallies_ok L n ≡ true
  pub total : total_ok L n ≡ true
  pub first : every 0 width (first_ok L n) ≡ true
  pub second : every 0 width (second_ok L n) ≡ true
  pub passed : passed_ok L n ≡ true
  pub busy : busy_ok n ≡ true

pub whole : (L : Limits) (n : Node) → valid L n ≡ true → Whole L n
unfolding valid
whole L n e =
    let a = both_true _ _ e in
    let b = both_true _ _ a.1 in
    let c = both_true _ _ b.1 in
    let d = both_true _ _ c.1 in
    let f = both_true _ _ d.1 in
    let g = both_true _ _ f.1 in
    let h = both_true _ _ g.1 in
    let i = both_true _ _ h.1 in
    record {
      board = a.0;
      position = b.0;
      tallies = c.0;
      total = d.0;
      first = f.0;
      second = g.0;
      passed = h.0;
      busy = i.0;
    }

pub whole_valid : (L : Limits) (n : Node) → Whole L n → valid L n ≡ true
unfolding valid
whole_valid L n w =
    both_make w.board
    (both_make w.position
    (both_make w.tallies
    (both_make w.total
    (both_make w.first (both_make w.second (both_make w.passed (both_make w.busy refl)))))))

-- a test that can't hold
pub fails : (t : Bool) → (t ≡ true → ⊥) → t ≡ false
fails true f = absurd (f refl)
fails false f = refl

-- a test does not hold and hold
pub not_both : {A : Type 0} {t : Bool} → t ≡ true → t ≡ false → A
not_both e f = clash (sym e ∙ f)

pub invalid : (L : Limits) (n : Node) → (Whole L n → ⊥) → valid L n ≡ false
invalid L n f = fails _ (λ e. f (whole L n e))
