-- `stated_on` is the length of a frame on a board within the limits, and never above that of a place.
use borrow.Author.Rules.{rules}
use native.Mathlib.Omega.{arith}
use mathlib.Core.Path.{◌≡◌, sym, ap, ◌∙◌}
use Prim.Native.Nat.{◌≤◌}
use Rattle.base.specs.Limits.{base, width}
use Rattle.base.proofs.Laws.{clash}
use Rattle.tree.specs.Tree.{dimension}
use Rattle.base.specs.Refusal.{answered}
use Rattle.tree.proofs.Dimension.{smallest}
use Rattle.tree.proofs.Lookups.{board_good, dimension_refused, dimension_found}
use Rattle.frame.specs.Frame.{frame_length}
use Rattle.under_way.proofs.stated_on.Statement.{statement}
use Rattle.under_way.proofs.stated_on.Tie as tie

returns : tie.Need-returns-in_default
returns c =
    let d = c.dimension_of in
    let bad = (dimension_refused base _ _ (sym d.ensures ∙ ap answered c.in_default.is)).0 in
    (λ g. clash (sym bad ∙ g), omega arith)

-- a board that has a dimension is within the limits
found : (c : tie.In-Ok)
    → (c.in-Ok.d ≡ dimension c.args.size) × (c.in-Ok.d ≤ width)
found c =
    let d = c.dimension_of in
    let e = dimension_found base _ _ (sym d.ensures ∙ ap answered c.in-Ok.is) in
    let b = board_good base c.args.size e.0 in
    (e.1, omega (arith, e.1, smallest c.args.size width (omega arith)))

stated-requires : tie.Need-stated-requires
stated-requires c κs = (found c).1

returns_2 : tie.Need-returns
returns_2 c =
    let x = c.args in
    let e = ap (λ p. frame_length p x.pass x.k) (found c.before).0 in
    (λ g. c.stated.ensures.0 ∙ e, c.stated.ensures.1)

pub stated_on_spec : {M : Type 1} → statement M
stated_on_spec =
    tie.close
    (tie.spec (λ c κs. search rules) (λ c. search rules) (λ c. search rules) returns (λ c. search rules)
    stated-requires returns_2)
