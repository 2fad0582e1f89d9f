-- `head_of`: the tests of the length and the board, then the head on that board.
use Rattle.std.proofs.Common.{arith, ◌≤◌}
use mathlib.Core.Path.{sym, ap, ◌∙◌}
use Rattle.base.specs.Limits.{limits_of, width}
use Rattle.base.proofs.Laws.{clash}
use Rattle.base.proofs.Limits.{fits_of}
use Rattle.tree.proofs.Lookups.{dimension_refused, dimension_found}
use Rattle.layout.specs.Places.{state_words}
use Rattle.layout.proofs.Whole.{few}
use Rattle.head.proofs.Heads.{no_head_lem, short}
use Rattle.head.proofs.head_of.Goals as goal

pub returns-then-s : goal.returns-then-s
returns-then-s c =
    let L = limits_of c.args.b in
    let ws = c.args.s.now in
    no_head_lem L ws (short L ws c.if-s.true) _ c.no_head.ensures

pub returns-in_default : goal.returns-in_default
returns-in_default c =
    let L = limits_of c.args.b in
    let bad = dimension_refused L _ _ (sym c.in_default.ensures) in
    no_head_lem L c.args.s.now (λ p. clash (sym bad.0 ∙ p.good)) _ c.no_head-in_default.ensures

pub overflow_cast-p : goal.overflow_cast-p
overflow_cast-p c =
    let L = limits_of c.args.b in
    let k = dimension_found L _ _ (sym c.in-Ok.ensures) in
    let fit = fits_of c.args.b (omega (arith, c.well_formed.0)) in
    let low : c.in-Ok.p ≤ width = omega (arith, k.1, few L fit c.args.s.now k.0) in
    record { fits = omega (arith, low) }

pub returns-then-s-state_words : goal.returns-then-s-state_words
returns-then-s-state_words c =
    let L = limits_of c.args.b in
    let k = dimension_found L _ _ (sym c.in-Ok.ensures) in
    no_head_lem L c.args.s.now
    (λ q. omega (arith, ap state_words k.1, q.long, c.state_words.ensures, c.if-s-state_words.true)) _
    c.no_head-then-s-state_words.ensures

pub head_on-requires : goal.head_on-requires
head_on-requires c =
    let k = dimension_found (limits_of c.args.b) _ _ (sym c.in-Ok.ensures) in
    record { board = k.0; dims = k.1; long = omega (arith, c.state_words.ensures, c.if-s-state_words.false) }
