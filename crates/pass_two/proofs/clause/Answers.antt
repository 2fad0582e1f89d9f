-- `clause`: the tests in their order, `no_clause` where all hold.
use borrow.Author.Tests.{eq-eqb, ne_eqb}
use mathlib.Core.Path.{◌≡◌, refl, sym, ap, ◌∙◌}
use mathlib.Core.Bool.{true, false}
use Prim.Native.Nat.{◌+◌}
use lib.Dec.{leb, eqb}
use Rattle.base.specs.Choice.{choose}
use Rattle.base.specs.Limits.{limits_of}
use Rattle.base.proofs.Laws.{choose_yes, choose_no}
use Rattle.node.specs.Agree.{is_within}
use Rattle.node.proofs.FirstFailing.{stops, passes, all_hold_lem}
use Rattle.pass_two.proofs.clause.Goals as goal
use Rattle.pass_two.proofs.clause.Goals.{else-last-via-then-last+else-issued-frame, else-last-via-else-last}

pub returns-then-frame-ne1 : goal.returns-then-frame-ne1
returns-then-frame-ne1 c = sym (stops (ne_eqb _ _ c.if-frame-ne1.true)).first

pub returns-then-not-fits : goal.returns-then-not-fits
returns-then-not-fits c =
    let sum = c.args.issued.0 + c.args.frame.issued.0 in
    let stored = eq-eqb _ _ c.if-frame-ne1.false in
    let over : is_within (limits_of c.args.b) sum ≡ false =
    ap (leb sum) (sym c.field_limit.ensures) ∙ sym c.fits.ensures ∙ c.if-not-fits.true in
    sym (passes stored (passes refl (passes refl (stops over)))).first

pub returns-then-frame-agreed : goal.returns-then-frame-agreed
returns-then-frame-agreed c =
    let sum = c.args.issued.0 + c.args.frame.issued.0 in
    let stored = eq-eqb _ _ c.if-frame-ne1.false in
    let good : is_within (limits_of c.args.b) sum ≡ true =
    ap (leb sum) (sym c.field_limit.ensures) ∙ sym c.fits.ensures ∙ c.if-not-fits.false in
    sym
    (passes stored
    (passes refl (passes refl (passes good (passes refl (stops (ne_eqb _ _ c.if-frame-agreed.true))))))).first

pub returns-then-issued-frame : goal.returns-then-issued-frame
returns-then-issued-frame c =
    let sum = c.args.issued.0 + c.args.frame.issued.0 in
    let stored = eq-eqb _ _ c.if-frame-ne1.false in
    let good : is_within (limits_of c.args.b) sum ≡ true =
    ap (leb sum) (sym c.field_limit.ensures) ∙ sym c.fits.ensures ∙ c.if-not-fits.false in
    let same = eq-eqb _ _ c.if-frame-agreed.false in
    sym
    (passes stored
    (passes refl
    (passes refl
    (passes good
    (passes refl (passes same (stops (choose_yes _ true c.if-last.true ∙ ne_eqb _ _ c.if-issued-frame.true)))))))).first

pub returns : goal.returns
returns c =
    let sum = c.args.issued.0 + c.args.frame.issued.0 in
    let stored = eq-eqb _ _ c.if-frame-ne1.false in
    let good : is_within (limits_of c.args.b) sum ≡ true =
    ap (leb sum) (sym c.field_limit.ensures) ∙ sym c.fits.ensures ∙ c.if-not-fits.false in
    let same = eq-eqb _ _ c.if-frame-agreed.false in
    let ok : choose c.args.last (eqb sum c.args.agreed) true ≡ true =
    elim c.else-last.branch [
      | else-last-via-then-last+else-issued-frame w ↦ choose_yes _ true w.if-last.true ∙ eq-eqb _ _ w.if-issued-frame.false
      | else-last-via-else-last w ↦ choose_no _ true w.if-last.false
    ] in
    sym (all_hold_lem _ _ _ _ _ _ _ (rw (stored, good, same, ok)))
