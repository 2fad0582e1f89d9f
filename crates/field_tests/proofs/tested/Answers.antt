-- `tested` answers `tested_on`: each test is the definition's, in its order.
use Rattle.std.proofs.Common.{rules, ◌≡◌, Err, le-leb}
use borrow.Author.Tests.{lt-leb}
use mathlib.Core.Path.{sym, ap, ◌∙◌}
use Rattle.base.specs.Refusal.{answered, refused}
use Rattle.tree.proofs.Lookups.{dimension_refused, dimension_found}
use Rattle.field_tests.proofs.tested.Goals as goal

pub returns-in_err-p : goal.returns-in_err-p
returns-in_err-p c =
    let passed : c.from_residual.result ≡ Err c.in_err-p.field-0.0 = search rules in
    let b = dimension_refused _ _ _ (sym c.in_err-p.ensures) in
    ap answered passed ∙ rw b.0 (ap refused b.1)

pub returns-then-fields-ge256 : goal.returns-then-fields-ge256
returns-then-fields-ge256 c =
    let k = dimension_found _ _ _ (sym c.in_ok-p.ensures) in
    rw (k.0, le-leb _ _ c.if-fields-ge256.true)

pub returns-then-step_bad : goal.returns-then-step_bad
returns-then-step_bad c =
    let k = dimension_found _ _ _ (sym c.in_ok-p.ensures) in
    rw (k.0, lt-leb _ _ c.if-fields-ge256.false, ← k.1, ← c.if-step_bad.ensures)

pub returns-then-not-numbers_ok : goal.returns-then-not-numbers_ok
returns-then-not-numbers_ok c =
    let k = dimension_found _ _ _ (sym c.in_ok-p.ensures) in
    rw (
      k.0,
      lt-leb _ _ c.if-fields-ge256.false,
      ← k.1,
      ← c.if-step_bad.ensures,
      ← c.if-not-numbers_ok.ensures,
    )

pub returns-then-nodes-fields : goal.returns-then-nodes-fields
returns-then-nodes-fields c =
    let k = dimension_found _ _ _ (sym c.in_ok-p.ensures) in
    rw (
      k.0,
      lt-leb _ _ c.if-fields-ge256.false,
      ← k.1,
      ← c.if-step_bad.ensures,
      ← c.if-not-numbers_ok.ensures,
      le-leb _ _ c.if-nodes-fields.true,
    )

pub returns : goal.returns
returns c =
    let k = dimension_found _ _ _ (sym c.in_ok-p.ensures) in
    rw (
      k.0,
      lt-leb _ _ c.if-fields-ge256.false,
      ← k.1,
      ← c.if-step_bad.ensures,
      ← c.if-not-numbers_ok.ensures,
      lt-leb _ _ c.if-nodes-fields.false,
    )
