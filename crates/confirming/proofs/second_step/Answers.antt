-- `second_step` is `confirm_step`: before the position by its clauses, elsewhere what is stored may be there; at the position both.
use native.Mathlib.Omega.{arith}
use mathlib.Core.Path.{◌≡◌, sym, ap, ◌∙◌}
use Rattle.base.specs.Limits.{limits_of}
use Rattle.base.proofs.Limits.{fits_of}
use Rattle.confirming.specs.Step.{added}
use Rattle.base.proofs.Laws.{clash}
use Rattle.scan_tests.specs.Tests.{may_confirm}
use Rattle.confirming.proofs.Confirming.{sum_low, tried, before_position, at_position, other_step}
use Rattle.confirming.proofs.second_step.Goals as goal
use Rattle.confirming.proofs.second_step.Goals.{then-awaits+else-k-past+then-k-past-2, then-awaits+else-k-past+else-k-past-2, else-awaits}

pub confirmed-requires : goal.confirmed-requires
confirmed-requires c =
    let a = c.args in
    λ q.
    sum_low (limits_of a.b) c.is_last.result a.walked.issued.0 a.agreed a.frame
    (fits_of a.b (omega (arith, c.well_formed.0))) (sym c.clause.ensures ∙ q)

pub returns-then-k-past : goal.returns-then-k-past
returns-then-k-past c =
    let a = c.args in
    c.confirmed.ensures
    ∙ ap (added a.walked a.frame.issued.0)
    (tried (limits_of a.b) a.frame a.p a.k a.awaits a.past a.walked a.agreed _ _ c.clause.ensures c.is_last.ensures)
    ∙ before_position (limits_of a.b) a.frame a.p a.k a.awaits a.past a.walked a.agreed c.if-awaits.true c.if-k-past.true

pub returns : goal.returns
returns c =
    let a = c.args in
    let L = limits_of a.b in
    let ok = may_confirm a.frame.mark a.frame.agreed a.frame.issued.0 a.awaits in
    let q = ◌∙◌ {b = ok c.field_limit-limit.result} c.may_confirm.ensures (ap ok c.field_limit-limit.ensures) in
    elim c.if-awaits.branch [
      | then-awaits+else-k-past+then-k-past-2 w ↦
          at_position L a.frame a.p a.k a.awaits a.past a.walked a.agreed _ q c.if-awaits.clause (omega (arith, w.if-k-past.false))
          w.if-awaits.true w.if-k-past-2.true
          (w.clause-is
          ∙ tried L a.frame a.p a.k a.awaits a.past a.walked a.agreed _ _ w.clause-clause.ensures w.is_last-then-k-past-2.ensures)
      | then-awaits+else-k-past+else-k-past-2 w ↦
          other_step L a.frame a.p a.k a.awaits a.past a.walked a.agreed _ q c.if-awaits.clause
          (λ u. (omega (arith, w.if-k-past.false), w.if-k-past-2.false)) w.clause-is
      | else-awaits w ↦
          other_step L a.frame a.p a.k a.awaits a.past a.walked a.agreed _ q c.if-awaits.clause
          (λ u. clash (sym u ∙ w.if-awaits.false)) w.clause-is
    ]
