-- `first_step`: before the position by its clauses, at the position by a look, elsewhere what is stored may be there.
use native.Mathlib.Omega.{arith}
use mathlib.Core.Path.{sym, ap, ◌∙◌}
use lib.ListN.{length}
use Rattle.base.specs.Limits.{limits_of}
use Rattle.base.proofs.Laws.{clash}
use Rattle.stored.specs.Held.{held_test}
use Rattle.scanned.proofs.Stepping.{first_passes, first_looks, first_lacks, first_stores}
use Rattle.scan.proofs.first_step.Goals as goal
use Rattle.scan.proofs.first_step.Goals.{then-awaits+else-k-past+then-k-past-2+else-s-eq1, then-awaits+else-k-past+else-k-past-2, else-awaits}

pub returns-then-k-past : goal.returns-then-k-past
returns-then-k-past c =
    let a = c.args in
    first_passes (limits_of a.b) a.s.now a.sums.now a.p a.k a.awaits a.past a.walked c.requires c.if-awaits.true
    c.if-k-past.true _ c.pass_step.result c.pass_step.ensures c.tested.result c.tested.ensures

pub returns-then-s-eq1 : goal.returns-then-s-eq1
returns-then-s-eq1 c =
    let a = c.args in
    first_looks (limits_of a.b) a.s.now a.sums.now a.p a.k a.awaits a.past a.walked c.requires
    (omega (arith, c.if-k-past.false)) c.if-awaits.true c.if-k-past-2.true c.if-s-eq1.true c.look_at-look.result
    c.look_at-look.ensures

pub returns : goal.returns
returns c =
    let a = c.args in
    let L = limits_of a.b in
    let fs = a.s.now in
    let before = a.sums.now in
    let q = c.first_ok.ensures ∙ ap (λ m. held_test m fs a.awaits 0 (length fs)) c.field_limit.ensures in
    elim c.if-awaits.branch [
      | then-awaits+else-k-past+then-k-past-2+else-s-eq1 w ↦
          first_lacks L fs before a.p a.k a.awaits a.past a.walked c.requires (omega (arith, w.if-k-past.false))
          w.if-awaits.true w.if-k-past-2.true w.if-s-eq1.false c.first_ok.result q c.if-awaits.clause w.clause-is
      | then-awaits+else-k-past+else-k-past-2 w ↦
          first_stores L fs before a.p a.k a.awaits a.past a.walked c.requires
          (λ u. (omega (arith, w.if-k-past.false), w.if-k-past-2.false)) c.first_ok.result q c.if-awaits.clause w.clause-is
      | else-awaits w ↦
          first_stores L fs before a.p a.k a.awaits a.past a.walked c.requires (λ u. clash (sym u ∙ w.if-awaits.false))
          c.first_ok.result q c.if-awaits.clause w.clause-is
    ]
