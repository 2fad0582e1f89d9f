-- `add_totals`: total sent, then total taken.
use Rattle.adding.proofs.Adding.{issued_over, totals_added}
use Rattle.adding.proofs.add_totals.Goals as goal

pub returns-then-not-add_number : goal.returns-then-not-add_number
returns-then-not-add_number c =
    let x = c.args in
    issued_over x.s.now x.sums.now x.p x.k x.limit c.requires _ _ c.add_number.ensures c.if-not-add_number.true

pub returns : goal.returns
returns c =
    let x = c.args in
    totals_added x.s.now x.sums.now x.p x.k x.limit c.requires _ _ c.add_number.ensures c.if-not-add_number.false _ _
    c.add_number-2.ensures
