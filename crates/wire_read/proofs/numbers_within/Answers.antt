-- `numbers_within` tests each number.
use Rattle.std.proofs.Common.{rules, tests, leb}
use Rattle.walks.proofs.Every.{all_every}
use Rattle.frame.specs.Frame.{number_at}
use Rattle.wire_read.proofs.numbers_within.Goals as goal

pub returns : goal.returns
returns c =
    let x = c.args in
    all_every x.count (λ i. leb (number_at x.bytes.now i) x.limit) _ _ c.all.result c.all.ensures.ran
    (λ m q e. search (rules, tests)) (λ m q e. search (rules, tests))
