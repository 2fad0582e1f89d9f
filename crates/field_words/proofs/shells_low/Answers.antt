-- `shells_low` tests each shell.
use Rattle.std.proofs.Common.{rules, tests}
use Rattle.base.specs.Limits.{width}
use Rattle.walks.proofs.Every.{all_every}
use Rattle.field_words.specs.Pieces.{shell_low}
use Rattle.field_words.proofs.shells_low.Goals as goal

pub returns : goal.returns
returns c =
    let x = c.args in
    all_every width (shell_low x.limit x.p x.fields.now) _ _ c.all.result c.all.ensures.ran
    (λ m q e. search (rules, tests)) (λ m q e. search (rules, tests))
