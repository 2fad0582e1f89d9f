-- `numbers_ok` is `numbers_ok` of the frame that the words hold.
use borrow.Author.Rules.{rules}
use mathlib.Core.Path.{◌≡◌, ap, ◌∙◌}
use Rattle.base.specs.Choice.{both, every}
use Rattle.base.specs.Limits.{limits_of, width}
use Rattle.frame.specs.Frame.{numbers_ok}
use Rattle.field_words.specs.Words.{frame_from}
use Rattle.field_words.specs.Pieces.{shell_low, totals_low}
use Rattle.field_words.proofs.Numbers.{numbers_held}
use Rattle.field_words.proofs.numbers_ok.Statement.{statement}
use Rattle.field_words.proofs.numbers_ok.Tie as tie

-- the tests with the limit that was found
tested : (c : tie.After-field_limit-limit)
    → let x = c.args in
    let limit = c.field_limit-limit.result in
    both (every 0 width (shell_low limit x.p x.fields.now)) (totals_low limit x.fields.now)
    ≡ numbers_ok (limits_of x.b) x.p (frame_from x.fields.now)
tested c =
    let x = c.args in
    ap (λ limit. both (every 0 width (shell_low limit x.p x.fields.now)) (totals_low limit x.fields.now))
    c.field_limit-limit.ensures
    ∙ numbers_held (limits_of x.b) x.p x.fields.now

returns : tie.Need-returns-then-shells_low
returns c =
    let s = c in
    rw (← tested s.before.before.before, ← s.shells_low.ensures, c.if-shells_low.true) c.totals_low.ensures

returns_2 : tie.Need-returns-else-shells_low
returns_2 c =
    let s = c in
    rw (← tested s.before.before, ← s.shells_low.ensures, c.if-shells_low.false)

pub numbers_ok_spec : {M : Type 1} → statement M
numbers_ok_spec =
    tie.close
    (tie.spec (λ c κs. search rules) (λ c κs. search rules) (λ c κs. search rules) returns returns_2)
