-- `add_totals`: the sums are within the limit before they are made.
use Rattle.std.proofs.Common.{◌≡◌, ◌+◌, ◌-◌, ◌*◌, ◌≤◌, ◌∙◌}
use lib.Dec.{leb}
use mir.Facts.{Fits-le}
use Rattle.base.specs.Choice.{both}
use Rattle.layout.specs.Places.{mark_words, at_received, sum_issued, sum_received}
use Rattle.layout.specs.Held.{word}
use Rattle.look_tests.proofs.Excesses.{sums_within}
use Rattle.look.proofs.add_totals.Goals.{After-larger-excess}
use Rattle.look.proofs.add_totals.Goals as goal

within : (c : After-larger-excess) → let a = c.args in
    let at = mark_words + 2 * (a.p - a.k) in
    c.larger-excess.result ≡ 0
    → (word a.sums.now (sum_issued a.p) + word a.s.now at ≤ a.limit)
    × (word a.sums.now (sum_received a.p) + word a.s.now (at + at_received) ≤ a.limit)
within c =
    sums_within _ _ _ _ _ _
    (λ most. c.larger-excess.ensures most ∙ (λ i. both (leb (c.excess-one.ensures i) most) (leb (c.excess-other.ensures i) most)))

pub overflow_add-all_issued : goal.overflow_add-all_issued
overflow_add-all_issued c =
    Fits-le (within (goal.at.overflow_add-all_issued c).After-larger-excess c.if-excess-ne0.false).0 c.ranges.limit

pub overflow_add-all_received : goal.overflow_add-all_received
overflow_add-all_received c =
    Fits-le (within (goal.at.overflow_add-all_received c).After-larger-excess c.if-excess-ne0.false).1 c.ranges.limit
