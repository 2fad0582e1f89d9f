-- `close_gap` closes the gap where the places are all lent.
use mathlib.Core.Path.{sym, ◌∙◌}
use borrow.Author.Tests.{lt-ltb, le-leb}
use Rattle.base.proofs.Laws.{choose_yes, both_make}
use Rattle.under_way.proofs.Parts.{gap_closed}
use Rattle.under_way.proofs.close_gap.Goals as goal

pub returns-then-n-bytes : goal.returns-then-n-bytes
returns-then-n-bytes c =
    let x = c.args in
    c.copy_within.ensures.after
    ∙ gap_closed x.bytes.now x.n x.at c.if-at-n.true
    ∙ sym (choose_yes _ _ (both_make (lt-ltb _ _ c.if-at-n.true) (le-leb _ _ c.if-n-bytes.true)))
