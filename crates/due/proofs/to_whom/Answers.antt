-- `to_whom` names those to whom a frame is due.
use Rattle.std.proofs.Common.{rules, arith, subst, sym, ◌∙◌, ap, ◌≡◌, Ok}
use mathlib.Core.List.{Memᴰ}
use Rattle.base.specs.Limits.{limits_of}
use Rattle.base.proofs.Limits.{fits_of}
use Rattle.tree.specs.Lookups.{placed_answer}
use Rattle.layout.specs.Places.{at_nodes, at_dim, at_number}
use Rattle.layout.specs.Held.{word}
use Rattle.due.specs.Due.{to_whom}
use Rattle.due.proofs.Placing.{receivers_low}
use Rattle.due.proofs.to_whom.Goals as goal

pub whom_of-requires : goal.whom_of-requires
whom_of-requires c b m =
    let fit = fits_of c.args.b (omega arith) in
    let ws = c.args.s.now in
    let found : c.place_of.result ≡ Ok c.in_ok-ok.field-0 = search rules in
    receivers_low (limits_of c.args.b) fit (word ws at_nodes) (word ws at_dim) (word ws at_number) b
    (subst (λ a. Memᴰ b (to_whom a)) (sym (ap placed_answer found) ∙ c.place_of.ensures) m)
