-- `shut_at` is `shut`.
use mathlib.Core.Path.{ap}
use borrow.Author.Rules.{rules}
use Rattle.opening.proofs.shut_at.Statement.{statement}
use Rattle.opening.proofs.shut_at.Tie as tie

returns : tie.Need-returns
returns c =
    let s = c.args in
    ap (λ st. record { stage = st; at = s.at; why = s.why; line = s.line }) c.open_stage.ensures

pub shut_at_spec : {M : Type 1} → statement M
shut_at_spec = tie.close (tie.spec (λ c κs. search rules) returns)
