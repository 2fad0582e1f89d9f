-- `quiet` is `still`.
use borrow.Author.Rules.{rules}
use Rattle.stage.proofs.quiet.Statement.{statement}
use Rattle.stage.proofs.quiet.Tie as tie

returns : tie.Need-returns
returns c = cc

pub quiet_spec : {M : Type 1} → statement M
quiet_spec = tie.close (tie.spec (λ c κs. search rules) returns)
