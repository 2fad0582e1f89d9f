-- `last_holds`: the totals are tested in the last dimension only.
use Rattle.pass_one.proofs.last_holds.Statement.{statement}
use Rattle.pass_one.proofs.last_holds.Tie as tie

returns : tie.Need-returns-then-not-last
returns c = let a = c.args in rw c.if-not-last.true

returns_2 : tie.Need-returns
returns_2 c = let e = c in rw e.if-not-last.false

pub last_holds_spec : {M : Type 1} → statement M
last_holds_spec = tie.close (tie.spec returns returns_2)
