-- `end_of` is `end_of`.
use borrow.Author.Tests.{eq-eqb, ne_eqb, lt-ltb, le-ltb}
use Rattle.replay_ends.proofs.end_of.Statement.{statement}
use Rattle.replay_ends.proofs.end_of.Tie as tie

returns : tie.Need-returns-then-why-ne0
returns c = rw (ne_eqb _ _ c.if-why-ne0.true)

returns_2 : tie.Need-returns-then-same-events
returns_2 c = rw (eq-eqb _ _ c.if-why-ne0.false, lt-ltb _ _ c.if-same-events.true)

returns_3 : tie.Need-returns
returns_3 c = rw (eq-eqb _ _ c.if-why-ne0.false, le-ltb _ _ c.if-same-events.false)

pub end_of_spec : {M : Type 1} → statement M
end_of_spec = tie.close (tie.spec returns returns_2 returns_3)
