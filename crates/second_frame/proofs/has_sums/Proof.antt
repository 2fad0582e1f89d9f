-- `has_sums`: the tests joined.
use borrow.Author.Rules.{rules}
use borrow.Author.Tests.{le-leb, lt-leb}
use mathlib.Core.Path.{sym}
use Rattle.second_frame.proofs.has_sums.Statement.{statement}
use Rattle.second_frame.proofs.has_sums.Tie as tie

returns : tie.Need-returns-then-p-k
returns c = sym (rw (lt-leb _ _ c.if-p-k.true))

returns_2 : tie.Need-returns
returns_2 c = sym (rw (le-leb _ _ c.if-p-k.false))

pub has_sums_spec : {M : Type 1} → statement M
has_sums_spec = tie.close (tie.spec returns (λ c. search rules) (λ c. search rules) returns_2)
