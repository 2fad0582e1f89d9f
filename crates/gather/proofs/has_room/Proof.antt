-- `has_room`: the tests joined.
use borrow.Author.Rules.{rules}
use borrow.Author.Tests.{le-leb, lt-leb}
use Rattle.gather.proofs.has_room.Statement.{statement}
use Rattle.gather.proofs.has_room.Tie as tie

returns : tie.Need-returns-then-p-gt-SHELLS
returns c = rw (lt-leb _ _ c.if-p-gt-SHELLS.true)

returns_2 : tie.Need-returns-then-words-p
returns_2 c = rw (le-leb _ _ c.if-p-gt-SHELLS.false, lt-leb _ _ c.if-words-p.true)

returns_3 : tie.Need-returns
returns_3 c = rw (le-leb _ _ c.if-p-gt-SHELLS.false, le-leb _ _ c.if-words-p.false)

pub has_room_spec : {M : Type 1} → statement M
has_room_spec =
    tie.close
    (tie.spec returns (λ c. search rules) (λ c. search rules) (λ c. search rules) returns_2 (λ c. search rules)
    (λ c. search rules) (λ c. search rules) returns_3)
