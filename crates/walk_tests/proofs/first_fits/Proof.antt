-- `first_fits`: the tests joined.
use borrow.Author.Rules.{rules}
use borrow.Author.Tests.{lt-ltb, le-ltb, le-leb, lt-leb, eq-eqb, ne_eqb}
use Rattle.walk_tests.proofs.first_fits.Statement.{statement}
use Rattle.walk_tests.proofs.first_fits.Tie as tie

returns : tie.Need-returns-then-p-k
returns c = rw (le-ltb _ _ c.if-p-k.true)

returns_2 : tie.Need-returns-then-p-gt-SHELLS
returns_2 c = rw (lt-ltb _ _ c.if-p-k.false, lt-leb _ _ c.if-p-gt-SHELLS.true)

returns_3 : tie.Need-returns-then-words-p
returns_3 c =
    rw (lt-ltb _ _ c.if-p-k.false, le-leb _ _ c.if-p-gt-SHELLS.false, ne_eqb _ _ c.if-words-p.true)

returns-4 : tie.Need-returns
returns-4 c =
    rw (lt-ltb _ _ c.if-p-k.false, le-leb _ _ c.if-p-gt-SHELLS.false, eq-eqb _ _ c.if-words-p.false)

pub first_fits_spec : {M : Type 1} → statement M
first_fits_spec =
    tie.close
    (tie.spec returns returns_2 (λ c. search rules) (λ c. search rules) (λ c. search rules) (λ c. search rules)
    returns_3 (λ c. search rules) (λ c. search rules) (λ c. search rules) returns-4)
