-- `has_tallies` is `has_tallies`.
use borrow.Author.Tests.{le-leb, lt-leb, eq-eqb, ne_eqb}
use Rattle.field_words.proofs.has_tallies.Statement.{statement}
use Rattle.field_words.proofs.has_tallies.Tie as tie

returns : tie.Need-returns-then-pass-ne1
returns c = simp (ne_eqb _ _ c.if-pass-ne1.true)

returns_2 : tie.Need-returns-then-k-m
returns_2 c = simp (eq-eqb _ _ c.if-pass-ne1.false, le-leb _ _ c.if-k-m.true)

returns_3 : tie.Need-returns-else-k-m
returns_3 c = simp (eq-eqb _ _ c.if-pass-ne1.false, lt-leb _ _ c.if-k-m.false)

pub has_tallies_spec : {M : Type 1} → statement M
has_tallies_spec = tie.close
    (tie.spec returns returns_2 returns_3)
