-- `totals_low` is `totals_low`.
use borrow.Author.Rules.{rules}
use borrow.Author.Tests.{le-leb, lt-leb}
use Rattle.field_words.specs.Pieces.{totals_low}
use Rattle.field_words.proofs.totals_low.Statement.{statement}
use Rattle.field_words.proofs.totals_low.Tie as tie

returns : tie.Need-returns-then-limit-fields
unfolding totals_low
returns c = rw (lt-leb _ _ c.if-limit-fields.true)

returns_2 : tie.Need-returns-then-most_of-fields
unfolding totals_low
returns_2 c =
    let m = c in
    rw (le-leb _ _ m.if-limit-fields.false, ← m.most_of.ensures, lt-leb _ _ c.if-most_of-fields.true)

returns_3 : tie.Need-returns
unfolding totals_low
returns_3 c =
    let e = c in
    let m = e in
    rw (
      le-leb _ _ m.if-limit-fields.false,
      ← m.most_of.ensures,
      le-leb _ _ e.if-most_of-fields.false,
      ← c.most_of-2.ensures,
    )

pub totals_low_spec : {M : Type 1} → statement M
totals_low_spec =
    tie.close
    (tie.spec (λ c. search rules) returns (λ c. search rules) (λ c κs. search rules) (λ c. search rules) returns_2
    (λ c. search rules) (λ c. search rules) (λ c κs. search rules) returns_3)
