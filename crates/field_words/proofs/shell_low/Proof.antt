-- `shell_low` is `shell_low`.
use borrow.Author.Rules.{rules}
use borrow.Author.Tests.{le-leb, lt-leb}
use mathlib.Core.Path.{◌≡◌, ap, ◌∙◌}
use lib.ListN.{get_or}
use Rattle.frame.specs.Parts.{has_tallies}
use Rattle.field_words.specs.Words.{at_pass, at_dim}
use Rattle.field_words.specs.Pieces.{most, shell_low}
use Rattle.field_words.proofs.shell_low.Statement.{statement}
use Rattle.field_words.proofs.shell_low.Tie as tie

-- the most that the tallies may be
top : (c : tie.After-most_of-top)
    → let x = c.args in
    c.most_of-top.result
    ≡ most (has_tallies x.p (get_or x.fields.now at_pass 0) (get_or x.fields.now at_dim 0) x.m) x.limit
top c =
    let x = c.args in
    c.most_of-top.ensures ∙ ap (λ has. most has x.limit) c.has_tallies-has.ensures

returns : tie.Need-returns-then-fields-m
unfolding shell_low
returns c =
    let t = c.before.before.before in
    rw (← top t, le-leb _ _ c.if-fields-m.true)

returns_2 : tie.Need-returns-else-fields-m
unfolding shell_low
returns_2 c = let t = c.before.before in rw (← top t, lt-leb _ _ c.if-fields-m.false)

pub shell_low_spec : {M : Type 1} → statement M
shell_low_spec =
    tie.close
    (tie.spec (λ c. search rules) (λ c. search rules) (λ c. search rules) (λ c κs. search rules)
    (λ c κs. search rules) (λ c. search rules) (λ c. search rules) (λ c. search rules) (λ c. search rules)
    (λ c. search rules) (λ c. search rules) returns returns_2)
