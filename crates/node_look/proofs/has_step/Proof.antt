-- `has_step` is `has_step`.
use borrow.Author.Rules.{rules}
use borrow.Author.Tests.{lt-leb, le-leb}
use mathlib.Core.Path.{◌≡◌}
use mathlib.Core.Bool.{true, false}
use lib.Dec.{leb}
use lib.ListN.{length}
use Rattle.layout.specs.Places.{head_words}
use Rattle.node_look.proofs.has_step.Statement.{statement}
use Rattle.node_look.proofs.has_step.Tie as tie

returns : tie.Need-returns-then-s
returns c =
    let e : leb head_words (length c.args.s.now) ≡ false = lt-leb head_words _ c.if-s.true in
    rw e

returns_2 : tie.Need-returns
returns_2 c =
    let s = c in
    let e : leb head_words (length s.args.s.now) ≡ true = le-leb head_words _ c.if-s.false in
    rw e

pub has_step_spec : {M : Type 1} → statement M
has_step_spec = tie.close (tie.spec (λ c. search rules) returns (λ c. search rules) returns_2)
