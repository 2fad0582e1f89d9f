-- `put_head` puts the four head bytes at the start.
use borrow.Author.Rules.{rules}
use borrow.Author.Tests.{le-leb, lt-leb}
use native.Mathlib.Omega.{arith}
use mathlib.Core.Path.{sym, ◌∙◌}
use lib.ListN.{length-set}
use Rattle.base.proofs.Laws.{choose_yes, choose_no}
use Rattle.frame.proofs.Pasting.{put_four}
use Rattle.wire.proofs.put_head.Statement.{statement}
use Rattle.wire.proofs.put_head.Tie as tie

returns : tie.Need-returns-then-buf-lt4
returns c = sym (choose_no _ _ (lt-leb _ _ c.if-buf-lt4.true))

returns_2 : tie.Need-returns
returns_2 c = put_four _ 0 _ _ _ _ c.if-buf-lt4.false ∙ sym (choose_yes _ _ (le-leb _ _ c.if-buf-lt4.false))

pub put_head_spec : {M : Type 1} → statement M
put_head_spec =
    tie.close
    (tie.spec returns (λ c. search rules) (λ c. simp length-set (omega arith)) (λ c. simp length-set (omega arith))
    (λ c. search rules) (λ c. search rules) returns_2)
