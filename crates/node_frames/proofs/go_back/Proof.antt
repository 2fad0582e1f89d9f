-- `go_back` is `back_words`.
use borrow.Author.Rules.{rules}
use borrow.Author.Tests.{eq-eqb}
use native.Mathlib.Omega.{arith}
use lib.ListN.{length-set}
use Rattle.node_frames.specs.Pieces.{back_words}
use Rattle.node_frames.proofs.Placing.{back_kept}
use Rattle.node_frames.proofs.go_back.Statement.{statement}
use Rattle.node_frames.proofs.go_back.Tie as tie

returns : tie.Need-returns-then-pass-eq1
unfolding back_words
returns c = rw (eq-eqb _ _ c.if-pass-eq1.true)

returns_2 : tie.Need-returns-else-pass-eq1
returns_2 c = back_kept _ _ _ c.if-pass-eq1.false

pub go_back_spec : {M : Type 1} → statement M
go_back_spec =
    tie.close
    (tie.spec (λ c. search rules) (λ c. simp length-set (omega arith)) (λ c. simp length-set (omega arith))
    (λ c. search rules) (λ c. search rules) returns (λ c. search rules) returns_2)
