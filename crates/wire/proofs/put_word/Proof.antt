-- `put_word` puts the four bytes of a number.
use borrow.Author.Rules.{rules}
use native.Mathlib.Omega.{arith}
use lib.ListN.{length-set}
use Rattle.frame.specs.Numbers.{four_bytes}
use Rattle.frame.proofs.Pasting.{put_four}
use Rattle.wire.proofs.put_word.Statement.{statement}
use Rattle.wire.proofs.put_word.Tie as tie

returns : tie.Need-returns
unfolding four_bytes
returns c = put_four _ _ _ _ _ _ c.requires

pub put_word_spec : {M : Type 1} → statement M
put_word_spec =
    tie.close
    (tie.spec (λ c. search rules) (λ c. search rules) (λ c. search rules) (λ c. search rules)
    (λ c. simp length-set (omega arith)) (λ c. search rules) (λ c. search rules) (λ c. simp length-set (omega arith))
    (λ c. search rules) (λ c. search rules) (λ c. simp length-set (omega arith)) (λ c. search rules) returns)
