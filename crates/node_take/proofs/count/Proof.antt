-- `count` writes the five words.
use borrow.Author.Rules.{rules}
use lib.ListN.{length-set}
use Rattle.node_take.proofs.count.Statement.{statement}
use Rattle.node_take.proofs.count.Tie as tie

pub count_spec : {M : Type 1} → statement M
count_spec =
    tie.close
    (tie.spec
    (λ c. search rules)
    (λ c. search rules)
    (λ c. search rules)
    (λ c. search rules)
    (λ c. search rules)
    (λ c. simp length-set (search rules))
    (λ c. simp length-set (search rules))
    (λ c. simp length-set (search rules))
    (λ c. simp length-set (search rules))
    (λ c. search rules)
    (λ c. search rules))
