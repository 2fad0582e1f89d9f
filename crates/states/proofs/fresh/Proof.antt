-- `fresh` is a fresh state in words of zeros.
use borrow.Author.Rules.{rules}
use Rattle.states.specs.Words.{fresh_state}
use Rattle.states.proofs.fresh.Statement.{statement}
use Rattle.states.proofs.fresh.Tie as tie

returns : tie.Need-returns
unfolding fresh_state
returns c = let s = c in let l = s in rw (← l.of_build.ensures) (λ i. record { words = s.fresh.ensures.1 i })

pub fresh_spec : {M : Type 1} → statement M
fresh_spec = tie.close (tie.spec (λ c κs. search rules) (λ c. search rules) (λ c κs. search rules) returns)
