-- `get_head` puts the four head bytes before zeros.
use borrow.Author.Rules.{rules}
use native.Mathlib.Omega.{arith}
use Rattle.fields_read.proofs.get_head.Statement.{statement}
use Rattle.fields_read.proofs.get_head.Tie as tie

pub get_head_spec : {M : Type 1} → statement M
get_head_spec =
    tie.close
    (tie.spec (λ c. search rules) (λ c. omega (arith, c.shared_slice_known-1.given 0)) (λ c. search rules)
    (λ c. search rules) (λ c. omega (arith, c.shared_slice_known-2-1.given 1)) (λ c. search rules) (λ c. search rules)
    (λ c. omega (arith, c.shared_slice_known-3-1.given 2)) (λ c. search rules) (λ c. search rules)
    (λ c. omega (arith, c.shared_slice_known-4-1.given 3)) (λ c. search rules) (λ c. search rules))
