-- `count_of`: the head and so many numbers are a frame.
use borrow.Author.Rules.{rules}
use native.Mathlib.Omega.{arith}
use Rattle.frame.proofs.Writing.{first_length_lem, second_length}
use Rattle.wire_read.proofs.count_of.Statement.{statement}
use Rattle.wire_read.proofs.count_of.Tie as tie

returns : tie.Need-returns-then-pass-eq1
returns c =
    let x = c.args in
    let e = first_length_lem x.p x.pass x.k c.if-pass-eq1.true in (omega arith, omega arith)

returns_2 : tie.Need-returns-else-pass-eq1
returns_2 c =
    let x = c.args in
    let e = second_length x.p x.pass x.k c.if-pass-eq1.false in (omega arith, omega arith)

pub count_of_spec : {M : Type 1} → statement M
count_of_spec = tie.close (tie.spec (λ c. search rules) (λ c. search rules) (λ c. search rules) returns returns_2)
