-- `phase_of` is the phase of a whole state.
use borrow.Author.Rules.{rules}
use native.Mathlib.Omega.{arith}
use Rattle.base.specs.Limits.{base}
use Rattle.layout.proofs.Whole.{whole}
use Rattle.layout.specs.Held.{unpacked}
use Rattle.states.proofs.phase_of.Statement.{statement}
use Rattle.states.proofs.phase_of.Tie as tie

returns : tie.Need-returns
unfolding unpacked
returns c = λ e. let l = (whole base _ e).phase in omega (arith, l)

pub phase_of_spec : {M : Type 1} → statement M
phase_of_spec = tie.close (tie.spec (λ c. search rules) (λ c. search rules) returns)
