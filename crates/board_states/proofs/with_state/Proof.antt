-- `with_state` sets a state of the array, or none.
use borrow.Author.Rules.{rules}
use native.Mathlib.Omega.{arith}
use mathlib.Core.Path.{◌≡◌, sym}
use lib.ListN.{length}
use lib.Seq.{set_out}
use Rattle.board_states.proofs.with_state.Statement.{statement}
use Rattle.board_states.proofs.with_state.Tie as tie

returns : tie.Need-returns-then-a-ge16
returns c =
    let s = c in
    let x = s.args in
    let l : length x.st.states ≡ 16 = s.well_formed.0.1.1.0.1.0.1 in
    let e = sym (set_out x.st.states x.a x.s (omega arith)) in
    λ i. record { states = e i; size = x.st.size; under = x.under }

pub with_state_spec : {M : Type 1} → statement M
with_state_spec = tie.close (tie.spec returns (λ c. search rules) (λ c. search rules) (λ c. search rules))
