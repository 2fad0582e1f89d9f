-- `state_at` is the state at a place of the array, or none.
use borrow.Author.Rules.{rules}
use native.Mathlib.Omega.{arith}
use mathlib.Core.Path.{◌≡◌, sym, ◌∙◌}
use lib.ListN.{length}
use Rattle.states.specs.Words.{no_state}
use Rattle.board_states.proofs.Board.{any_default, past_all, in_array}
use Rattle.board_states.proofs.state_at.Statement.{statement}
use Rattle.board_states.proofs.state_at.Tie as tie

-- a board has 16 states
sixteen : (c : tie.Start) → length c.args.st.states ≡ 16
sixteen c = c.well_formed.0.1.1.0.1.0.1

returns : tie.Need-returns-then-a-lt16
returns c =
    let x = c.args in
    let l = sixteen c.before.before in
    (any_default x.st.states x.a _ no_state (omega arith), λ v. c.if-a-lt16.true)

returns_2 : tie.Need-returns
returns_2 c =
    let s = c.before.before in
    let l = sixteen s in
    let e = c.none.ensures ∙ past_all s.args.st s.args.a (omega arith) in
    (e, λ v. in_array s.args.st _ l (rw (sym e) v))

pub state_at_spec : {M : Type 1} → statement M
state_at_spec = tie.close (tie.spec (λ c. search rules) (λ c. search rules) returns (λ c κs. search rules) returns_2)
