-- `frame_call` hands the frame at a place to frame in.
use borrow.Author.Rules.{rules}
use mathlib.Core.Path.{ap, ◌∙◌}
use Rattle.base.specs.Limits.{base}
use Rattle.node.specs.Calls.{frame_in}
use Rattle.state_calls.specs.On.{on_state}
use Rattle.under_way.proofs.Parts.{held}
use Rattle.turn_deliver.proofs.frame_call.Statement.{statement}
use Rattle.turn_deliver.proofs.frame_call.Tie as tie

returns : tie.Need-returns
returns c =
    let read = c in
    let start = read in
    let x = start.args in
    c.frame_in.ensures
    ∙ ap (λ bs. on_state (λ n. frame_in base n bs) x.s)
    (held _ x.size x.at _ (read.stated_on.ensures.0 start.requires.0))

pub frame_call_spec : {M : Type 1} → statement M
frame_call_spec =
    tie.close
    (tie.spec (λ c. search rules) (λ c. search rules) (λ c. search rules) (λ c. search rules) (λ c κs. search rules)
    (λ c. search rules) (λ c. search rules) (λ c. search rules) (λ c. search rules) (λ c κs. search rules) returns)
