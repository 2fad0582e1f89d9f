-- `frame_item` makes the header of a frame: who sends is in a state, so it is of the board.
use borrow.Author.Rules.{rules}
use native.Mathlib.Omega.{arith}
use mathlib.Core.Path.{◌≡◌, ap, ◌∙◌}
use mathlib.Core.Bool.{true}
use Rattle.base.specs.Limits.{base}
use Rattle.layout.specs.Held.{is_whole, unpacked}
use Rattle.turn_call.specs.Pieces.{call_sends}
use Rattle.turn_call.proofs.Known.{sending_known}
use Rattle.turn_call.proofs.frame_item.Statement.{statement}
use Rattle.turn_call.proofs.frame_item.Tie as tie

known : (c : tie.After-state_at-n) → is_whole base c.state_at-n.result.words ≡ true
known c = (sending_known _ (ap call_sends c.state_at-n.ensures.0 ∙ c.requires)).0

cast-t5 : tie.Need-overflow_cast-result
cast-t5 c = let l = c.state_at-n.ensures.1 (known c) in omega arith

returns : tie.Need-returns
returns c =
    let n = c.before in
    let x = n.args in
    ap (λ p. record { from = x.a; to = x.b; kind = 1; phase = p })
    (c.phase_of.ensures (known n) ∙ ap (λ s. (unpacked s.words).phase) n.state_at-n.ensures.0)

pub frame_item_spec : {M : Type 1} → statement M
frame_item_spec = tie.close (tie.spec (λ c κs. search rules) cast-t5 (λ c κs. search rules) returns)
