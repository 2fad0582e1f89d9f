-- `send_act` does what a line of a message sent does.
use native.Mathlib.Omega.{arith}
use mathlib.Core.Path.{◌≡◌, sym, ap, ◌∙◌}
use Rattle.std.proofs.Common.{Ok}
use Rattle.base.specs.Limits.{base}
use Rattle.base.proofs.Laws.{choose_yes}
use Rattle.node.specs.Answers.{Outcome, done}
use Rattle.node.specs.Calls.{send}
use Rattle.node.specs.declared.Accepted.{Accepted}
use Rattle.node.specs.declared.Accepted.TheVariants.{Done}
use Rattle.layout.specs.Held.{unpacked}
use Rattle.state_calls.specs.On.{Kept, keep, on_state, replied}
use Rattle.state_calls.specs.declared.Reply.{Reply}
use Rattle.board_states.specs.States.{state_at}
use Rattle.stage.specs.Board.{quiet}
use Rattle.stage.proofs.Lines.{some_room, one_put}
use Rattle.turn_send.proofs.Known.{given_as, sender_known, send_by}
use Rattle.turn_send.proofs.send_act.Goals as goal

-- the call on the state of a, which is done
called : (r : Reply) (x : Accepted) (g : Kept Outcome) → replied r ≡ g → r.answer ≡ Ok x → x ≡ Done → g ≡ keep r.state done
called r x g e p q = given_as r (Ok Done) g e (p ∙ ap Ok q)

pub overflow_cast-it : goal.overflow_cast-it
overflow_cast-it c =
    let done = c.in-Ok-Done in
    let k = sender_known _ _ _ (called _ _ _ c.send_to-r.ensures done.is (rw done.is at done.field-0-is)) in
    let l = c.state_at-n.ensures.1 k.0 in omega arith

pub overflow_cast-it-2 : goal.overflow_cast-it-2
overflow_cast-it-2 c =
    let done = c.in-Ok-Done in
    let k = sender_known _ _ _ (called _ _ _ c.send_to-r.ensures done.is (rw done.is at done.field-0-is)) in omega arith

pub returns : goal.returns
returns c bytes e =
    let x = c.args in
    let done = c.in-Ok-Done in
    let call = called _ _ _ c.send_to-r.ensures done.is (rw done.is at done.field-0-is) in
    let phase =
    c.phase_of.ensures (sender_known _ _ _ call).0 ∙ ap (λ s. (unpacked s.words).phase) c.state_at-n.ensures.0 in
    one_put x.st x.headers _ x.a 0 _ _ _
    (c.quiet-acted.ensures ∙ ap (λ s. quiet x.st x.headers s x.a 0) c.with_state-after.ensures)
    (λ t. record { from = x.a; to = x.b; kind = c.mark_of.ensures t; phase = phase t })
    ∙ sym
    (send_by x.st x.headers bytes x.kind x.a x.b _
    (ap (on_state (λ n. send base n x.b)) (sym c.state_at-n.ensures.0) ∙ call)
    ∙ choose_yes _ _ (some_room _ _ _ e c.if-room-under.false))
