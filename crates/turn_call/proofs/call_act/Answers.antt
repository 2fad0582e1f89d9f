-- `call_act` does what a line of a barrier call does.
use mathlib.Core.Path.{◌≡◌, sym, ap, ◌∙◌}
use Prim.Native.Nat.{ℕ}
use Rattle.std.proofs.Common.{Result, Ok}
use Rattle.base.specs.declared.Refusal.{Refusal}
use Rattle.node.specs.Answers.{barrier_of}
use Rattle.node.specs.declared.Step.{Step}
use Rattle.state_calls.specs.On.{keep, step_on, step_replied}
use Rattle.states.specs.declared.State.{State}
use Rattle.state_calls.specs.declared.StepReply.{StepReply}
use Rattle.under_way.specs.Frames.{place_size}
use Rattle.board_states.specs.States.{state_at}
use Rattle.board_states.specs.declared.Stage.{Stage}
use Rattle.turn_call.proofs.Known.{called_as, call_by}
use Rattle.turn_call.proofs.Tags.{no_step, state_kept, none_written}
use Rattle.turn_call.proofs.call_act.Goals as goal

-- what the call of the state of a answered
known : (st : Stage) (a : ℕ) (s : State) (r : StepReply) (x : Result Step Refusal) → s ≡ state_at st a
    → step_replied r ≡ step_on s place_size → r.answer ≡ x
    → step_on (state_at st a) place_size ≡ keep r.state (barrier_of x)
known st a s r x e p q = called_as r x _ (p ∙ ap (λ y. step_on y place_size) e) q

pub returns-in-Err : goal.returns-in-Err
returns-in-Err c =
    let x = c.args in
    let k = known x.st x.a _ _ _ c.state_at.ensures.0 c.tried-r.ensures c.in-Err.is in
    let b = call_by x.st x.headers x.bytes.now x.a _ k in
    record { answer = c.refused.ensures ∙ sym b.0; memory = sym b.1 }

pub returns-in-Sends : goal.returns-in-Sends
returns-in-Sends c =
    let x = c.args in
    let k = known x.st x.a _ _ _ c.state_at.ensures.0 c.tried-r.ensures (c.in-Ok.is ∙ ap Ok c.in-Sends.is) in
    let b = call_by x.st x.headers x.bytes.now x.a _ k in
    record { answer = c.frame_act.ensures.answer ∙ sym b.0; memory = c.frame_act.ensures.memory ∙ sym b.1 }

pub returns : goal.returns
returns c =
    let x = c.args in
    let k = known x.st x.a _ _ _ c.state_at.ensures.0 c.tried-r.ensures c.in-Ok.is in
    let b = call_by x.st x.headers x.bytes.now x.a _ k in
    let f = no_step c.in-Ok.step c.in_default.not-Sends in
    record {
      answer =
          c.quiet_act.ensures
          ∙ sym (b.0 ∙ state_kept x.st x.headers x.bytes.now x.a (step_replied c.tried-r.result) c.in-Ok.step f);
      memory = sym (b.1 ∙ none_written x.st x.headers x.bytes.now x.a (barrier_of (Ok c.in-Ok.step)) f);
    }
