-- What a definition is of an answer that is not of some kind.
use mathlib.Core.Path.{◌≡◌, refl, sym, ap}
use mathlib.Core.Bool.{false}
use mathlib.Core.List.{List, [], ◌∷◌}
use Prim.Native.Nat.{ℕ}
use Rattle.std.proofs.Common.{Result, Ok, Err}
use Rattle.base.specs.declared.Refusal.{Refusal}
use Rattle.base.proofs.Laws.{clash}
use Rattle.node.specs.Answers.{Barrier, sent, waits, moved, left, barred, barrier_of, barrier_number}
use Rattle.node.specs.declared.Step.{Step}
use Rattle.node.specs.declared.Receivers.{Receivers}
use Rattle.node.specs.declared.Step.TheVariants.{Sends, Waits, Moved, Left}
use Rattle.state_calls.specs.On.{Kept}
use Rattle.board_states.specs.States.{changed}
use Rattle.stage.specs.Board.{quiet}
use Rattle.board_states.specs.declared.Stage.{Stage}
use Rattle.turn_call.specs.Calling.{call_acted, call_acted_bytes}
use Rattle.turn_call.specs.Pieces.{is_sent}

-- no frame is sent
pub no_step : (x : Step) → ((to : Receivers) (length : ℕ) → x ≡ Sends to length → ⊥) → is_sent (barrier_of (Ok x)) ≡ false
no_step (Sends to length) h = absurd (h to length refl)
no_step (Waits clause) h = refl
no_step Moved h = refl
no_step Left h = refl

-- the same of a refusal too
pub no_frame : (x : Result Step Refusal) → ((to : Receivers) (length : ℕ) → x ≡ Ok (Sends to length) → ⊥)
    → is_sent (barrier_of x) ≡ false
no_frame (Ok x) h = no_step x (λ to length e. h to length (ap Ok e))
no_frame (Err r) h = refl

module _ (st : Stage) (headers : ℕ) (bytes : List ℕ) (a : ℕ) where
  pub state_kept : (r : Kept Barrier) (x : Step) → is_sent (barrier_of (Ok x)) ≡ false
      → call_acted st headers bytes a r (barrier_of (Ok x))
      ≡ quiet st headers (changed st a r.state st.under) a (barrier_number (barrier_of (Ok x)))
  state_kept r (Sends to length) f = clash f
  state_kept r (Waits clause) f = refl
  state_kept r Moved f = refl
  state_kept r Left f = refl

  pub none_written : (o : Barrier) → is_sent o ≡ false → call_acted_bytes st headers bytes a o ≡ bytes
  none_written (sent to length) f = clash f
  none_written (waits clause) f = refl
  none_written moved f = refl
  none_written left f = refl
  none_written (barred x) f = refl
