-- `write_at` leaves in the part that is lent on what the barrier call leaves there.
use borrow.Author.Rules.{rules}
use native.Mathlib.Omega.{arith}
use mathlib.Core.Path.{◌≡◌, refl}
use mathlib.Core.List.{List}
use Prim.Native.Nat.{ℕ, ◌+◌, ◌-◌, ◌*◌}
use borrow.Rule.Slice.PartMut.{put_mid, mid_of}
use Rattle.state_calls.specs.On.{step_bytes}
use Rattle.states.specs.declared.State.{State}
use Rattle.under_way.specs.Frames.{place_size}
use Rattle.turn_frames.specs.Framing.{called_at}
use Rattle.turn_frames.proofs.write_at.Statement.{statement}
use Rattle.turn_frames.proofs.write_at.Tie as tie

part_called : (bytes : List ℕ) (place : ℕ) (s : State) (k : ℕ) → k ≡ place_size
    → put_mid (place_size * place) k bytes (step_bytes s (mid_of (place_size * place) k bytes)) ≡ called_at bytes place s
unfolding called_at
part_called bytes place s k e = rw e refl

returns : tie.Need-returns
returns c =
    let b = c in
    let x = b.args in
    let a = place_size * x.place in
    let z : a + place_size - a ≡ place_size = omega arith in
    rw b.step.ensures.1 (part_called x.bytes.now x.place x.s (a + place_size - a) z)

pub write_at_spec : {M : Type 1} → statement M
write_at_spec =
    tie.close
    (tie.spec (λ c. search rules) (λ c. search rules) (λ c. search rules) (λ c. search rules) (λ c. search rules)
    (λ c κs. search rules) (λ c. search rules) returns)
