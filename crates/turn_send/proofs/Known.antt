-- What an answer of a send says of the state and the numbers handed, and of the board after it or after an idle call.
use mathlib.Core.Path.{◌≡◌, refl, sym, ap, ◌∙◌}
use mathlib.Core.Bool.{Bool, true, false}
use mathlib.Core.List.{List}
use Prim.Native.Nat.{ℕ, ◌<◌}
use native.Mathlib.Omega.{arith}
use Rattle.std.proofs.Common.{Result}
use Rattle.base.specs.Choice.{choose}
use Rattle.base.specs.Limits.{base}
use Rattle.base.specs.declared.Kind.{Kind}
use Rattle.base.specs.declared.Refusal.{Refusal}
use Rattle.tree.proofs.Lookups.{board_good}
use Rattle.node.specs.Answers.{Given, Outcome, done, refused, outcome_of, outcome_number}
use Rattle.node.specs.Calls.{send, idle}
use Rattle.node.specs.declared.Node.{Node}
use Rattle.node.specs.declared.Accepted.{Accepted}
use Rattle.node.proofs.Valid.{valid_known}
use Rattle.node.proofs.Ways.{SendWay, send_way}
use Rattle.layout.specs.Held.{is_whole, unpacked}
use Rattle.state_calls.specs.On.{Kept, keep, on_state, replied}
use Rattle.states.specs.declared.State.{State}
use Rattle.state_calls.specs.declared.Reply.{Reply}
use Rattle.board_states.specs.States.{state_at, changed}
use Rattle.stage.specs.Board.{quiet}
use Rattle.board_states.specs.declared.Stage.{Stage}
use Rattle.turn_send.specs.Sending.{send_acted, send_act}
use Rattle.turn_send.specs.Idling.{idle_act}

-- a reply whose answer is known
pub given_as : (r : Reply) (x : Result Accepted Refusal) (g : Kept Outcome) → replied r ≡ g → r.answer ≡ x
    → g ≡ keep r.state (outcome_of x)
given_as r x g e q = sym e ∙ ap (λ y. keep r.state (outcome_of y)) q

-- a refusal is not done
refused_not : {A : Type 0} (x : ℕ) → refused x ≡ done → A
refused_not x q = let z : ◌≡◌ {A = ℕ} 0 1 = cc in absurd (omega arith)

-- who is sent work by a node is a number of its board
to_board : (n : Node) (b : ℕ) → (send base n b).answer ≡ done → b < base.nodes
to_board n b e = go (send_way base n b) e
  where
    go : {g : Given Outcome} → SendWay base n b g → g.answer ≡ done → b < base.nodes
    go (SendWay.refused x s) q = refused_not x q
    go (SendWay.done v h o w r) q = let p = board_good base n.nodes (valid_known base n v).board in omega arith

-- who sends is in a state, and so is its board
pub sender_known : (s m : State) (b : ℕ) → on_state (λ n. send base n b) s ≡ keep m done
    → (is_whole base s.words ≡ true) × (b < base.nodes)
unfolding on_state
sender_known s m b e =
    let k = go (is_whole base s.words) (send base (unpacked s.words) b).answer _ (ap (λ g. g.answer) e) in
    (k.0, to_board (unpacked s.words) b k.1)
  where
    go : (t : Bool) (o : Outcome) (x : ℕ) → choose t o (refused x) ≡ done → (t ≡ true) × (o ≡ done)
    go true o x f = (refl, f)
    go false o x f = refused_not x f

pub send_by : (st : Stage) (headers : ℕ) (bytes : List ℕ) (kind : Kind) (a b : ℕ) (r : Kept Outcome)
    → on_state (λ n. send base n b) (state_at st a) ≡ r
    → send_act st headers bytes kind a b ≡ send_acted st headers bytes kind a b r r.answer
send_by st headers bytes kind a b r e = ap (λ g. send_acted st headers bytes kind a b g g.answer) e

pub idle_by : (st : Stage) (headers a : ℕ) (r : Kept Outcome) → on_state (idle base) (state_at st a) ≡ r
    → idle_act st headers a
    ≡ quiet st headers (changed st a r.state st.under) a (outcome_number r.answer)
unfolding idle_act
idle_by st headers a r e =
    ap (λ g. quiet st headers (changed st a g.state st.under) a (outcome_number g.answer)) e
