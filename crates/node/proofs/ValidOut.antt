-- From a state that passes the test every call gives one that passes it; a fresh node passes it.
use mathlib.Core.Path.{◌≡◌, sym, ap}
use mathlib.Core.Bool.{true, false}
use mathlib.Core.List.{List}
use Prim.Native.Nat.{ℕ, ◌+◌, ◌%◌, ◌^◌, ◌≤◌, ◌<◌}
use native.Mathlib.Omega.{arith}
use Rattle.base.specs.Limits.{Limits, width}
use Rattle.base.specs.declared.Kind.{Kind}
use Rattle.tree.specs.Lookups.{bad_board}
use Rattle.tree.proofs.Distances.{distance_below_lem}
use Rattle.node.specs.Agree.{is_none}
use Rattle.node.specs.State.{valid}
use Rattle.node.specs.Change.{fresh_in}
use Rattle.node.specs.Answers.{Given, Outcome, Barrier}
use Rattle.node.specs.Calls.{fresh, send, take, idle, frame_in}
use Rattle.node.specs.Barrier.{leaving, barrier}
use Rattle.node.specs.declared.Node.{Node}
use Rattle.node.proofs.Valid.{Valid, valid_known, valid_good}
use Rattle.node.proofs.Ways.{FreshWay, fresh_way, SendWay, send_way, TakeWay, take_way, IdleWay, idle_way}
use Rattle.node.proofs.Ways.{frame_of, FrameWay, frame_way, CallWay, call_way}
use Rattle.node.proofs.Depends.{got_way}
use Rattle.node.proofs.Moving.{fresh_facts, sent_facts, taken_facts, idle_facts}
use Rattle.node.proofs.Moving.{stays_facts, next_facts, second_facts}
use Rattle.node.proofs.Storing.{got_facts}

pub fresh_valid : (L : Limits) (P number phase : ℕ) → bad_board L P ≡ false → number < P
    → valid L (fresh_in P number phase) ≡ true
fresh_valid L P number phase b h = valid_good L _ (fresh_facts L P number phase b h)

-- so does the node that the call fresh gives
pub made_valid : (L : Limits) (P number : ℕ) → (fresh L P number).answer ≡ Outcome.done
    → valid L (fresh L P number).node ≡ true
made_valid L P number h = go (fresh_way L P number) h
  where
    go : {r : Given Outcome} → FreshWay L P number r → r.answer ≡ Outcome.done → valid L r.node ≡ true
    go (FreshWay.refused x s) h = let z : ◌≡◌ {A = ℕ} 0 1 = cc in absurd (omega arith)
    go (FreshWay.done b l) h = fresh_valid L P number 0 b l

-- a state that passes the test goes out of every call as one that passes it
module _ (L : Limits) (n : Node) (ok : valid L n ≡ true) where
  v : Valid L n
  v = valid_known L n ok

  send_kept : (b : ℕ) {r : Given Outcome} → SendWay L n b r → Valid L r.node
  send_kept b (SendWay.refused x s) = v
  send_kept b (SendWay.done o h z w r) =
      sent_facts L n v _ (distance_below_lem n.nodes n.number b v.number (λ q. z (sym q)) h) w r

  pub send_valid : (b : ℕ) → valid L (send L n b).node ≡ true
  send_valid b = valid_good L _ (send_kept b (send_way L n b))

  take_kept : (kind : Kind) (a phase : ℕ) {r : Given Outcome} → TakeWay L n kind a phase r → Valid L r.node
  take_kept kind a phase (TakeWay.refused x s) = v
  take_kept kind a phase (TakeWay.done o h z d r) =
      taken_facts L n v kind _ (distance_below_lem n.nodes n.number a v.number (λ q. z (sym q)) h) r

  pub take_valid : (kind : Kind) (a phase : ℕ) → valid L (take L n kind a phase).node ≡ true
  take_valid kind a phase = valid_good L _ (take_kept kind a phase (take_way L n kind a phase))

  idle_kept : {r : Given Outcome} → IdleWay L n r → Valid L r.node
  idle_kept (IdleWay.refused x s) = v
  idle_kept (IdleWay.done o) = idle_facts L n v

  pub idle_valid : valid L (idle L n).node ≡ true
  idle_valid = valid_good L _ (idle_kept (idle_way L n))

  frame_kept : (bs : List ℕ) {r : Given Outcome} → FrameWay L n bs r → Valid L r.node
  frame_kept bs (FrameWay.refused x s) = v
  frame_kept bs (FrameWay.early c d) = v
  frame_kept bs (FrameWay.foreign c d e f) = v
  frame_kept bs (FrameWay.late c d) = v
  frame_kept bs (FrameWay.done c d) =
      let f = frame_of L n bs in
      got_facts L n v f c.read.accepted (ap is_none c.awaits) (got_way n f c.read.accepted.pass)

  pub frame_valid : (bs : List ℕ) → valid L (frame_in L n bs).node ≡ true
  frame_valid bs = valid_good L _ (frame_kept bs (frame_way L n bs))

  left : Valid L (leaving n).node
  left = fresh_facts L n.nodes n.number ((n.phase + 1) % 256) v.board v.number

  call_kept : L.nodes ≤ 2 ^ width → (bytes : ℕ) {r : Given Barrier} → CallWay L n bytes r → Valid L r.node
  call_kept room bytes (CallWay.refused x s) = v
  call_kept room bytes (CallWay.sends a to o b f e l) = stays_facts L n v b false
  call_kept room bytes (CallWay.waits o b d z g) = stays_facts L n v b false
  call_kept room bytes (CallWay.next o b d g l) = next_facts L n v b g l
  call_kept room bytes (CallWay.second o b d z g l e) = second_facts L n v b g room z l e
  call_kept room bytes (CallWay.leaves o b d z g l e) = left
  call_kept room bytes (CallWay.single o b z) = left

  pub barrier_valid : L.nodes ≤ 2 ^ width → (bytes : ℕ) → valid L (barrier L n bytes).node ≡ true
  barrier_valid room bytes = valid_good L _ (call_kept room bytes (call_way L n bytes))
