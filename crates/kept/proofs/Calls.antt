-- After each call on a state in words, the words hold the state that the call gives.
use mathlib.Core.Path.{◌≡◌, sym}
use mathlib.Core.Logic.{◌≢◌}
use mathlib.Core.Bool.{true, false}
use mathlib.Core.List.{List}
use Prim.Native.Nat.{ℕ, suc, ◌+◌, ◌%◌, ◌<◌}
use native.Mathlib.Omega.{arith}
use Rattle.base.specs.Limits.{Limits, Fits, width}
use Rattle.base.specs.declared.Kind.{Kind}
use Rattle.tree.specs.Tree.{distance}
use Rattle.tree.proofs.Distances.{distance_below_lem}
use Rattle.node.specs.Sums.{dims, all_taken, own}
use Rattle.node.specs.State.{valid}
use Rattle.node.specs.Answers.{Given, Outcome, Barrier}
use Rattle.node.specs.Calls.{gotten, send, take, idle, frame_in}
use Rattle.node.specs.Barrier.{leaving, barrier}
use Rattle.node.specs.declared.Node.{Node}
use Rattle.node.proofs.Valid.{valid_known}
use Rattle.node.proofs.Ways.{SendWay, send_way, TakeWay, take_way, IdleWay, idle_way, frame_of, Comes, FrameWay, frame_way}
use Rattle.node.proofs.Ways.{CallWay, call_way}
use Rattle.layout.specs.Held.{dims_of, unpacked, is_whole}
use Rattle.layout.proofs.Whole.{whole, few}
use Rattle.layout.proofs.Becomes.{Becomes, becomes_same}
use Rattle.layout.proofs.Writes.{put_busy, put_flag, put_position}
use Rattle.layout.proofs.Fresh.{put_fresh}
use Rattle.node_take.proofs.Counted.{put_one_sent, put_taken_one}
use Rattle.node_frames.proofs.Storing.{put_read}
use Rattle.kept.proofs.Holds.{Holds, becomes_holds}

module _ (L : Limits) (fit : Fits L) (ws : List ℕ) (e : is_whole L ws ≡ true) where
  abbrev n : Node
  n = unpacked ws

  holds : {after : List ℕ} {m : Node} → Becomes L ws after m → Holds L ws m
  holds b = becomes_holds L fit b

  -- a refused call gives back the state that it got
  same : Holds L ws n
  same = holds (becomes_same L ws e)

  -- the shell of another node of the board
  shell_low_lem : (b : ℕ) → valid L n ≡ true → b < n.nodes → b ≢ n.number
      → (distance n.nodes n.number b < dims_of ws) × (distance n.nodes n.number b < width)
  unfolding unpacked
  shell_low_lem b ok h z =
      let d = distance_below_lem n.nodes n.number b (valid_known L n ok).number (λ q. z (sym q)) h in
      (d, omega (arith, few L fit ws (whole L ws e).board))

  -- ---- send, take, idle

  after_send_lem : (b : ℕ) {r : Given Outcome} → SendWay L n b r → Holds L ws r.node
  after_send_lem b (SendWay.refused x s) = same
  after_send_lem b (SendWay.done ok h z w r) =
      let l = shell_low_lem b ok h z in holds (put_one_sent L ws e _ l.0 l.1)

  pub send_holds : (b : ℕ) → Holds L ws (send L n b).node
  send_holds b = after_send_lem b (send_way L n b)

  after_take_lem : (kind : Kind) (a phase : ℕ) {r : Given Outcome} → TakeWay L n kind a phase r → Holds L ws r.node
  after_take_lem kind a phase (TakeWay.refused x s) = same
  after_take_lem kind a phase (TakeWay.done ok h z d r) =
      let l = shell_low_lem a ok h z in holds (put_taken_one L ws e _ l.0 l.1 kind)

  pub take_holds : (kind : Kind) (a phase : ℕ) → Holds L ws (take L n kind a phase).node
  take_holds kind a phase = after_take_lem kind a phase (take_way L n kind a phase)

  after_idle_lem : {r : Given Outcome} → IdleWay L n r → Holds L ws r.node
  after_idle_lem (IdleWay.refused x s) = same
  after_idle_lem (IdleWay.done ok) = holds (put_busy L ws e false)

  pub idle_holds : Holds L ws (idle L n).node
  idle_holds = after_idle_lem (idle_way L n)

  -- ---- frame in

  got : (bs : List ℕ) → Comes L n bs → Holds L ws (gotten n (frame_of L n bs))
  unfolding unpacked
  got bs c = holds (put_read L ws bs c.read fit e)

  after_frame : (bs : List ℕ) {r : Given Outcome} → FrameWay L n bs r → Holds L ws r.node
  after_frame bs (FrameWay.refused x s) = same
  after_frame bs (FrameWay.early c d) = same
  after_frame bs (FrameWay.foreign c d u v) = same
  after_frame bs (FrameWay.late c d) = same
  after_frame bs (FrameWay.done c d) = got bs c

  pub frame_holds : (bs : List ℕ) → Holds L ws (frame_in L n bs).node
  frame_holds bs = after_frame bs (frame_way L n bs)

  -- ---- the barrier call

  left : Holds L ws (leaving n).node
  unfolding unpacked
  left = holds (put_fresh L ws e ((n.phase + 1) % 256) (omega arith))

  after_step : (room : ℕ) {r : Given Barrier} → CallWay L n room r → Holds L ws r.node
  after_step room (CallWay.refused x s) = same
  after_step room (CallWay.sends a to ok b f q l) = holds (put_flag L ws e false)
  after_step room (CallWay.waits ok b d z g) = holds (put_flag L ws e false)
  after_step room (CallWay.next ok b d g l) = holds (put_position L ws e n.pass (suc n.dim) true n.agreed)
  after_step room (CallWay.second ok b d z g l q) = holds (put_position L ws e 2 0 true (own n (dims n) all_taken))
  after_step room (CallWay.leaves ok b d z g l q) = left
  after_step room (CallWay.single ok b z) = left

  pub step_holds : (room : ℕ) → Holds L ws (barrier L n room).node
  step_holds room = after_step room (call_way L n room)
