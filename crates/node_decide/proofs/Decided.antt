-- The turn of an idle node, by the words, is that of the state that they hold.
use mathlib.Core.Path.{◌≡◌, refl, sym, ap, ◌∙◌}
use mathlib.Core.Bool.{Bool, true, false}
use mathlib.Core.List.{List, ◌∷◌, ◌++◌}
use Prim.Native.Nat.{ℕ, ◌≤◌, ◌<◌}
use native.Mathlib.Omega.{arith}
use lib.Dec.{ltb}
use lib.ListN.{length, drop}
use borrow.Author.Tests.{ltb-true, ltb-false}
use Rattle.std.proofs.Common.{Option, Some, None}
use Rattle.base.specs.Choice.{choose}
use Rattle.base.specs.Limits.{Limits, Fits}
use Rattle.base.proofs.Laws.{choose_yes, choose_no}
use Rattle.frame.specs.Frame.{frame_bytes}
use Rattle.node.specs.Sums.{dims}
use Rattle.node.specs.Answers.{also}
use Rattle.node.specs.Barrier.{is_empty, frame_due, length_due, receivers_due}
use Rattle.node.specs.declared.Node.{Node}
use Rattle.node.specs.declared.Receivers.{Receivers}
use Rattle.node.proofs.Bound.{due_dim, due_length}
use Rattle.layout.specs.Places.{sum_words}
use Rattle.layout.specs.Held.{unpacked}
use Rattle.second_frame.specs.Putting.{put_length}
use Rattle.due_bytes.specs.Bytes.{due_bytes, can_send}
use Rattle.due.specs.Due.{due_to, whom_list}
use Rattle.node_decide.specs.Decides.{sent_turn, decide_turn, decide_lent}
use Rattle.node_decide.proofs.Turning.{Turns, turns_same, short, sends, looks}
use Rattle.node_decide.proofs.Handed.{Lent, held}
use Rattle.node_decide.proofs.Due.{due_is, due_can, due_none, due_some}
use Rattle.node_decide.proofs.Looking.{Seen, looked}

module _ (L : Limits) (fit : Fits L) (ws sums : List ℕ) (p total : ℕ) (h : Lent L ws sums p total)
    (room : sum_words p ≤ length sums) (idle : (unpacked ws).busy ≡ false) (buf : List ℕ) where
  abbrev n : Node
  n = unpacked ws

  abbrev bytes : List ℕ
  bytes = due_bytes ws sums p total

  -- a frame that is due
  module _ (to : Receivers) (flag : n.flag ≡ true) (whose : receivers_due n ≡ to.first ∷ also to.extra) where
    low : n.dim < p
    low = omega (arith, due_dim L n (held L fit ws sums p total h) _ _ whose, h.dims)

    can : can_send ws p (length sums) ≡ true
    can = due_can L fit ws sums p total h low room

    is : bytes ≡ frame_bytes (dims n) (frame_due n)
    is = due_is L fit ws sums p total h low room

    long : length bytes ≡ length_due n
    long = ap length is ∙ due_length n (held L fit ws sums p total h).pass

    -- by whether it fits the buffer
    put : (t : Bool) → ltb (length buf) (length bytes) ≡ t
        → Turns L n buf (choose t buf (bytes ++ drop (length bytes) buf)) (sent_turn to (choose t None (Some (length bytes))))
    put true e =
        short L n buf h.valid idle (rw (flag, whose)) (omega (arith, ltb-true (length buf) (length bytes) e, long))
    put false e =
        sends L n buf h.valid idle to (length bytes) bytes flag whose long (ltb-false (length buf) (length bytes) e) is

    sending : Turns L n buf (decide_lent ws sums p (Some to) total buf)
        (sent_turn to (choose (can_send ws p (length sums)) (put_length bytes (length buf)) None))
    sending =
        turns_same L n buf (choose_yes _ _ can) (ap (sent_turn to) (choose_yes _ _ can))
        (put (ltb (length buf) (length bytes)) refl)

  pub decided : (clause received : ℕ) (whom : Option Receivers) → whom_list whom ≡ due_to L ws
      → (is_empty (whom_list whom) ≡ true → Seen L n clause received)
      → Turns L n buf (decide_lent ws sums p whom total buf)
      (decide_turn ws sums p whom total clause received (length buf))
  decided clause received (Some to) e seen =
      let q = due_some L fit ws sums p total h _ _ (sym e) in
      sending to q.0 q.1
  decided clause received None e seen =
      looks L n buf h.valid idle (due_none L fit ws sums p total h (sym e)) _
      (looked L fit ws sums p total h clause received (seen refl))
