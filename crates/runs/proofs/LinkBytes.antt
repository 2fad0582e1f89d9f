-- The bytes on the links are the bytes that the barrier call has written.
use mathlib.Core.Path.{◌≡◌, sym, ap, ◌∙◌}
use mathlib.Core.List.{List, ◌++◌}
use Prim.Native.Nat.{ℕ, ◌<◌}
use native.Mathlib.Omega.{arith}
use lib.ListN.{length, take, drop}
use lib.Seq.{take-append_seam}
use borrow.Author.Tests.{lt-ltb}
use Rattle.base.specs.Limits.{Limits}
use Rattle.base.proofs.Laws.{choose_yes}
use Rattle.frame.specs.Frame.{frame_bytes}
use Rattle.node.specs.Sums.{dims}
use Rattle.node.specs.Answers.{Given, Barrier, sent}
use Rattle.node.specs.Barrier.{frame_due, length_due, lent_after, barrier, barrier_bytes}
use Rattle.node.specs.declared.Node.{Node}
use Rattle.node.proofs.Valid.{valid_known}
use Rattle.node.proofs.Ways.{CallWay, call_way}
use Rattle.node.proofs.Bound.{due_length}
use Rattle.events.specs.Board.{Board, calls, gave, posted, after_call, call_event, step}
use Rattle.runs.specs.LinkBytes.{LinkBytes}

module _ (L : Limits) (n : Node) (to : List ℕ) (len : ℕ) where
  -- the length answered is that of the frame
  sent_length : (room : ℕ) {q : Given Barrier} → CallWay L n room q → q.answer ≡ sent to len
      → length (frame_bytes (dims n) (frame_due n)) ≡ len
  sent_length room (CallWay.sends first rest v b f e l) s =
      let z : length_due n ≡ len = cc in due_length n (valid_known L n v).pass ∙ z
  sent_length room (CallWay.refused x c) s = let z : ◌≡◌ {A = ℕ} 0 1 = cc in absurd (omega arith)
  sent_length room (CallWay.waits v b d p g) s = let z : ◌≡◌ {A = ℕ} 0 1 = cc in absurd (omega arith)
  sent_length room (CallWay.next v b d g p) s = let z : ◌≡◌ {A = ℕ} 0 1 = cc in absurd (omega arith)
  sent_length room (CallWay.second v b d p g l f) s = let z : ◌≡◌ {A = ℕ} 0 1 = cc in absurd (omega arith)
  sent_length room (CallWay.leaves v b d p g l f) s = let z : ◌≡◌ {A = ℕ} 0 1 = cc in absurd (omega arith)
  sent_length room (CallWay.single v b d) s = let z : ◌≡◌ {A = ℕ} 0 1 = cc in absurd (omega arith)

  written : (buf : List ℕ) → (barrier L n (length buf)).answer ≡ sent to len
      → take len (barrier_bytes L n buf) ≡ frame_bytes (dims n) (frame_due n)
  unfolding barrier_bytes
  written buf s =
      let bytes : List ℕ = frame_bytes (dims n) (frame_due n) in
      ap (λ q. take len (lent_after n buf q)) s
      ∙ ap (λ k. take k (bytes ++ drop len buf)) (sym (sent_length (length buf) (call_way L n (length buf)) s))
      ∙ take-append_seam bytes (drop len buf)

go_out_lem : (L : Limits) (P : ℕ) (w : Board) (a : ℕ) (buf to : List ℕ) (len : ℕ) → a < P
    → (barrier L (w.nodes a) (length buf)).answer ≡ sent to len
    → (step L P w (calls a (length buf))).items
    ≡ w.items ++ posted a (take len (barrier_bytes L (w.nodes a) buf)) (w.count a) to
unfolding step
go_out_lem L P w a buf to len h s =
    let n : Node = w.nodes a in
    ap (λ (x : Board). x.items) (choose_yes (call_event L P w a (length buf)) w (lt-ltb a P h))
    ∙ ap (λ q. (after_call (gave w a (barrier L n (length buf)).node) a n q).items) s
    ∙ ap (λ bytes. w.items ++ posted a bytes (w.count a) to) (sym (written L n to len buf s))

pub link_bytes : LinkBytes
link_bytes = record { written = λ L n buf to len. written L n to len buf; go_out = go_out_lem }
