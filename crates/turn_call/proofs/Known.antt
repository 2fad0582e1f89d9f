-- What an answer of a barrier call says of the state, and what becomes of the line by it.
use mathlib.Core.Path.{◌≡◌, refl, sym, ap, ◌∙◌}
use mathlib.Core.Bool.{Bool, true, false}
use mathlib.Core.List.{List, ◌++◌}
use Prim.Native.Nat.{ℕ, ◌+◌, ◌*◌, ◌≤◌}
use native.Mathlib.Omega.{arith}
use lib.Dec.{ltb}
use lib.ListN.{length, drop, length-drop}
use lib.Seq.{length-take-le}
use borrow.Author.Tests.{ltb-true}
use borrow.Rule.Slice.PartMut.{put_mid}
use Rattle.std.proofs.Common.{Result}
use Rattle.base.specs.Choice.{choose}
use Rattle.base.specs.Limits.{base}
use Rattle.base.specs.declared.Refusal.{Refusal}
use Rattle.base.proofs.Laws.{clash, choose_yes}
use Rattle.node.specs.Answers.{Given, Barrier, barred, barrier_of}
use Rattle.node.specs.Barrier.{barrier, barrier_bytes, lent_after, sending, length_due}
use Rattle.node.specs.declared.Node.{Node}
use Rattle.node.specs.declared.Step.{Step}
use Rattle.node.proofs.Valid.{valid_known}
use Rattle.node.proofs.Bound.{due_length}
use Rattle.node.proofs.Ways.{CallWay, call_way}
use Rattle.layout.specs.Held.{is_whole, unpacked}
use Rattle.state_calls.specs.On.{Kept, keep, step_on, step_bytes, step_replied}
use Rattle.states.specs.declared.State.{State}
use Rattle.state_calls.specs.declared.StepReply.{StepReply}
use Rattle.under_way.specs.Frames.{place_size, room_for, framed}
use Rattle.under_way.proofs.Parts.{frame_part, length_framed}
use Rattle.board_states.specs.States.{state_at, node_at}
use Rattle.board_states.specs.declared.Stage.{Stage}
use Rattle.turn_frames.specs.Framing.{called_at, one_frame_bytes, two_frames_bytes}
use Rattle.turn_call.specs.Calling.{call_acted, call_acted_bytes, call_act, call_act_bytes}
use Rattle.turn_call.specs.Pieces.{is_sent, call_sends, due}

-- a reply whose answer is known
pub called_as : (r : StepReply) (x : Result Step Refusal) (g : Kept Barrier) → step_replied r ≡ g → r.answer ≡ x
    → g ≡ keep r.state (barrier_of x)
called_as r x g e q = sym e ∙ ap (λ y. keep r.state (barrier_of y)) q

-- a barrier call that sends
pub record Sending (n : Node) : Type 0 where
  pub step : barrier base n place_size ≡ sending n
  pub count : length (due n) ≡ length_due n
  pub fits : length_due n ≤ place_size

node_sends : (n : Node) → is_sent (barrier base n place_size).answer ≡ true → Sending n
node_sends n e = go (call_way base n place_size) refl e
  where
    go : {g : Given Barrier} → CallWay base n place_size g → barrier base n place_size ≡ g → is_sent g.answer ≡ true
        → Sending n
    go (CallWay.refused x s) q f = clash (sym f)
    go (CallWay.sends first rest v b t r l) q f =
        record { step = q; count = due_length n (valid_known base n v).pass; fits = l }
    go (CallWay.waits v b d s a) q f = clash (sym f)
    go (CallWay.next v b d a l) q f = clash (sym f)
    go (CallWay.second v b d s a l p) q f = clash (sym f)
    go (CallWay.leaves v b d s a l p) q f = clash (sym f)
    go (CallWay.single v b d) q f = clash (sym f)

-- its words hold a state
pub sending_known : (s : State) → call_sends s ≡ true → (is_whole base s.words ≡ true) × Sending (unpacked s.words)
unfolding step_on
sending_known s e =
    let k = go (is_whole base s.words) (barrier base (unpacked s.words) place_size).answer _ e in
    (k.0, node_sends _ k.1)
  where
    go : (t : Bool) (o : Barrier) (x : ℕ) → is_sent (choose t o (barred x)) ≡ true → (t ≡ true) × (is_sent o ≡ true)
    go true o x f = (refl, f)
    go false o x f = clash (sym f)

-- the lent bytes after it
pub sent_bytes : (s : State) (buf : List ℕ) → call_sends s ≡ true → length buf ≡ place_size
    → step_bytes s buf ≡ due (unpacked s.words) ++ drop (length_due (unpacked s.words)) buf
unfolding step_bytes barrier_bytes
sent_bytes s buf f e =
    let k = sending_known s f in
    let n = unpacked s.words in
    choose_yes _ _ k.0 ∙ ap (λ g. lent_after n buf g.answer) (ap (barrier base n) e ∙ k.1.step)

-- its frame is at the start of the place that the call is made with
pub due_at : (s : State) (bytes : List ℕ) (place : ℕ) → call_sends s ≡ true → place_size * place + place_size ≤ length bytes
    → called_at bytes place s ≡ framed bytes place (due (unpacked s.words))
unfolding called_at
due_at s bytes place f l =
    let a = place_size * place in
    let k = (sending_known s f).1 in
    let part = length-take-le place_size (drop a bytes) (rw length-drop (omega arith)) in
    ap (λ b. put_mid a place_size bytes b) (sent_bytes s _ f part)
    ∙ frame_part bytes place place_size _ _ refl k.count k.fits l

-- what is written matters only where there is room
where_room : (t : Bool) (x y z : List ℕ) → (t ≡ true → x ≡ y) → choose t x z ≡ choose t y z
where_room true x y z f = f refl
where_room false x y z f = refl

module _ (st : Stage) (headers : ℕ) (bytes : List ℕ) (a : ℕ) (sends : call_sends (state_at st a) ≡ true) where
  abbrev frame : List ℕ
  frame = due (node_at st a)

  pub one_due : one_frame_bytes st headers bytes a
      ≡ choose (ltb st.under (room_for headers bytes)) (framed bytes st.under frame) bytes
  one_due =
      where_room _ _ _ _
      (λ t.
      let l = ltb-true st.under (room_for headers bytes) t in
      due_at (state_at st a) bytes st.under sends (omega arith))

  pub two_due : two_frames_bytes st headers bytes a
      ≡ choose (ltb (st.under + 1) (room_for headers bytes))
      (framed (framed bytes st.under frame) (st.under + 1) frame) bytes
  two_due =
      where_room _ _ _ _
      (λ t.
      let l = ltb-true (st.under + 1) (room_for headers bytes) t in
      let k = (sending_known (state_at st a) sends).1 in
      let n = length_framed bytes st.under frame (omega (arith, k.count, k.fits)) in
      ap (λ x. called_at x (st.under + 1) (state_at st a)) (due_at (state_at st a) bytes st.under sends (omega arith))
      ∙ due_at (state_at st a) (framed bytes st.under frame) (st.under + 1) sends (omega (arith, n)))

pub call_by : (st : Stage) (headers : ℕ) (bytes : List ℕ) (a : ℕ) (r : Kept Barrier)
    → step_on (state_at st a) place_size ≡ r
    → (call_act st headers bytes a ≡ call_acted st headers bytes a r r.answer)
    × (call_act_bytes st headers bytes a ≡ call_acted_bytes st headers bytes a r.answer)
unfolding call_act call_act_bytes
call_by st headers bytes a r e = (
  ap (λ g. call_acted st headers bytes a g g.answer) e,
  ap (λ g. call_acted_bytes st headers bytes a g.answer) e,
)
