-- What holds from call to call: both passes rest on one T, tallies never go down in a phase, leaving makes all fresh
-- but the phase, and a refused call gives back the state it got.
use mathlib.Core.Path.{◌≡◌, refl, sym, ap, ◌∙◌}
use mathlib.Core.Logic.{◌≢◌}
use mathlib.Core.Bool.{Bool, true, false}
use mathlib.Core.Option.{Option, none, some}
use mathlib.Core.List.{List}
use Prim.Native.Nat.{ℕ, zero, suc, ◌+◌, ◌%◌, ◌^◌, ◌≤◌, ◌<◌}
use native.Mathlib.Decide.{ℕ_discrete}
use native.Mathlib.Omega.{arith}
use Rattle.base.specs.Limits.{Limits, width}
use Rattle.base.specs.declared.Kind.{Kind}
use Rattle.base.proofs.Laws.{clash, choose_yes}
use Rattle.tree.specs.Tree.{dimension, run_of, awaited}
use Rattle.tree.specs.Tree.{Run}
use Rattle.tree.proofs.Dimension.{smallest}
use Rattle.tree.proofs.Runs.{run_top}
use Rattle.tree.proofs.Places.{alone_one}
use Rattle.node.specs.Sums.{dims, first_at, second_at, Field, all_sent, all_taken, tally, number, own}
use Rattle.node.specs.Agree.{is_none}
use Rattle.node.specs.Change.{with_busy, at, fresh_in, no_node}
use Rattle.node.specs.Answers.{Given, Outcome, done, dropped, refused, Barrier, sent, waits, moved, left, barred}
use Rattle.node.specs.Calls.{fresh, send, take, idle, gotten, frame_in}
use Rattle.node.specs.Barrier.{sending, waiting, barrier}
use Rattle.node.specs.declared.Node.{Node}
use Rattle.node.proofs.Clauses.{first_agrees, second_agrees}
use Rattle.node.proofs.Valid.{Valid, valid_width, step_second, second_fits}
use Rattle.node.proofs.Ways.{FreshWay, fresh_way, SendWay, send_way, TakeWay, take_way, IdleWay, idle_way}
use Rattle.node.proofs.Ways.{frame_of, FrameWay, frame_way, CallWay, call_way}
use Rattle.node.proofs.Depends.{Alike, tally_same, alike, sent_up, taken_up, got_way, got_keeps}

-- ---- T in pass 2

-- rule T5: nobody is alone in the last dimension
pub last_awaits : (P k a : ℕ) → suc k ≡ dimension P → a < P → is_none (awaited P k a) ≡ false
last_awaits P k a e h = go (awaited P k a) refl
  where
    go : (o : Option ℕ) → awaited P k a ≡ o → is_none o ≡ false
    go (some w) q = refl
    go none q =
        let one = alone_one P k a h q in
        let top : run_of P (suc k) a ≡ run_of P (dimension P) a = ap (λ d. run_of P d a) e in
        let low = ap (λ (r : Run). r.low) (top ∙ run_top P a) in
        let high = ap (λ (r : Run). r.high) (top ∙ run_top P a) in
        absurd (omega (arith, smallest P 0 (omega arith)))

module _ (L : Limits) (n : Node) (v : Valid L n) (two : n.pass ≡ 2) where
  -- T is the sum of total taken, its own and of all stored frames of pass 1
  pub total_taken : n.agreed ≡ own n (dims n) all_taken
  total_taken = v.agreed_second two

  -- and equally the sum of total sent, by clause 4
  pub total_sent : n.agreed ≡ own n (dims n) all_sent
  unfolding own
  total_sent = total_taken ∙ go (dims n) refl
    where
      go : (p : ℕ) → dims n ≡ p → own n p all_taken ≡ own n p all_sent
      go zero e = let one = (v.lone e).0 in absurd (omega arith)
      go (suc k) e =
          let at = step_second (dims n) n.pass n.dim two in
          let met = last_awaits n.nodes k n.number (sym e) v.number in
          let a = first_agrees L n k (v.before_first k (omega arith) (omega arith)) met in
          let x = first_at n k in
          let t = choose_yes (number x all_taken) 0 a.stored in
          let s = choose_yes (number x all_sent) 0 a.stored in
          omega (arith, a.last (sym e))

  -- each frame of pass 2 that is stored for a step before the position has the same T, by clause 5
  pub same_total : L.nodes ≤ 2 ^ width → (k : ℕ) → k < n.dim → (second_at n k).present ≡ true
      → (second_at n k).agreed ≡ n.agreed
  same_total room k l p =
      let at = step_second (dims n) n.pass n.dim two in
      let low = v.dim (some_dims (ℕ_discrete (dims n) 0)) in
      let wide = valid_width L n room v in
      let met = ((second_fits L n k (v.second k (omega arith))).awaits p).1 in
      (second_agrees L n k (v.before_second k (omega arith)) met).same
    where
      some_dims : Dec (dims n ≡ 0) → 0 < dims n
      some_dims (yes e) = let one = (v.lone e).0 in absurd (omega arith)
      some_dims (no e) = omega arith

-- ---- tallies never go down in a phase

-- every tally of m is at least what it was in n
abbrev pub NoLess : Node → Node → Type 0
NoLess n m = (f : Field) → tally n f ≤ tally m f

no_less : (n m : Node) → Alike n m → NoLess n m
no_less n m a f = omega (arith, tally_same n m a f)

-- which answer it is
abbrev is_refused : Outcome → Bool
is_refused done = false
is_refused dropped = false
is_refused (refused x) = true

abbrev is_left : Barrier → Bool
is_left (sent to length) = false
is_left (waits clause) = false
is_left moved = false
is_left left = true
is_left (barred x) = false

abbrev is_barred : Barrier → Bool
is_barred (sent to length) = false
is_barred (waits clause) = false
is_barred moved = false
is_barred left = false
is_barred (barred x) = true

module _ (L : Limits) (n : Node) where
  same : NoLess n n
  same f = omega arith

  pub send_keeps : (b : ℕ) → NoLess n (send L n b).node
  send_keeps b = go (send_way L n b)
    where
      go : {r : Given Outcome} → SendWay L n b r → NoLess n r.node
      go (SendWay.refused x s) = same
      go (SendWay.done o h z w r) = λ f. (sent_up n _ f).0

  pub take_keeps : (kind : Kind) (a phase : ℕ) → NoLess n (take L n kind a phase).node
  take_keeps kind a phase = go (take_way L n kind a phase)
    where
      go : {r : Given Outcome} → TakeWay L n kind a phase r → NoLess n r.node
      go (TakeWay.refused x s) = same
      go (TakeWay.done o h z d r) = λ f. (taken_up n kind _ f).0

  pub idle_keeps : NoLess n (idle L n).node
  idle_keeps = go (idle_way L n)
    where
      go : {r : Given Outcome} → IdleWay L n r → NoLess n r.node
      go (IdleWay.refused x s) = same
      go (IdleWay.done o) = no_less n (with_busy n false) (alike n)

  pub frame_keeps : (bs : List ℕ) → NoLess n (frame_in L n bs).node
  frame_keeps bs = go (frame_way L n bs)
    where
      go : {r : Given Outcome} → FrameWay L n bs r → NoLess n r.node
      go (FrameWay.refused x s) = same
      go (FrameWay.early c d) = same
      go (FrameWay.foreign c d e f) = same
      go (FrameWay.late c d) = same
      go (FrameWay.done c d) =
          no_less n (gotten n (frame_of L n bs)) (got_keeps (got_way n (frame_of L n bs) c.read.accepted.pass)).0

  pub barrier_keeps : (room : ℕ) → (barrier L n room).answer ≢ left → NoLess n (barrier L n room).node
  barrier_keeps room = go (call_way L n room)
    where
      go : {r : Given Barrier} → CallWay L n room r → r.answer ≢ left → NoLess n r.node
      go (CallWay.refused x s) h = same
      go (CallWay.sends a to o b f e l) h = no_less n (sending n).node (alike n)
      go (CallWay.waits o b d z g) h = no_less n (waiting L n).node (alike n)
      go (CallWay.next o b d g l) h = no_less n (at n n.pass (suc n.dim) true n.agreed) (alike n)
      go (CallWay.second o b d z g l e) h = no_less n (at n 2 0 true (own n (dims n) all_taken)) (alike n)
      go (CallWay.leaves o b d z g l e) h = absurd (h refl)
      go (CallWay.single o b z) h = absurd (h refl)

  -- ---- leaving

  -- all is fresh but the phase, which is one more, 255 going to 0
  pub left_fresh : (room : ℕ) → (barrier L n room).answer ≡ left
      → (barrier L n room).node ≡ fresh_in n.nodes n.number ((n.phase + 1) % 256)
  left_fresh room h = go (call_way L n room) (ap is_left h)
    where
      go : {r : Given Barrier} → CallWay L n room r → is_left r.answer ≡ true
          → r.node ≡ fresh_in n.nodes n.number ((n.phase + 1) % 256)
      go (CallWay.refused x s) h = clash (sym h)
      go (CallWay.sends a to o b f e l) h = clash (sym h)
      go (CallWay.waits o b d z g) h = clash (sym h)
      go (CallWay.next o b d g l) h = clash (sym h)
      go (CallWay.second o b d z g l e) h = clash (sym h)
      go (CallWay.leaves o b d z g l e) h = refl
      go (CallWay.single o b z) h = refl

  -- ---- a refused call gives back the state it got

  pub send_back : (b x : ℕ) → (send L n b).answer ≡ refused x → (send L n b).node ≡ n
  send_back b x h = go (send_way L n b) (ap is_refused h)
    where
      go : {r : Given Outcome} → SendWay L n b r → is_refused r.answer ≡ true → r.node ≡ n
      go (SendWay.refused x s) h = refl
      go (SendWay.done o l z w r) h = clash (sym h)

  pub take_back : (kind : Kind) (a phase x : ℕ) → (take L n kind a phase).answer ≡ refused x
      → (take L n kind a phase).node ≡ n
  take_back kind a phase x h = go (take_way L n kind a phase) (ap is_refused h)
    where
      go : {r : Given Outcome} → TakeWay L n kind a phase r → is_refused r.answer ≡ true → r.node ≡ n
      go (TakeWay.refused x s) h = refl
      go (TakeWay.done o l z d r) h = clash (sym h)

  pub idle_back : (x : ℕ) → (idle L n).answer ≡ refused x → (idle L n).node ≡ n
  idle_back x h = go (idle_way L n) (ap is_refused h)
    where
      go : {r : Given Outcome} → IdleWay L n r → is_refused r.answer ≡ true → r.node ≡ n
      go (IdleWay.refused x s) h = refl
      go (IdleWay.done o) h = clash (sym h)

  -- a frame that is dropped leaves the state too: whatever is not done
  pub frame_back : (bs : List ℕ) → (frame_in L n bs).answer ≢ done → (frame_in L n bs).node ≡ n
  frame_back bs = go (frame_way L n bs)
    where
      go : {r : Given Outcome} → FrameWay L n bs r → r.answer ≢ done → r.node ≡ n
      go (FrameWay.refused x s) h = refl
      go (FrameWay.early c d) h = refl
      go (FrameWay.foreign c d e f) h = refl
      go (FrameWay.late c d) h = refl
      go (FrameWay.done c d) h = absurd (h refl)

  pub barrier_back : (room x : ℕ) → (barrier L n room).answer ≡ barred x → (barrier L n room).node ≡ n
  barrier_back room x h = go (call_way L n room) (ap is_barred h)
    where
      go : {r : Given Barrier} → CallWay L n room r → is_barred r.answer ≡ true → r.node ≡ n
      go (CallWay.refused x s) h = refl
      go (CallWay.sends a to o b f e l) h = clash (sym h)
      go (CallWay.waits o b d z g) h = clash (sym h)
      go (CallWay.next o b d g l) h = clash (sym h)
      go (CallWay.second o b d z g l e) h = clash (sym h)
      go (CallWay.leaves o b d z g l e) h = clash (sym h)
      go (CallWay.single o b z) h = clash (sym h)

-- fresh is handed no state, and gives none back
pub fresh_back : (L : Limits) (P number x : ℕ) → (fresh L P number).answer ≡ refused x → (fresh L P number).node ≡ no_node
fresh_back L P number x h = go (fresh_way L P number) (ap is_refused h)
  where
    go : {r : Given Outcome} → FreshWay L P number r → is_refused r.answer ≡ true → r.node ≡ no_node
    go (FreshWay.refused x s) h = refl
    go (FreshWay.done b l) h = clash (sym h)
