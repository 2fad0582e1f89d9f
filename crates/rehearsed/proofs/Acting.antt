-- The turns of send, idle and barrier call follow their events.
use mathlib.Core.Path.{◌≡◌, refl, sym, ap, ◌∙◌, subst}
use mathlib.Core.Bool.{true, false}
use mathlib.Core.List.{List, [], ◌∷◌, ◌++◌, append_assoc}
use Prim.Native.Nat.{ℕ, ◌+◌, ◌*◌, ◌≤◌, ◌<◌}
use native.Mathlib.Omega.{arith}
use lib.Dec.{ltb}
use lib.ListN.{length, get_or, set, length-set, length-append}
use borrow.Author.Tests.{ltb-true, lt-ltb}
use Rattle.base.specs.Choice.{choose}
use Rattle.base.specs.Limits.{base, width}
use Rattle.base.specs.declared.Kind.{Kind}
use Rattle.base.proofs.Laws.{choose_yes, cases}
use Rattle.tree.specs.Tree.{dimension, Place, alone, hermit, neighbour, messenger, sends_to, place, receivers, distance}
use Rattle.tree.proofs.Dimension.{smallest}
use Rattle.frame.specs.Frame.{frame_length, frame_bytes}
use Rattle.node.specs.Sums.{dims}
use Rattle.node.specs.State.{valid}
use Rattle.node.specs.Change.{with_busy, at}
use Rattle.node.specs.Answers.{Given, give, Outcome, outcome_number, Barrier, barrier_number}
use Rattle.node.specs.Calls.{send, one_sent, idle}
use Rattle.node.specs.Barrier.{frame_due, length_due, receivers_due, barrier}
use Rattle.node.specs.declared.Node.{Node}
use Rattle.node.proofs.Valid.{valid_known}
use Rattle.node.proofs.Bound.{due_headed, due_length}
use Rattle.node.proofs.Ways.{SendWay, send_way, idle_does, CallWay, call_way}
use Rattle.events.specs.Board.{put, work, frame, Item, Board, sends, idles, calls, gave, carries, posted, sent_out}
use Rattle.events.specs.Board.{send_event, idle_event, call_event}
use Rattle.events.specs.Board.{after_send, after_idle, after_call, step}
use Rattle.runs.specs.Facts.{Facts}
use Rattle.runs.specs.Printed.{line, printed}
use Rattle.events.proofs.Tools.{put_same}
use Rattle.items.specs.declared.Item.{Item as Header}
use Rattle.state_calls.specs.On.{Kept, on_state, step_on}
use Rattle.states.specs.declared.State.{State}
use Rattle.under_way.specs.Frames.{place_size, room_for, framed, frame_held}
use Rattle.under_way.proofs.Parts.{length_framed}
use Rattle.board_states.specs.States.{state_at, node_at, changed}
use Rattle.stage.specs.Board.{work_item, frame_item}
use Rattle.board_states.specs.declared.Stage.{Stage}
use Rattle.turns.specs.Events.{Turn, sent_by, framed_to, called_by, send_turn, idle_turn, call_turn}
use Rattle.rehearsed.proofs.States.{Bears, send_makes, idle_makes, step_makes}
use Rattle.rehearsed.proofs.Links.{Stand}
use Rattle.rehearsed.proofs.Memory.{held_framed_before, held_framed_at}
use Rattle.rehearsed.proofs.Same.{mark_load, Stands, Same, stand_put}
use Rattle.rehearsed.proofs.Follows.{Follows, follows_as, roomy, refused_follows, changes_follow}
use Rattle.rehearsed.proofs.Follows.{quiet_follows}

-- a frame goes to two nodes at most
few_receivers : (P k a : ℕ) → length (receivers P k a) ≤ 2
unfolding receivers
few_receivers P k a = go (place P k a)
  where
    go : (x : Place) → length (sends_to x) ≤ 2
    go alone = omega arith
    go (hermit next) = omega arith
    go (neighbour b) = omega arith
    go (messenger b h) = omega arith

-- a frame whose length can be read off its head
pub record Legible (P : ℕ) (frame : List ℕ) : Type 0 where
  pub told : frame_length (dimension P) (get_or frame 0 0) (get_or frame 2 0) ≡ length frame
  pub headed : 3 ≤ length frame
  pub fits : length frame ≤ place_size

due_legible : (P : ℕ) (n : Node) → n.nodes ≡ P → valid base n ≡ true → length_due n ≤ place_size
    → Legible P (frame_bytes (dims n) (frame_due n))
unfolding frame_bytes
due_legible P n e v l =
    let pass = (valid_known base n v).pass in
    let count = due_length n pass in
    let head = due_headed n pass in
    record {
      told = (λ i. frame_length (dimension (sym e i)) (head.pass i) (head.dim i)) ∙ sym count;
      headed = omega arith;
      fits = omega arith;
    }

module _ {P : ℕ} {st : Stage} {items : List Header} {bytes : List ℕ} {w : Board} (few : P ≤ 16)
    (s : Same P st items bytes w) (facts : Facts base P w) (a : ℕ) (h : a < P) where
  bears : Bears (state_at st a) (w.nodes a)
  bears = s.nodes a h

  -- the event is at a node of the board
  at_node : (next : Board) (x : ℕ) {t u : Turn} → t ≡ u → Follows P w next (line a x (next.nodes a)) t
      → Follows P w (choose (ltb a P) next w) (line a x ((choose (ltb a P) next w).nodes a)) u
  at_node next x {t} {u} e k =
      let now : next ≡ choose (ltb a P) next w = sym (choose_yes next w (lt-ltb a P h)) in
      subst (λ t. Follows P w (choose (ltb a P) next w) (line a x ((choose (ltb a P) next w).nodes a)) t) e
      (follows_as now (λ i. line a x ((now i).nodes a)) k)

  one_more : st.under < room_for (length items) bytes → st.under + 1 ≤ room_for (length items) bytes
  one_more l = omega arith

  -- ---- s a b and t a b: a sends a job or a note to b

  send_way_follows : (kind : Kind) (b : ℕ) {g : Given Outcome} → SendWay base (w.nodes a) b g → (r : Kept Outcome)
      → Bears r.state g.node
      → Follows P w (after_send (gave w a g.node) kind a b g.answer)
      (line a (outcome_number g.answer) ((after_send (gave w a g.node) kind a b g.answer).nodes a))
      (sent_by st items bytes kind a b r g.answer)
  send_way_follows kind b (SendWay.refused x z) r now = refused_follows few s a h x
  send_way_follows kind b (SendWay.done v l o z y) r now =
      let n = one_sent (w.nodes a) (distance (w.nodes a).nodes (w.nodes a).number b) in
      let it = work_item kind a b (node_at st a) in
      let next = sent_out (gave w a n) kind a b in
      let m : Item = record {
        from = a;
        to = b;
        load = work kind (put w.nodes a n a).phase;
        phase = w.count a;
        name = w.sends;
      } in
      cases (Follows P w next (line a 0 (next.nodes a))) (ltb st.under (room_for (length items) bytes)) _ _
      (λ e.
      let lent = ltb-true _ _ e in
      let load =
      mark_load kind a b (node_at st a).phase (frame_held P bytes st.under)
      ∙ ap (λ n. work kind n.phase) bears.node
      ∙ ap (λ n. work kind n.phase) (sym (put_same w.nodes a n)) in
      let long = length-set items st.under it in
      changes_follow few s a h r.state n now (st.under + 1) 0 (set items st.under it) bytes next (λ z. omega arith)
      refl (length-append w.items (m ∷ []) ∙ omega (arith, s.under))
      (subst (λ k. st.under + 1 ≤ room_for k bytes) (sym long) (one_more lent))
      (stand_put P items bytes bytes w.items it m st.under s.under
      (omega (arith, (roomy _ _ bytes (one_more lent)).headed)) (λ j l. refl) refl refl load s.stand))
      (λ e. Follows.out refl s)

  pub send_follows : (kind : Kind) (b : ℕ)
      → Follows P w (step base P w (sends kind a b)) (printed P w (sends kind a b)) (send_turn st items bytes kind a b)
  unfolding step send_turn
  send_follows kind b =
      let r = on_state (λ n. send base n b) (state_at st a) in
      let made = send_makes (state_at st a) (w.nodes a) bears b in
      at_node (send_event base P w kind a b) (outcome_number (send base (w.nodes a) b).answer)
      (ap (sent_by st items bytes kind a b r) (sym made.answer))
      (send_way_follows kind b (send_way base (w.nodes a) b) r made.state)

  -- ---- i a: idle call

  idle_done : idle base (w.nodes a) ≡ give (with_busy (w.nodes a) false) Outcome.done
  idle_done = idle_does base (w.nodes a) (facts.accepted a h)

  idled : State → Outcome → Turn
  idled x o =
      record {
        stage = changed st a x st.under;
        items = items;
        bytes = bytes;
        actor = a;
        answer = outcome_number o;
      }

  abbrev Idles : State → Given Outcome → Type 0
  Idles x g =
      Bears x g.node
      → Follows P w (after_idle (gave w a g.node) a g.answer)
      (line a (outcome_number g.answer) ((after_idle (gave w a g.node) a g.answer).nodes a))
      (idled x g.answer)

  pub idle_follows : Follows P w (step base P w (idles a)) (printed P w (idles a)) (idle_turn st items bytes a)
  unfolding step idle_turn idled
  idle_follows =
      let x = (on_state (idle base) (state_at st a)).state in
      let made = idle_makes (state_at st a) (w.nodes a) bears in
      at_node (idle_event base P w a) (outcome_number (idle base (w.nodes a)).answer)
      (ap (idled x) (sym made.answer))
      (subst (Idles x) (sym idle_done)
      (λ now. quiet_follows few s a h x (with_busy (w.nodes a) false) now 0 _ (λ z. omega arith) refl refl)
      made.state)

  -- ---- b a: barrier call

  -- a frame is put on the link to one node or to two
  module _ (x : State) (n : Node) (now-bears : Bears x n) (fr : List ℕ) (frame_is : Legible P fr) where
    dim : dimension P ≤ width
    dim = smallest P width (omega arith)

    -- at the place i of those lent
    put_on : (now : List Header) (then : List ℕ) (ms : List Item) (b i : ℕ) → length ms ≡ i → i < length now
        → place_size * i ≤ length then → Stand (Stands P now then) 0 ms
        → Stand (Stands P (set now i (frame_item a b (node_at st a))) (framed then i fr)) 0
        (ms ++ posted a fr (w.count a) (b ∷ []))
    put_on now then ms b i len headed lent =
        stand_put P now then (framed then i fr) ms (frame_item a b (node_at st a)) _ i len headed
        (λ j l. held_framed_before P dim then i fr j l lent) refl refl
        (ap frame (held_framed_at P then i fr lent frame_is.headed frame_is.told))

    abbrev posts : List ℕ → Board
    posts to = carries (gave w a n) (w.items ++ posted a fr (w.count a) to)

    -- room for the next item in what is lent by now
    lent_still : (now : List Header) (then : List ℕ) (i : ℕ) → length now ≡ length items
        → length then ≡ length bytes → i ≤ room_for (length items) bytes → i ≤ room_for (length now) then
    lent_still now then i e f l = omega arith

    to_one : (b : ℕ) → st.under < room_for (length items) bytes
        → Follows P w (posts (b ∷ [])) (line a 20 (put w.nodes a n a))
        (record {
          stage = changed st a x (st.under + 1);
          items = set items st.under (frame_item a b (node_at st a));
          bytes = framed bytes st.under fr;
          actor = a;
          answer = 20;
        })
    to_one b l =
        let room = roomy (st.under + 1) (length items) bytes (one_more l) in
        let now = set items st.under (frame_item a b (node_at st a)) in
        let then = framed bytes st.under fr in
        changes_follow few s a h x n now-bears (st.under + 1) 20 now then (posts (b ∷ [])) (λ z. omega arith) refl
        (length-append w.items (posted a fr (w.count a) (b ∷ [])) ∙ omega (arith, s.under))
        (lent_still now then (st.under + 1) (length-set items st.under (frame_item a b (node_at st a)))
        (length_framed bytes st.under fr (omega (arith, room.lent, frame_is.fits))) (one_more l))
        (put_on items bytes w.items b st.under s.under (omega (arith, room.headed))
        (omega (arith, room.lent)) s.stand)

    to_two : (b c : ℕ) → st.under + 1 < room_for (length items) bytes
        → Follows P w (posts (b ∷ c ∷ [])) (line a 20 (put w.nodes a n a))
        (record {
          stage = changed st a x (st.under + 2);
          items =
              set (set items st.under (frame_item a b (node_at st a))) (st.under + 1) (frame_item a c (node_at st a));
          bytes = framed (framed bytes st.under fr) (st.under + 1) fr;
          actor = a;
          answer = 20;
        })
    to_two b c l =
        let u = st.under in
        let room = roomy (u + 2) (length items) bytes (omega arith) in
        let now = set items u (frame_item a b (node_at st a)) in
        let then = framed bytes u fr in
        let headers = length-set items u (frame_item a b (node_at st a)) in
        let wide = length_framed bytes u fr (omega (arith, room.lent, frame_is.fits)) in
        let ms : List Item = w.items ++ posted a fr (w.count a) (b ∷ []) in
        let count : length ms ≡ u + 1 =
        length-append w.items (posted a fr (w.count a) (b ∷ [])) ∙ omega (arith, s.under) in
        let one =
        put_on items bytes w.items b u s.under (omega (arith, room.headed)) (omega (arith, room.lent))
        s.stand in
        let two =
        put_on now then ms c (u + 1) count (omega (arith, room.headed, headers)) (omega (arith, room.lent, wide))
        one in
        let later = set now (u + 1) (frame_item a c (node_at st a)) in
        let last = framed then (u + 1) fr in
        changes_follow few s a h x n now-bears (u + 2) 20 later last (posts (b ∷ c ∷ [])) (λ z. omega arith) refl
        (length-append w.items (posted a fr (w.count a) (b ∷ c ∷ [])) ∙ omega (arith, s.under))
        (lent_still later last (u + 2) (length-set now (u + 1) (frame_item a c (node_at st a)) ∙ headers)
        (length_framed then (u + 1) fr (omega (arith, room.lent, wide, frame_is.fits)) ∙ wide) (omega arith))
        (subst (Stand (Stands P later last) 0)
        (append_assoc w.items (posted a fr (w.count a) (b ∷ [])) (posted a fr (w.count a) (c ∷ []))) two)

    framed_follows : (to : List ℕ) → 1 ≤ length to → length to ≤ 2
        → Follows P w (posts to) (line a 20 (put w.nodes a n a)) (framed_to st items bytes a x fr to)
    framed_follows [] l m = absurd (omega arith)
    framed_follows (b ∷ []) l m =
        cases (Follows P w (posts (b ∷ [])) (line a 20 (put w.nodes a n a)))
        (ltb st.under (room_for (length items) bytes)) _ _ (λ e. to_one b (ltb-true _ _ e))
        (λ e. Follows.out refl s)
    framed_follows (b ∷ c ∷ []) l m =
        cases (Follows P w (posts (b ∷ c ∷ [])) (line a 20 (put w.nodes a n a)))
        (ltb (st.under + 1) (room_for (length items) bytes)) _ _ (λ e. to_two b c (ltb-true _ _ e))
        (λ e. Follows.out refl s)
    framed_follows (b ∷ c ∷ d ∷ to) l m = absurd (omega arith)

  -- the frame due, read off the board
  abbrev frame_of : Node → List ℕ
  frame_of n = frame_bytes (dims n) (frame_due n)

  call_way_follows : {g : Given Barrier} → CallWay base (w.nodes a) place_size g → (r : Kept Barrier)
      → Bears r.state g.node
      → Follows P w (after_call (gave w a g.node) a (w.nodes a) g.answer)
      (line a (barrier_number g.answer) ((after_call (gave w a g.node) a (w.nodes a) g.answer).nodes a))
      (called_by st items bytes a r g.answer)
  call_way_follows (CallWay.refused x z) r now = refused_follows few s a h x
  call_way_follows (CallWay.sends first rest v b t to l) r now =
      let n = w.nodes a in
      let some = ap length to in
      subst
      (λ fr.
      Follows P w (posts r.state (at n n.pass n.dim false n.agreed) now (frame_of n)
      (due_legible P n (facts.own a h).0 v l) (receivers_due n))
      (line a 20 (put w.nodes a (at n n.pass n.dim false n.agreed) a))
      (framed_to st items bytes a r.state fr (receivers_due n)))
      (ap frame_of (sym bears.node))
      (framed_follows r.state (at n n.pass n.dim false n.agreed) now (frame_of n)
      (due_legible P n (facts.own a h).0 v l) (receivers_due n) (omega arith)
      (few_receivers n.nodes n.dim n.number))
  call_way_follows (CallWay.waits v b d z y) r now =
      quiet_follows few s a h r.state _ now 21 _ (λ z. omega arith) refl refl
  call_way_follows (CallWay.next v b d y l) r now =
      quiet_follows few s a h r.state _ now 22 _ (λ z. omega arith) refl refl
  call_way_follows (CallWay.second v b d z y l p) r now =
      quiet_follows few s a h r.state _ now 22 _ (λ z. omega arith) refl refl
  call_way_follows (CallWay.leaves v b d z y l p) r now =
      quiet_follows few s a h r.state _ now 23 _ (λ z. omega arith) refl refl
  call_way_follows (CallWay.single v b d) r now =
      quiet_follows few s a h r.state _ now 23 _ (λ z. omega arith) refl refl

  pub call_follows : Follows P w (step base P w (calls a place_size)) (printed P w (calls a place_size))
      (call_turn st items bytes a)
  unfolding step call_turn
  call_follows =
      let r = step_on (state_at st a) place_size in
      let made = step_makes (state_at st a) (w.nodes a) bears place_size in
      at_node (call_event base P w a place_size) (barrier_number (barrier base (w.nodes a) place_size).answer)
      (ap (called_by st items bytes a r) (sym made.answer))
      (call_way_follows (call_way base (w.nodes a) place_size) r made.state)
