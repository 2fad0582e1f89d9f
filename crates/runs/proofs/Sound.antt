-- Every state of a board is accepted, after any run; and what is under way is not to its sender, a frame being one that
-- the reader accepts.
use mathlib.Core.Path.{◌≡◌, refl, sym, ◌∙◌, subst}
use mathlib.Core.Logic.{◌≢◌}
use mathlib.Core.Bool.{true, false}
use mathlib.Core.Option.{Option, none, some}
use mathlib.Core.List.{List, [], ◌∷◌}
use Prim.Native.Nat.{ℕ, ◌+◌, ◌≤◌, ◌<◌}
use native.Mathlib.Omega.{arith}
use lib.ListN.{length}
use lib.Dec.{ltb, eqb}
use borrow.Author.Tests.{ltb-true, ne_eqb, le-ltb}
use Rattle.base.specs.Limits.{Limits}
use Rattle.base.specs.declared.Kind.{Kind}
use Rattle.base.proofs.Laws.{cases}
use Rattle.tree.specs.Tree.{dimension, receivers}
use Rattle.frame.specs.Frame.{fields_of, frame_bytes}
use Rattle.node.specs.Sums.{dims}
use Rattle.node.specs.State.{valid}
use Rattle.node.specs.Answers.{Given, Outcome, done, dropped, refused, Barrier, sent, waits, moved, left, barred}
use Rattle.node.specs.Calls.{send, take, idle, frame_in}
use Rattle.node.specs.Barrier.{frame_due, receivers_due, barrier}
use Rattle.node.specs.declared.Node.{Node}
use Rattle.events.specs.Board.{put, Load, work, frame, Item, Board, Event, sends, idles, calls, delivers, loses}
use Rattle.events.specs.Board.{start, oldest}
use Rattle.events.specs.Board.{without, less_one, gave, after_send, after_idle, posted, after_call, off_unless_early}
use Rattle.events.specs.Board.{after_take, after_frame, delivered, delivered_oldest, step}
use Rattle.frame.proofs.RoundTripAccepted.{Read}
use Rattle.tree.specs.Lookups.{bad_board}
use Rattle.node.proofs.Ways.{SendWay, send_way, CallWay, call_way}
use Rattle.node.proofs.ValidOut.{fresh_valid, send_valid, take_valid, idle_valid, frame_valid, barrier_valid}
use Rattle.cycle.proofs.Tree.{Meet}
use Rattle.cycle.proofs.Lists.{All, all_append, all_mid}
use Rattle.cycle.proofs.Events.{state_of}
use Rattle.events.proofs.Tools.{put_all}
use Rattle.events.proofs.Setting.{Setting, tree, receivers_await}
use Rattle.events.proofs.Pairs.{found, Lost, lost}
use Rattle.events.proofs.Sim.{Holds}
use Rattle.events.proofs.Emit.{emitted_read}
use Rattle.events.proofs.Played.{Played}

abbrev pub FineLoad : Limits → ℕ → Load → Type 0
FineLoad L P (work kind byte) = Unit {0}
FineLoad L P (frame bytes) = Read L P bytes (fields_of (dimension P) bytes)

abbrev pub Fine : Limits → ℕ → Item → Type 0
Fine L P m = (m.from ≢ m.to) × FineLoad L P m.load

-- ---- what an answer does to the nodes

after_send_lem : (w : Board) (kind : Kind) (a b : ℕ) (o : Outcome) → (after_send w kind a b o).nodes ≡ w.nodes
after_send_lem w kind a b done = refl
after_send_lem w kind a b dropped = refl
after_send_lem w kind a b (refused x) = refl

after_idle_lem : (w : Board) (a : ℕ) (o : Outcome) → (after_idle w a o).nodes ≡ w.nodes
after_idle_lem w a done = refl
after_idle_lem w a dropped = refl
after_idle_lem w a (refused x) = refl

after_call_lem : (w : Board) (a : ℕ) (n : Node) (o : Barrier) → (after_call w a n o).nodes ≡ w.nodes
after_call_lem w a n (sent to length) = refl
after_call_lem w a n (waits clause) = refl
after_call_lem w a n moved = refl
after_call_lem w a n left = refl
after_call_lem w a n (barred x) = refl

off_nodes : (w : Board) (a b x : ℕ) → (off_unless_early w a b x).nodes ≡ w.nodes
off_nodes w a b x = cases (λ (v : Board). v.nodes ≡ w.nodes) (eqb x 7) _ _ (λ e. refl) (λ e. refl)

after_take_lem : (w : Board) (a b : ℕ) (m : Item) (kind : Kind) (o : Outcome) → (after_take w a b m kind o).nodes ≡ w.nodes
after_take_lem w a b m kind done = refl
after_take_lem w a b m kind dropped = refl
after_take_lem w a b m kind (refused x) = off_nodes w a b x

after_frame_lem : (w : Board) (a b : ℕ) (o : Outcome) → (after_frame w a b o).nodes ≡ w.nodes
after_frame_lem w a b done = refl
after_frame_lem w a b dropped = refl
after_frame_lem w a b (refused x) = off_nodes w a b x

module _ {L : Limits} {P : ℕ} (setting : Setting L P) where
  -- ---- every state is accepted

  abbrev pub Accepted : Board → Type 0
  Accepted w = (a : ℕ) → a < P → valid L (w.nodes a) ≡ true

  module _ (w : Board) (ok : Accepted w) where
    -- node a has the state n, and the others theirs
    given : (a : ℕ) (n : Node) (f : ℕ → Node) → f ≡ put w.nodes a n → (a < P → valid L n ≡ true) → (b : ℕ) → b < P
        → valid L (f b) ≡ true
    given a n f e h =
        subst (λ (f : ℕ → Node). (b : ℕ) → b < P → valid L (f b) ≡ true) (sym e)
        (put_all (λ b m. b < P → valid L m ≡ true) w.nodes a n h (λ b z. ok b))

    delivery : (a b : ℕ) (m : Item) (l : Load) → Accepted (delivered L P w a b m l)
    delivery a b m (work kind byte) =
        let r = take L (w.nodes b) kind a byte in
        given b r.node _ (after_take_lem (gave w b r.node) a b m kind r.answer)
        (λ h. take_valid L (w.nodes b) (ok b h) kind a byte)
    delivery a b m (frame bytes) =
        let r = frame_in L (w.nodes b) bytes in
        given b r.node _ (after_frame_lem (gave w b r.node) a b r.answer)
        (λ h. frame_valid L (w.nodes b) (ok b h) bytes)

    oldest_one : (a b : ℕ) (o : Option Item) → Accepted (delivered_oldest L P w a b o)
    oldest_one a b none = ok
    oldest_one a b (some m) = delivery a b m m.load

    pub accepted_step : (e : Event) → Accepted (step L P w e)
    unfolding step
    accepted_step (sends kind a b) =
        let r = send L (w.nodes a) b in
        cases Accepted (ltb a P) _ _
        (λ z. given a r.node _ (after_send_lem (gave w a r.node) kind a b r.answer)
        (λ h. send_valid L (w.nodes a) (ok a h) b)) (λ z. ok)
    accepted_step (idles a) =
        let r = idle L (w.nodes a) in
        cases Accepted (ltb a P) _ _
        (λ z. given a r.node _ (after_idle_lem (gave w a r.node) a r.answer)
        (λ h. idle_valid L (w.nodes a) (ok a h))) (λ z. ok)
    accepted_step (calls a room) =
        let r = barrier L (w.nodes a) room in
        cases Accepted (ltb a P) _ _ (λ z.
        given a r.node _ (after_call_lem (gave w a r.node) a (w.nodes a) r.answer)
        (λ h. barrier_valid L (w.nodes a) (ok a h) setting.fit.room room)) (λ z. ok)
    accepted_step (delivers a b) = oldest_one a b (oldest a b w.items)
    accepted_step (loses j) = ok

  pub accepted_start : Accepted (start P)
  accepted_start a h = fresh_valid L P a 0 board h
    where
      board : bad_board L P ≡ false
      board = rw (ne_eqb P 0 (λ q. omega (arith, setting.two)), le-ltb L.nodes P setting.few)

  -- ---- what is under way

  abbrev pub AllFine : Board → Type 0
  AllFine w = All (Fine L P) w.items

  -- nobody awaits itself
  not_self : (k a : ℕ) → k < dimension P → a < P → (tree setting).awaited k a ≡ some a → ⊥
  not_self k a l h e = go ((tree setting).meet k a a l h e) ((tree setting).self k a h)
    where
      go : Meet (tree setting).low (tree setting).size k a a
          → ((tree setting).low k a ≤ a) × (a < (tree setting).low k a + (tree setting).size k a) → ⊥
      go (Meet.right i j m) s = omega arith
      go (Meet.left i j m) s = omega arith

  module _ (w : Board) (play : Played setting w) (fine : AllFine w) where
    hold : (a : ℕ) → a < P → Holds setting a (w.count a) (w.nodes a) (state_of play.ledger a)
    hold a h = play.sim.node a h

    send_fine : (kind : Kind) (a b : ℕ) → a < P → (r : Given Outcome) → SendWay L (w.nodes a) b r
        → AllFine (after_send (gave w a r.node) kind a b r.answer)
    send_fine kind a b h r (SendWay.refused x s) = fine
    send_fine kind a b h r (SendWay.done v low other busy cap) =
        all_append (Fine L P) w.items _ fine (((λ z. other (sym z ∙ sym (hold a h).number)), tt), tt)

    idle_fine : (a : ℕ) (o : Outcome) (n : Node) → AllFine (after_idle (gave w a n) a o)
    idle_fine a done n = fine
    idle_fine a dropped n = fine
    idle_fine a (refused x) n = fine

    call_fine : (a room : ℕ) → a < P → (r : Given Barrier) → CallWay L (w.nodes a) room r
        → AllFine (after_call (gave w a r.node) a (w.nodes a) r.answer)
    call_fine a room h r (CallWay.refused x s) = fine
    call_fine a room h r (CallWay.sends first rest v b f e l) =
        all_append (Fine L P) w.items (posted a bytes (w.count a) (receivers_due (w.nodes a))) fine
        (new (receivers_due (w.nodes a)) awaiting)
      where
        bytes : List ℕ
        bytes = frame_bytes (dims (w.nodes a)) (frame_due (w.nodes a))

        read : Read L P bytes (fields_of (dimension P) bytes)
        read = emitted_read setting a (w.count a) (w.nodes a) (state_of play.ledger a) (hold a h) v

        to_is : receivers_due (w.nodes a) ≡ receivers P (w.nodes a).dim a
        to_is = rw ((hold a h).nodes, (hold a h).number)

        awaiting : All (λ c. (c < P) × ((tree setting).awaited (w.nodes a).dim c ≡ some a)) (receivers_due (w.nodes a))
        awaiting =
            subst (All (λ c. (c < P) × ((tree setting).awaited (w.nodes a).dim c ≡ some a))) (sym to_is)
            (receivers_await setting (w.nodes a).dim a h)

        new : (l : List ℕ) → All (λ c. (c < P) × ((tree setting).awaited (w.nodes a).dim c ≡ some a)) l
            → All (Fine L P) (posted a bytes (w.count a) l)
        new [] g = tt
        new (c ∷ l) g =
            let other : a ≢ c =
            λ z. not_self (w.nodes a).dim a (hold a h).low h
            (subst (λ c. (tree setting).awaited (w.nodes a).dim c ≡ some a) (sym z) g.0.1) in
            ((other, read), new l g.1)
    call_fine a room h r (CallWay.waits v b d z g) = fine
    call_fine a room h r (CallWay.next v b d g l) = fine
    call_fine a room h r (CallWay.second v b d z g l e) = fine
    call_fine a room h r (CallWay.leaves v b d z g l e) = fine
    call_fine a room h r (CallWay.single v b e) = fine

    -- one item less
    off_fine : (a b : ℕ) (m : Item) → oldest a b w.items ≡ some m → All (Fine L P) (without a b w.items)
    off_fine a b m e =
        let f = found a b w.items m e in
        subst (All (Fine L P)) (sym f.rest)
        (all_mid (Fine L P) f.pre f.post m (subst (All (Fine L P)) f.whole fine)).1

    module _ (a b : ℕ) (m : Item) (e : oldest a b w.items ≡ some m) (n : Node) where
      unless_early : (x : ℕ) → AllFine (off_unless_early (gave w b n) a b x)
      unless_early x = cases AllFine (eqb x 7) _ _ (λ z. fine) (λ z. off_fine a b m e)

      take_fine : (kind : Kind) (o : Outcome) → AllFine (after_take (gave w b n) a b m kind o)
      take_fine kind done = off_fine a b m e
      take_fine kind dropped = off_fine a b m e
      take_fine kind (refused x) = unless_early x

      frame_fine : (o : Outcome) → AllFine (after_frame (gave w b n) a b o)
      frame_fine done = off_fine a b m e
      frame_fine dropped = off_fine a b m e
      frame_fine (refused x) = unless_early x

    deliver_fine : (a b : ℕ) (m : Item) → oldest a b w.items ≡ some m → (l : Load)
        → AllFine (delivered L P w a b m l)
    deliver_fine a b m e (work kind byte) =
        let r = take L (w.nodes b) kind a byte in take_fine a b m e r.node kind r.answer
    deliver_fine a b m e (frame bytes) =
        let r = frame_in L (w.nodes b) bytes in frame_fine a b m e r.node r.answer

    oldest_fine : (a b : ℕ) (o : Option Item) → oldest a b w.items ≡ o → AllFine (delivered_oldest L P w a b o)
    oldest_fine a b none e = fine
    oldest_fine a b (some m) e = deliver_fine a b m e m.load

    lose_fine : (l : List Item) → Lost w.items l → All (Fine L P) l
    lose_fine l Lost.nothing = fine
    lose_fine l (Lost.one pre post m e) = (all_mid (Fine L P) pre post m (subst (All (Fine L P)) e fine)).1

    pub fine_step : (e : Event) → AllFine (step L P w e)
    unfolding step
    fine_step (sends kind a b) =
        cases AllFine (ltb a P) _ _
        (λ z. send_fine kind a b (ltb-true a P z) (send L (w.nodes a) b) (send_way L (w.nodes a) b)) (λ z. fine)
    fine_step (idles a) =
        let r = idle L (w.nodes a) in cases AllFine (ltb a P) _ _ (λ z. idle_fine a r.answer r.node) (λ z. fine)
    fine_step (calls a room) =
        cases AllFine (ltb a P) _ _
        (λ z. call_fine a room (ltb-true a P z) (barrier L (w.nodes a) room) (call_way L (w.nodes a) room))
        (λ z. fine)
    fine_step (delivers a b) = oldest_fine a b (oldest a b w.items) refl
    fine_step (loses j) = lose_fine (less_one j w.items) (lost j w.items)
