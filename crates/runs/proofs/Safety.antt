-- The first half of the claim (rule P4), for two nodes and more.
use mathlib.Core.Path.{◌≡◌, refl, sym, ap, ◌∙◌, subst}
use mathlib.Core.Logic.{◌≢◌, ◌⊎◌, inl, inr}
use mathlib.Core.Bool.{true, false}
use mathlib.Core.Option.{Option, none, some}
use mathlib.Core.List.{List, [], ◌∷◌}
use Prim.Native.Nat.{ℕ, suc, ◌+◌, ◌%◌, ◌≤◌, ◌<◌, zero-le}
use native.Mathlib.Decide.{ℕ_discrete}
use native.Mathlib.Omega.{arith}
use lib.Dec.{ltb, eqb}
use Rattle.base.specs.Limits.{Limits, field_limit}
use Rattle.base.specs.declared.Kind.TheVariants.{Job, Note}
use Rattle.base.specs.declared.Kind.{Kind}
use Rattle.base.proofs.Laws.{clash, cases}
use Rattle.tree.specs.Tree.{dimension}
use Rattle.node.specs.Change.{fresh_in}
use Rattle.node.specs.Answers.{Given, Outcome, done, refused, Barrier, left}
use Rattle.node.specs.Calls.{send, take, idle, frame_in}
use Rattle.node.specs.Barrier.{barrier}
use Rattle.node.specs.declared.Node.{Node}
use Rattle.events.specs.Board.{put, Load, work, frame, Item, Board, Event, sends, idles, calls, delivers, loses}
use Rattle.events.specs.Board.{start, oldest}
use Rattle.events.specs.Board.{without, gave, carries, after_send, after_idle, after_call, off_unless_early, after_take}
use Rattle.events.specs.Board.{after_frame, delivered, delivered_oldest, step, after, run}
use Rattle.runs.specs.Claim.{SendDone, TakeDone, Leaves, Safe}
use Rattle.cycle.proofs.Sums.{sum_zero}
use Rattle.cycle.proofs.Ledger.{Ledger, opening, Reached, Over}
use Rattle.cycle.proofs.Reached.{safe}
use Rattle.events.proofs.Tools.{put_same, put_other}
use Rattle.events.proofs.Setting.{Setting, tree, dim_low, dim_pos}
use Rattle.node.proofs.Ways.{SendWay, send_way, TakeWay, take_way, IdleWay, idle_way, FrameWay, frame_way, CallWay}
use Rattle.node.proofs.Ways.{call_way}
use Rattle.events.proofs.Changes.{like_fresh}
use Rattle.events.proofs.Sim.{Sim}
use Rattle.events.proofs.Marks.{none_left}
use Rattle.events.proofs.Arriving.{arrives}
use Rattle.events.proofs.Taking.{message_of, not_behind, same_phase}
use Rattle.events.proofs.Played.{Played, Next}
use Rattle.events.proofs.Leaving.{leave_next}
use Rattle.events.proofs.Steps.{next}

done_not_refused : {A : Type 0} (x : ℕ) → refused x ≡ done → A
done_not_refused x q = let z : ◌≡◌ {A = ℕ} 0 1 = cc in absurd (omega arith)

module _ {L : Limits} {P : ℕ} (setting : Setting L P) where
  abbrev pub p : ℕ
  p = dimension P

  pub begun : Played setting (start P)
  begun =
      record {
        ledger = opening;
        reached = Reached.first;
        sim = record {
          counts = λ y. refl;
          node =
              λ y q. record {
                nodes = refl;
                number = refl;
                phase = refl;
                pass = inl refl;
                low = dim_pos setting;
                sized = record { sent = refl; taken = refl; first = refl; second = refl };
                like = like_fresh (dimension P) P y 0 refl (dim_low setting);
              };
          busy = λ y q. refl;
          items = tt;
          win =
              record {
                order = tt;
                sent = tt;
                heard = λ c a s k q. tt;
                behind = λ c a s k q. zero-le;
                partner = tt;
                window = tt;
              };
          capped = λ n y q. zero-le;
        };
        marks = record { tidy = λ i q. refl; sums = λ n. omega (arith, sum_zero 0 P); named = tt; apart = tt };
      }

  pub begun_calm : (n : ℕ) → (begun.ledger.pages n).lossy ≡ false
  unfolding begun
  begun_calm n = refl

  one_more : (w : Board) → Played setting w → (e : Event) → Played setting (step L P w e)
  one_more w q e = (next q e).played

  played_on : (w : Board) → Played setting w → (es : List Event) → Played setting (after L P w es)
  played_on w q [] = q
  played_on w q (e ∷ es) = played_on (step L P w e) (one_more w q e) es

  pub played : (es : List Event) → Played setting (run L P es)
  played es = played_on (start P) begun es

  -- ---- each clause, of a board that is played

  module _ (w : Board) (q : Played setting w) where
    abbrev ledger : Ledger
    ledger = q.ledger

    abbrev sim : Sim setting w q.ledger
    sim = q.sim

    send_busy : (a b : ℕ) (y : Given Outcome) → SendWay L (w.nodes a) b y → y.answer ≡ done → (w.nodes a).busy ≡ true
    send_busy a b y (SendWay.refused x s) e = done_not_refused x e
    send_busy a b y (SendWay.done v b1 b2 bu cap) e = bu

    node_busy : (a b : ℕ) → SendDone L P w a b → (w.nodes a).busy ≡ true
    node_busy a b e = send_busy a b (send L (w.nodes a) b) (send_way L (w.nodes a) b) e

    -- in a phase that somebody has left, a node is idle
    left_idle : (a n b : ℕ) → a < P → n < w.count a → b < P → w.count b ≡ n → (w.nodes b).busy ≡ false
    left_idle a n b ha l hb' e =
        let o = safe q.reached a n ha (omega (arith, sim.counts a)) in
        let z : n ≡ ledger.phase b = sym e ∙ sim.counts b in
        (sim.node b hb').like.busy ∙ subst (λ n. ((ledger.pages n).nodes b).busy ≡ false) z (o.idle b hb')

    -- what an event does to busy and count of a node
    data Change (e : Event) (a : ℕ) (w' : Board) : Type 0 where
      same : w'.busy a ≡ w.busy a → Change e a w'
      rests : w'.busy a ≡ false → Change e a w'
      gone_on : w'.count a ≡ suc (w.count a) → Change e a w'
      took : TakeDone L P w Job a (w.count a) e → Change e a w'

    sent_change : (kind : Kind) (x b a : ℕ) (y : Given Outcome) → SendWay L (w.nodes x) b y
        → Change (sends kind x b) a (after_send (gave w x y.node) kind x b y.answer)
    sent_change kind x b a y (SendWay.refused n s) = same refl
    sent_change kind x b a y (SendWay.done v b1 b2 bu cap) = same refl

    rest_change : (x a : ℕ) (n : Node) → Change (idles x) a (after_idle (gave w x n) x done)
    rest_change x a n = by (ℕ_discrete a x)
      where
        by : Dec (a ≡ x) → Change (idles x) a (after_idle (gave w x n) x done)
        by (yes z) = rests (ap (put w.busy x false) z ∙ put_same w.busy x false)
        by (no z) = same (put_other w.busy x false a z)

    idle_change : (x a : ℕ) (y : Given Outcome) → IdleWay L (w.nodes x) y
        → Change (idles x) a (after_idle (gave w x y.node) x y.answer)
    idle_change x a y (IdleWay.refused n s) = same refl
    idle_change x a y (IdleWay.done v) = rest_change x a _

    leaving_change : (x len a : ℕ) (n : Node) → Change (calls x len) a (after_call (gave w x n) x (w.nodes x) left)
    leaving_change x len a n = by (ℕ_discrete a x)
      where
        by : Dec (a ≡ x) → Change (calls x len) a (after_call (gave w x n) x (w.nodes x) left)
        by (yes z) =
            gone_on (ap (put w.count x (suc (w.count x))) z ∙ put_same w.count x (suc (w.count x))
            ∙ ap (λ y. suc (w.count y)) (sym z))
        by (no z) = same (put_other w.busy x true a z)

    call_change : (x len a : ℕ) (y : Given Barrier) → CallWay L (w.nodes x) len y
        → Change (calls x len) a (after_call (gave w x y.node) x (w.nodes x) y.answer)
    call_change x len a y (CallWay.refused n s) = same refl
    call_change x len a y (CallWay.sends first rest v b fl e ro) = same refl
    call_change x len a y (CallWay.waits v b m z g) = same refl
    call_change x len a y (CallWay.next v b m g d) = same refl
    call_change x len a y (CallWay.second v b m z g d e) = same refl
    call_change x len a y (CallWay.leaves v b m z g d e) = leaving_change x len a _
    call_change x len a y (CallWay.single v b d) = leaving_change x len a _

    off_change : (x b a n : ℕ) (m : Node) → Change (delivers x b) a (off_unless_early (gave w b m) x b n)
    off_change x b a n m =
        cases (Change (delivers x b) a) (eqb n 7) (gave w b m) (carries (gave w b m) (without x b w.items))
        (λ z. same refl) (λ z. same refl)

    -- a message whose take is done is of the receiver's phase, and nobody has left that
    take_phase : (x b : ℕ) (m : Item) (kind : Kind) (byte : ℕ) (y : Given Outcome) → oldest x b w.items ≡ some m
        → m.load ≡ work kind byte → TakeWay L (w.nodes b) kind x byte y → y.answer ≡ done
        → (m.phase ≡ w.count b) × ((z : ℕ) → z < P → w.count z ≤ m.phase)
    take_phase x b m kind byte y old lw (TakeWay.refused n s) e = done_not_refused n e
    take_phase x b m kind byte y old lw (TakeWay.done v a1 a2 df cap) e =
        let j = message_of q (arrives w x b m old) kind byte lw in (
          same_phase q (arrives w x b m old) kind byte lw j.0 j.1 df ∙ sym (sim.counts b),
          λ z h. omega (arith, not_behind q (arrives w x b m old) kind byte lw j.0 j.1 z h, sim.counts z),
        )

    -- a job wakes its taker, a note nobody
    taken_change : (x b a : ℕ) (m : Item) (n : Node) (kind : Kind) → TakeDone L P w kind b (w.count b) (delivers x b)
        → Change (delivers x b) a (after_take (gave w b n) x b m kind done)
    taken_change x b a m n kind t = by kind t (ℕ_discrete a b)
      where
        by : (kind : Kind) → TakeDone L P w kind b (w.count b) (delivers x b) → Dec (a ≡ b)
            → Change (delivers x b) a (after_take (gave w b n) x b m kind done)
        by Job t (yes z) = took (subst (λ a. TakeDone L P w Job a (w.count a) (delivers x b)) (sym z) t)
        by Note t (yes z) =
            same (ap (put w.busy b (w.busy b)) z ∙ put_same w.busy b (w.busy b) ∙ ap w.busy (sym z))
        by Job t (no z) = same (put_other w.busy b true a z)
        by Note t (no z) = same (put_other w.busy b (w.busy b) a z)

    take_change : (x b a : ℕ) (m : Item) (kind : Kind) (byte : ℕ) (y : Given Outcome)
        → oldest x b w.items ≡ some m → m.load ≡ work kind byte → take L (w.nodes b) kind x byte ≡ y
        → TakeWay L (w.nodes b) kind x byte y
        → Change (delivers x b) a (after_take (gave w b y.node) x b m kind y.answer)
    take_change x b a m kind byte y old lw eq (TakeWay.refused n s) = off_change x b a n (w.nodes b)
    take_change x b a m kind byte y old lw eq (TakeWay.done v a1 a2 df ca) =
        taken_change x b a m _ kind (TakeDone.takes x m byte old lw
        (take_phase x b m kind byte (take L (w.nodes b) kind x byte) old lw (take_way L (w.nodes b) kind x byte)
        (ap (λ (y : Given Outcome). y.answer) eq)).0 (ap (λ (y : Given Outcome). y.answer) eq))

    frame_change : (x b a : ℕ) (bs : List ℕ) (y : Given Outcome) → FrameWay L (w.nodes b) bs y
        → Change (delivers x b) a (after_frame (gave w b y.node) x b y.answer)
    frame_change x b a bs y (FrameWay.refused n s) = off_change x b a n (w.nodes b)
    frame_change x b a bs y (FrameWay.early co d) = off_change x b a 7 (w.nodes b)
    frame_change x b a bs y (FrameWay.foreign co d u v) = off_change x b a 8 (w.nodes b)
    frame_change x b a bs y (FrameWay.late co d) = same refl
    frame_change x b a bs y (FrameWay.done co d) = same refl

    deliver_change : (x b a : ℕ) (o : Option Item) → oldest x b w.items ≡ o
        → Change (delivers x b) a (delivered_oldest L P w x b o)
    deliver_change x b a none e = same refl
    deliver_change x b a (some m) e = by m.load refl
      where
        by : (l : Load) → m.load ≡ l → Change (delivers x b) a (delivered L P w x b m l)
        by (work kind byte) lw =
            take_change x b a m kind byte (take L (w.nodes b) kind x byte) e lw refl (take_way L (w.nodes b) kind x byte)
        by (frame bs) lf = frame_change x b a bs (frame_in L (w.nodes b) bs) (frame_way L (w.nodes b) bs)

    change : (e : Event) (a : ℕ) → Change e a (step L P w e)
    unfolding step
    change (sends kind x b) a =
        cases (Change (sends kind x b) a) (ltb x P) _ _
        (λ z. sent_change kind x b a (send L (w.nodes x) b) (send_way L (w.nodes x) b)) (λ z. same refl)
    change (idles x) a =
        cases (Change (idles x) a) (ltb x P) _ _ (λ z. idle_change x a (idle L (w.nodes x)) (idle_way L (w.nodes x)))
        (λ z. same refl)
    change (calls x len) a =
        cases (Change (calls x len) a) (ltb x P) _ _
        (λ z. call_change x len a (barrier L (w.nodes x) len) (call_way L (w.nodes x) len)) (λ z. same refl)
    change (delivers x b) a = deliver_change x b a (oldest x b w.items) refl
    change (loses j) a = same refl

    wakes : (e : Event) (a : ℕ) → a < P → w.busy a ≡ false → (step L P w e).busy a ≡ true
        → (step L P w e).count a ≡ w.count a → TakeDone L P w Job a (w.count a) e
    wakes e a h b b' n = by (change e a)
      where
        by : Change e a (step L P w e) → TakeDone L P w Job a (w.count a) e
        by (same z) = clash (sym b' ∙ z ∙ b)
        by (rests z) = clash (sym b' ∙ z)
        by (gone_on z) = absurd (omega arith)
        by (took t) = t

    -- ---- leaving

    record Gone (a : ℕ) : Type 0 where
      taken : (j : ℕ) → w.untaken j ≢ some (w.count a)
      idle : (b : ℕ) → b < P → w.count b ≡ w.count a → w.busy b ≡ false
      reached : (b : ℕ) → b < P → w.count a ≤ w.count b

    gone : (a len : ℕ) → a < P → (y : Given Barrier) → CallWay L (w.nodes a) len y → y.answer ≡ left → Gone a
    gone a len h y (CallWay.refused x s) e = let z : ◌≡◌ {A = ℕ} 0 1 = cc in absurd (omega arith)
    gone a len h y (CallWay.sends first rest v b fl q ro) e = let z : ◌≡◌ {A = ℕ} 0 1 = cc in absurd (omega arith)
    gone a len h y (CallWay.waits v b m z g) e = let z : ◌≡◌ {A = ℕ} 0 1 = cc in absurd (omega arith)
    gone a len h y (CallWay.next v b m g d) e = let z : ◌≡◌ {A = ℕ} 0 1 = cc in absurd (omega arith)
    gone a len h y (CallWay.second v b m z g d k) e = let z : ◌≡◌ {A = ℕ} 0 1 = cc in absurd (omega arith)
    gone a len h y (CallWay.single v b d) e =
        absurd (omega (arith, ap dimension (sim.node a h).nodes, dim_pos setting))
    gone a len h y (CallWay.leaves v b m z g d k) e =
        record {
          taken = none_left P nx.played.marks
              (w.count a) o.taken;
          idle = λ x hx z. idles' x hx z (ℕ_discrete x a);
          reached = λ x hx. reach x hx (ℕ_discrete x a);
        }
      where
        two : ((w.nodes a).pass ≡ 1) ⊎ ((w.nodes a).pass ≡ 2) → (w.nodes a).pass ≡ 2
        two (inl z) = absurd (k z)
        two (inr z) = z

        n' : Node
        n' = fresh_in (w.nodes a).nodes (w.nodes a).number (((w.nodes a).phase + 1) % 256)

        nx : Next setting w q (calls a len)
            (record {
              nodes = put w.nodes a
                  (fresh_in (w.nodes a).nodes (w.nodes a).number (((w.nodes a).phase + 1) % 256));
              items = w.items;
              count = put w.count a (suc (w.count a));
              busy = put w.busy a true;
              untaken = w.untaken;
              sends = w.sends;
            })
        nx =
            leave_next q a h len b m g
            (omega (arith, ap dimension (sim.node a h).nodes, (sim.node a h).low, d))
            (two (sim.node a h).pass)

        up : nx.played.ledger.phase a ≡ suc (w.count a)
        up = sym (nx.played.sim.counts a) ∙ put_same w.count a (suc (w.count a))

        o : Over (tree setting) (field_limit L) nx.played.ledger (w.count a)
        o =
            safe nx.played.reached a (w.count a) h
            (omega (arith, up))

        stays : (x : ℕ) → x ≢ a → nx.played.ledger.phase x ≡ w.count x
        stays x z = sym (nx.played.sim.counts x) ∙ put_other w.count a (suc (w.count a)) x z

        idles' : (x : ℕ) → x < P → w.count x ≡ w.count a → Dec (x ≡ a) → w.busy x ≡ false
        idles' x hx z (yes s) = sym (sim.busy x hx) ∙ ap (λ x. (w.nodes x).busy) s ∙ b
        idles' x hx z (no s) =
            sym (sim.busy x hx) ∙ sym (ap (λ (n : Node). n.busy) (put_other w.nodes a n' x s))
            ∙ (nx.played.sim.node x hx).like.busy
            ∙ subst (λ n. ((nx.played.ledger.pages n).nodes x).busy ≡ false) (sym z ∙ sym (stays x s)) (o.idle x hx)

        reach : (x : ℕ) → x < P → Dec (x ≡ a) → w.count a ≤ w.count x
        reach x hx (yes s) = let z : w.count x ≡ w.count a = ap w.count s in omega arith
        reach x hx (no s) = omega (arith, o.reached x hx, stays x s)

    gone_at : (a len : ℕ) → a < P → Leaves L P w a len → Gone a
    gone_at a len h e = gone a len h (barrier L (w.nodes a) len) (call_way L (w.nodes a) len) e

    left_take_lem : (a : ℕ) → a < P → (n : ℕ) → n < w.count a → (kind : Kind) (b : ℕ) (e : Event)
        → TakeDone L P w kind b n e → ⊥
    left_take_lem a h n l kind b e (TakeDone.takes x m byte old lw ph d) =
        omega (
          arith,
          (take_phase x b m kind byte (take L (w.nodes b) kind x byte) old lw
              (take_way L (w.nodes b) kind x byte) d).1 a h,
        )

    is_safe : Safe L P w
    is_safe =
        record {
          busy_send = λ a b h e. sym (sim.busy a h) ∙ node_busy a b e;
          busy_is = λ a h. sim.busy a h;
          wakes = wakes;
          leaves_taken = λ a len h e. (gone_at a len h e).taken;
          leaves_idle = λ a len h e. (gone_at a len h e).idle;
          leaves_reached = λ a len h e. (gone_at a len h e).reached;
          left_send = λ a h n l b x hx e d. clash (sym (node_busy b x d) ∙ left_idle a n b h l hx e);
          left_take = left_take_lem;
        }

  -- FOR EVERY RUN, of two nodes and more
  pub every_run_safe : (es : List Event) → Safe L P (run L P es)
  every_run_safe es = is_safe (run L P es) (played es)
