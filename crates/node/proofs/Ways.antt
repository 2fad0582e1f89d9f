-- The ways in which each call can end, and what is then known: a refusal by the first of its checks that is met, or
-- what was done, all of them passed.
use mathlib.Core.Path.{◌≡◌, refl, sym, ap, ◌∙◌}
use mathlib.Core.Logic.{◌≢◌, ◌⊎◌, inl, inr}
use mathlib.Core.Bool.{Bool, true, false, not}
use mathlib.Core.Option.{Option, none, some}
use mathlib.Core.List.{List, [], ◌∷◌, ◌++◌}
use Prim.Native.Nat.{ℕ, suc, ◌≤◌, ◌<◌}
use native.Mathlib.Omega.{arith}
use lib.Dec.{ltb, leb, eqb}
use borrow.Author.Tests.{leb-false, ltb-true, ltb-false, eqb-true, eqb-false, not-false}
use borrow.Author.Tests.{le-ltb, lt-leb, eq-eqb, ne_eqb}
use Rattle.base.specs.Choice.{choose, both}
use Rattle.base.specs.Limits.{Limits, taken_limit}
use Rattle.base.specs.Refusal.{refused as unread, found, Check, when}
use Rattle.base.specs.declared.Refusal.{Refusal}
use Rattle.base.specs.declared.Kind.{Kind}
use Rattle.base.proofs.Laws.{clash, choose_yes, choose_no, cases}
use Rattle.base.proofs.Laws.{Passes, Stops, order_passes, order_stops, order_cases, checks_known}
use Rattle.tree.specs.Tree.{awaited, distance}
use Rattle.tree.specs.Lookups.{bad_board}
use Rattle.frame.specs.Frame.{fields_of, read_checks, read_frame}
use Rattle.frame.specs.Timing.{difference, timing}
use Rattle.frame.specs.declared.Frame.{Frame}
use Rattle.frame.specs.declared.Timing.{Timing}
use Rattle.frame.specs.declared.Timing.TheVariants.{Now, Early, Late, Foreign}
use Rattle.frame.proofs.RoundTripAccepted.{Read, read_known, read_good_lem}
use Rattle.node.specs.Sums.{dims, all_sent, all_taken, tally, own}
use Rattle.node.specs.Agree.{agrees}
use Rattle.node.specs.State.{valid}
use Rattle.node.specs.Change.{with_busy, at, fresh_in, no_node}
use Rattle.node.specs.Answers.{Given, give, Outcome, Barrier}
use Rattle.node.specs.Answers.{dropped, moved, barred}
use Rattle.node.specs.Calls.{refusal, bad_state, fresh, one_sent, send, counted, is_early, is_foreign_work, take, idle}
use Rattle.node.specs.Calls.{gotten, is_awaited, by_timing, frame_in}
use Rattle.node.specs.Barrier.{length_due, receivers_due, is_empty, is_due}
use Rattle.node.specs.Barrier.{sending, leaving, waiting, looking, barrier}
use Rattle.node.specs.declared.Node.{Node}
use Rattle.node.proofs.Valid.{valid_known}

-- ---- the phase difference

-- what each timing says of the difference
pub data Differs (other node : ℕ) : Timing → Type 0 where
  now : difference other node ≡ 0 → Differs other node Now
  early : difference other node ≡ 1 → Differs other node Early
  late : difference other node ≡ 255 → Differs other node Late
  foreign : difference other node ≢ 0 → difference other node ≢ 1 → difference other node ≢ 255
      → Differs other node Foreign

pub timing_is : (other node : ℕ) → Differs other node (timing other node)
unfolding timing
timing_is other node =
    let d = difference other node in
    cases (Differs other node) (eqb d 0) _ _ (λ e. now (eqb-true d 0 e))
    (λ z. cases (Differs other node) (eqb d 1) _ _ (λ e. early (eqb-true d 1 e))
    (λ o. cases (Differs other node) (eqb d 255) _ _ (λ e. late (eqb-true d 255 e))
    (λ e. foreign (eqb-false d 0 z) (eqb-false d 1 o) (eqb-false d 255 e))))

pub timing_now : (other node : ℕ) → difference other node ≡ 0 → timing other node ≡ Now
unfolding timing
timing_now other node e = choose_yes _ _ (eq-eqb _ _ e)

pub timing_early : (other node : ℕ) → difference other node ≡ 1 → timing other node ≡ Early
timing_early other node e = go (timing_is other node)
  where
    go : {t : Timing} → Differs other node t → t ≡ Early
    go (now d) = absurd (omega arith)
    go (early d) = refl
    go (late d) = absurd (omega arith)
    go (foreign d u v) = absurd (u e)

pub timing_late : (other node : ℕ) → difference other node ≡ 255 → timing other node ≡ Late
timing_late other node e = go (timing_is other node)
  where
    go : {t : Timing} → Differs other node t → t ≡ Late
    go (now d) = absurd (omega arith)
    go (early d) = absurd (omega arith)
    go (late d) = refl
    go (foreign d u v) = absurd (v e)

-- ---- fresh

module _ (L : Limits) (P number : ℕ) where
  abbrev pub fresh_checks : List Check
  fresh_checks = when (bad_board L P) Refusal.Board ∷ when (leb P number) Refusal.Stranger ∷ []

  pub data FreshWay : Given Outcome → Type 0 where
    refused : (x : ℕ) → Stops fresh_checks x → FreshWay (refusal no_node x)
    done : bad_board L P ≡ false → number < P → FreshWay (give (fresh_in P number 0) Outcome.done)

  pub fresh_way : FreshWay (fresh L P number)
  unfolding fresh
  fresh_way =
      order_cases (refusal no_node) FreshWay fresh_checks _ (λ x s. refused x s)
      (λ c. done c.0 (leb-false P number c.1.0))

  pub fresh_refuses : {x : ℕ} → Stops fresh_checks x → fresh L P number ≡ refusal no_node x
  unfolding fresh
  fresh_refuses s = order_stops (refusal no_node) _ s

  pub fresh_does : bad_board L P ≡ false → number < P → fresh L P number ≡ give (fresh_in P number 0) Outcome.done
  unfolding fresh
  fresh_does b h = order_passes (refusal no_node) fresh_checks _ (b, (lt-leb P number h, tt))

-- ---- calls on a node

module _ (L : Limits) (n : Node) where
  -- ---- send

  abbrev pub send_checks : ℕ → List Check
  send_checks b =
      bad_state L n
      ∷ when (leb n.nodes b) Refusal.Stranger
      ∷ when (eqb b n.number) Refusal.Itself
      ∷ when (not n.busy) Refusal.Resting
      ∷ when (leb L.sends (tally n all_sent)) Refusal.SentOut
      ∷ []

  pub data SendWay (b : ℕ) : Given Outcome → Type 0 where
    refused : (x : ℕ) → Stops (send_checks b) x → SendWay b (refusal n x)
    done : valid L n ≡ true → b < n.nodes → b ≢ n.number → n.busy ≡ true → tally n all_sent < L.sends
        → SendWay b (give (one_sent n (distance n.nodes n.number b)) Outcome.done)

  pub send_way : (b : ℕ) → SendWay b (send L n b)
  unfolding send
  send_way b =
      order_cases (refusal n) (SendWay b) (send_checks b) _ (λ x s. refused x s)
      (λ c.
      done (not-false _ c.0) (leb-false _ _ c.1.0) (eqb-false _ _ c.1.1.0) (not-false _ c.1.1.1.0)
      (leb-false _ _ c.1.1.1.1.0))

  pub send_refuses : (b : ℕ) {x : ℕ} → Stops (send_checks b) x → send L n b ≡ refusal n x
  unfolding send
  send_refuses b s = order_stops (refusal n) _ s

  pub send_does : (b : ℕ) → valid L n ≡ true → b < n.nodes → b ≢ n.number → n.busy ≡ true
      → tally n all_sent < L.sends → send L n b ≡ give (one_sent n (distance n.nodes n.number b)) Outcome.done
  unfolding send
  send_does b v h o w r =
      order_passes (refusal n) (send_checks b) _
      (ap not v, (lt-leb _ _ h, (ne_eqb _ _ o, (ap not w, (lt-leb _ _ r, tt)))))

  -- ---- take

  abbrev pub take_checks : ℕ → ℕ → List Check
  take_checks a phase =
      bad_state L n
      ∷ when (leb n.nodes a) Refusal.Stranger
      ∷ when (eqb a n.number) Refusal.Itself
      ∷ when (is_early (timing phase n.phase)) Refusal.Early
      ∷ when (is_foreign_work (timing phase n.phase)) Refusal.Foreign
      ∷ when (leb (taken_limit L) (tally n all_taken)) Refusal.TakenFull
      ∷ []

  pub data TakeWay (kind : Kind) (a phase : ℕ) : Given Outcome → Type 0 where
    refused : (x : ℕ) → Stops (take_checks a phase) x → TakeWay kind a phase (refusal n x)
    done : valid L n ≡ true → a < n.nodes → a ≢ n.number → difference phase n.phase ≡ 0
        → tally n all_taken < taken_limit L
        → TakeWay kind a phase (give (counted n kind (distance n.nodes n.number a)) Outcome.done)

  -- work that is neither early nor foreign is of now
  now_work : {a b : ℕ} {t : Timing} → Differs a b t → is_early t ≡ false → is_foreign_work t ≡ false → difference a b ≡ 0
  now_work (now d) e f = d
  now_work (early d) e f = clash e
  now_work (late d) e f = clash f
  now_work (foreign d u v) e f = clash f

  pub take_way : (kind : Kind) (a phase : ℕ) → TakeWay kind a phase (take L n kind a phase)
  unfolding take
  take_way kind a phase =
      order_cases (refusal n) (TakeWay kind a phase) (take_checks a phase) _ (λ x s. refused x s)
      (λ c.
      done (not-false _ c.0) (leb-false _ _ c.1.0) (eqb-false _ _ c.1.1.0)
      (now_work (timing_is phase n.phase) c.1.1.1.0 c.1.1.1.1.0) (leb-false _ _ c.1.1.1.1.1.0))

  pub take_refuses : (kind : Kind) (a phase : ℕ) {x : ℕ} → Stops (take_checks a phase) x
      → take L n kind a phase ≡ refusal n x
  unfolding take
  take_refuses kind a phase s = order_stops (refusal n) _ s

  -- ---- idle

  abbrev pub idle_checks : List Check
  idle_checks = bad_state L n ∷ []

  pub data IdleWay : Given Outcome → Type 0 where
    refused : (x : ℕ) → Stops idle_checks x → IdleWay (refusal n x)
    done : valid L n ≡ true → IdleWay (give (with_busy n false) Outcome.done)

  pub idle_way : IdleWay (idle L n)
  unfolding idle
  idle_way = order_cases (refusal n) IdleWay idle_checks _ (λ x s. refused x s) (λ c. done (not-false _ c.0))

  pub idle_refuses : {x : ℕ} → Stops idle_checks x → idle L n ≡ refusal n x
  unfolding idle
  idle_refuses s = order_stops (refusal n) _ s

  pub idle_does : valid L n ≡ true → idle L n ≡ give (with_busy n false) Outcome.done
  unfolding idle
  idle_does v = order_passes (refusal n) idle_checks _ (ap not v, tt)

  -- ---- frame in

  -- the frame that bytes are read as
  abbrev pub frame_of : List ℕ → Frame
  frame_of bs = fields_of (dims n) bs

  abbrev pub frame_checks : List ℕ → List Check
  frame_checks bs =
      bad_state L n
      ∷ read_checks L n.nodes bs
      ++ (when (eqb (frame_of bs).sender n.number) Refusal.Itself
      ∷ when (not (is_awaited (awaited n.nodes (frame_of bs).dim n.number) (frame_of bs).sender)) Refusal.Partner
      ∷ [])

  -- all checks before the phase are passed
  pub record Comes (bs : List ℕ) : Type 0 where
    pub ok : valid L n ≡ true
    pub read : Read L n.nodes bs (frame_of bs)
    pub other : (frame_of bs).sender ≢ n.number
    pub awaits : awaited n.nodes (frame_of bs).dim n.number ≡ some (frame_of bs).sender

  -- the phase difference of the frame
  abbrev pub away : List ℕ → ℕ
  away bs = difference (frame_of bs).phase n.phase

  pub data FrameWay (bs : List ℕ) : Given Outcome → Type 0 where
    refused : (x : ℕ) → Stops (frame_checks bs) x → FrameWay bs (refusal n x)
    early : Comes bs → away bs ≡ 1 → FrameWay bs (refusal n 7)
    foreign : Comes bs → away bs ≢ 0 → away bs ≢ 1 → away bs ≢ 255 → FrameWay bs (refusal n 8)
    late : Comes bs → away bs ≡ 255 → FrameWay bs (give n dropped)
    done : Comes bs → away bs ≡ 0 → FrameWay bs (give (gotten n (frame_of bs)) Outcome.done)

  is_awaited_lem : (o : Option ℕ) (a : ℕ) → is_awaited o a ≡ true → o ≡ some a
  is_awaited_lem none a e = clash (sym e)
  is_awaited_lem (some w) a e = ap some (eqb-true w a e)

  -- the checks of the reader, which is given P
  read_all : List ℕ → List Check
  read_all bs = when (bad_board L n.nodes) Refusal.Board ∷ read_checks L n.nodes bs

  comes : (bs : List ℕ) → Passes (frame_checks bs) → Comes bs
  unfolding read_frame read_all
  comes bs c =
      let v = not-false (valid L n) c.0 in
      let r = c.1 in
      let s = r.1.1.1.1.1 in
      record {
        ok = v;
        read =
            read_known L n.nodes bs (frame_of bs)
            (order_passes unread (read_all bs) (found (frame_of bs))
            ((valid_known L n v).board, (r.0, (r.1.0, (r.1.1.0, (r.1.1.1.0, (r.1.1.1.1.0, tt)))))));
        other = eqb-false _ _ s.0;
        awaits = is_awaited_lem _ _ (not-false _ s.1.0);
      }

  by_phase : (bs : List ℕ) → Comes bs → {t : Timing} → Differs (frame_of bs).phase n.phase t
      → FrameWay bs (by_timing n (frame_of bs) t)
  by_phase bs c (Differs.now d) = done c d
  by_phase bs c (Differs.early d) = early c d
  by_phase bs c (Differs.late d) = late c d
  by_phase bs c (Differs.foreign d u v) = foreign c d u v

  pub frame_way : (bs : List ℕ) → FrameWay bs (frame_in L n bs)
  unfolding frame_in
  frame_way bs =
      order_cases (refusal n) (FrameWay bs) (frame_checks bs) _ (λ x s. refused x s)
      (λ c. by_phase bs (comes bs c) (timing_is (frame_of bs).phase n.phase))

  pub frame_refuses : (bs : List ℕ) {x : ℕ} → Stops (frame_checks bs) x → frame_in L n bs ≡ refusal n x
  unfolding frame_in
  frame_refuses bs s = order_stops (refusal n) _ s

  pub frame_comes : (bs : List ℕ) → Comes bs
      → frame_in L n bs ≡ by_timing n (frame_of bs) (timing (frame_of bs).phase n.phase)
  unfolding frame_in read_frame read_all
  frame_comes bs c =
      let f = frame_of bs in
      let e = read_good_lem L n.nodes bs c.read.accepted c.read.count in
      let r = (checks_known (read_all bs) f f e).0.1 in
      let awaits = ap (λ o. not (is_awaited o f.sender)) c.awaits ∙ ap not (eq-eqb f.sender _ refl) in
      order_passes (refusal n) (frame_checks bs) _ (
        ap not c.ok,
        (r.0, (r.1.0, (r.1.1.0, (r.1.1.1.0, (r.1.1.1.1.0, (ne_eqb _ _ c.other, (awaits, tt))))))),
      )

  pub frame_does : (bs : List ℕ) → Comes bs → away bs ≡ 0
      → frame_in L n bs ≡ give (gotten n (frame_of bs)) Outcome.done
  frame_does bs c d =
      frame_comes bs c ∙ ap (by_timing n (frame_of bs)) (timing_now (frame_of bs).phase n.phase d)

  -- ---- the barrier call

  abbrev pub call_checks : ℕ → List Check
  call_checks room =
      bad_state L n
      ∷ when n.busy Refusal.Working
      ∷ when (both (is_due n) (ltb room (length_due n))) Refusal.Buffer
      ∷ []

  -- no frame is due: flag 0, or nobody to send to
  abbrev pub NoneDue : Type 0
  NoneDue = (n.flag ≡ false) ⊎ (receivers_due n ≡ [])

  pub data CallWay (room : ℕ) : Given Barrier → Type 0 where
    refused : (x : ℕ) → Stops (call_checks room) x → CallWay room (give n (barred x))
    -- the frame for the position goes out
    sends : (first : ℕ) (rest : List ℕ) → valid L n ≡ true → n.busy ≡ false → n.flag ≡ true
        → receivers_due n ≡ first ∷ rest → length_due n ≤ room → CallWay room (sending n)
    -- the step doesn't agree
    waits : valid L n ≡ true → n.busy ≡ false → NoneDue → dims n ≢ 0 → agrees L n n.pass n.dim ≡ false
        → CallWay room (waiting L n)
    -- on to the next dimension of the pass
    next : valid L n ≡ true → n.busy ≡ false → NoneDue → agrees L n n.pass n.dim ≡ true → suc n.dim < dims n
        → CallWay room (give (at n n.pass (suc n.dim) true n.agreed) moved)
    -- on to pass 2
    second : valid L n ≡ true → n.busy ≡ false → NoneDue → dims n ≢ 0 → agrees L n n.pass n.dim ≡ true
        → dims n ≤ suc n.dim → n.pass ≡ 1 → CallWay room (give (at n 2 0 true (own n (dims n) all_taken)) moved)
    -- out of the phase
    leaves : valid L n ≡ true → n.busy ≡ false → NoneDue → dims n ≢ 0 → agrees L n n.pass n.dim ≡ true
        → dims n ≤ suc n.dim → n.pass ≢ 1 → CallWay room (leaving n)
    -- out of the phase on a board of one node
    single : valid L n ≡ true → n.busy ≡ false → dims n ≡ 0 → CallWay room (leaving n)

  -- whether a frame is due
  data Due : Bool → Type 0 where
    due : (first : ℕ) (rest : List ℕ) → n.flag ≡ true → receivers_due n ≡ first ∷ rest → Due true
    nobody : NoneDue → Due false

  due_is : Due (is_due n)
  due_is = go n.flag refl (receivers_due n) refl
    where
      go : (t : Bool) → n.flag ≡ t → (to : List ℕ) → receivers_due n ≡ to → Due (both t (not (is_empty to)))
      go true f [] e = nobody (inr e)
      go true f (a ∷ to) e = due a to f e
      go false f to e = nobody (inl f)

  module _ (room : ℕ) (v : valid L n ≡ true) (b : n.busy ≡ false) where
    looks : NoneDue → CallWay room (looking L n)
    looks d =
        cases (CallWay room) (eqb (dims n) 0) _ _ (λ e. single v b (eqb-true _ _ e))
        (λ z.
        let some : dims n ≢ 0 = eqb-false _ _ z in
        cases (CallWay room) (agrees L n n.pass n.dim) _ _
        (λ g.
        cases (CallWay room) (ltb (suc n.dim) (dims n)) _ _ (λ e. next v b d g (ltb-true _ _ e))
        (λ e.
        cases (CallWay room) (eqb n.pass 1) _ _ (λ f. second v b d some g (ltb-false _ _ e) (eqb-true _ _ f))
        (λ f. leaves v b d some g (ltb-false _ _ e) (eqb-false _ _ f))))
        (λ g. waits v b d some g))

    goes : {t : Bool} → Due t → both t (ltb room (length_due n)) ≡ false
        → CallWay room (choose t (sending n) (looking L n))
    goes (due a to f e) r = sends a to v b f e (ltb-false _ _ r)
    goes (nobody d) r = looks d

  pub call_way : (room : ℕ) → CallWay room (barrier L n room)
  unfolding barrier
  call_way room =
      order_cases (λ x. give n (barred x)) (CallWay room) (call_checks room) _ (λ x s. refused x s)
      (λ c. goes room (not-false _ c.0) c.1.0 due_is c.1.1.0)

  pub call_refuses : (room : ℕ) {x : ℕ} → Stops (call_checks room) x → barrier L n room ≡ give n (barred x)
  unfolding barrier
  call_refuses room s = order_stops (λ x. give n (barred x)) _ s

  pub call_sends_lem : (room first : ℕ) (rest : List ℕ) → valid L n ≡ true → n.busy ≡ false → n.flag ≡ true
      → receivers_due n ≡ first ∷ rest → length_due n ≤ room → barrier L n room ≡ sending n
  unfolding barrier
  call_sends_lem room first rest v b f e l =
      let d : is_due n ≡ true = rw (f, e) in
      order_passes (λ x. give n (barred x)) (call_checks room) _ (ap not v, (b, (rw d (le-ltb _ _ l), tt)))
      ∙ choose_yes _ _ d

  pub call_looks : (room : ℕ) → valid L n ≡ true → n.busy ≡ false → NoneDue → barrier L n room ≡ looking L n
  unfolding barrier
  call_looks room v b d = go (none_due d)
    where
      none_due : NoneDue → is_due n ≡ false
      none_due (inl f) = rw f
      none_due (inr e) = go n.flag
        where
          go : (t : Bool) → both t (not (is_empty (receivers_due n))) ≡ false
          go true = rw e
          go false = refl

      go : is_due n ≡ false → barrier L n room ≡ looking L n
      go e =
          order_passes (λ x. give n (barred x)) (call_checks room) _ (ap not v, (b, (rw e, tt))) ∙ choose_no _ _ e
