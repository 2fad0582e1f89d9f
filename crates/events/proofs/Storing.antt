-- A delivery of a frame is a step.
use mathlib.Core.Path.{◌≡◌, refl, sym, ap, ◌∙◌, subst}
use mathlib.Core.Logic.{◌⊎◌, inl, inr}
use mathlib.Core.Bool.{Bool, true, false}
use mathlib.Core.Option.{Option, some}
use mathlib.Core.List.{List, ◌++◌}
use Prim.Native.Nat.{ℕ, suc, ◌+◌, ◌-◌, ◌%◌, ◌≤◌, ◌<◌}
use native.Mathlib.Decide.{ℕ_discrete}
use native.Mathlib.Omega.{arith}
use lib.ListN.{set, length-set}
use lib.Dec.{ltb, eqb}
use borrow.Author.Tests.{ltb-true, ltb-false, eq-eqb, ne_eqb}
use Rattle.base.specs.Choice.{choose}
use Rattle.base.specs.Limits.{Limits, field_limit}
use Rattle.base.proofs.Laws.{choose_yes, choose_no, cases}
use Rattle.tree.specs.Tree.{dimension}
use Rattle.frame.specs.Frame.{fields_of}
use Rattle.frame.specs.Timing.{difference}
use Rattle.frame.specs.declared.Frame.{Frame}
use Rattle.node.specs.Sums.{dims}
use Rattle.node.specs.Change.{at, with_first, with_second}
use Rattle.node.specs.Answers.{Given, Outcome}
use Rattle.node.specs.Calls.{frame_in, step_number, first_of, second_of, stored, gotten}
use Rattle.node.specs.declared.Node.{Node}
use Rattle.events.specs.Board.{put, frame, Item, Board, delivers, gave, carries, after_frame}
use Rattle.cycle.proofs.Sums.{pick, update, update_all, update_same, update_other}
use Rattle.cycle.proofs.Lists.{All, all_mid}
use Rattle.cycle.proofs.Exact.{Entries}
use Rattle.cycle.proofs.OnePhase.{message, report, State, dim_of, at_step, with_stored, Content}
use Rattle.cycle.proofs.Ledger.{Ledger, Step, Reached}
use Rattle.cycle.proofs.Window.{Move, window_keeps, Close}
use Rattle.cycle.proofs.Events.{state_of, with_state, page_with, act_drop}
use Rattle.cycle.proofs.Events.{act_store, act_fall}
use Rattle.events.proofs.PhaseByte.{apart, apart_same, apart_late}
use Rattle.events.proofs.Setting.{Setting, tree, dim_low}
use Rattle.node.specs.Sums.{Has}
use Rattle.node.proofs.Ways.{FrameWay, frame_of as fieldsIn}
use Rattle.events.proofs.View.{field_of, view, Like}
use Rattle.events.proofs.Changes.{like_at, like_first, like_second}
use Rattle.events.proofs.Pairs.{Cut, Found}
use Rattle.events.proofs.Sim.{is_some, has_stored, seats, window_same, awaited_in, Holds, Says, Loads, Carried, Sim}
use Rattle.events.proofs.Marks.{Marks}
use Rattle.node.proofs.Valid.{step_first, step_second}
use Rattle.events.proofs.Emit.{dim_step, step_lt}
use Rattle.events.proofs.Played.{Played, Next, Mishap, lossy_same, turned_to, hold, dims_is, awaits_at_lem}
use Rattle.events.proofs.Arriving.{Arrives, place as place_of, twin as twinOf, receiver_lt, whole, nothing_before}
use Rattle.events.proofs.Arriving.{pairs, named_less, apart_less, not_ahead, off_next, refused_next}

module _ {L : Limits} {P : ℕ} {setting : Setting L P} {w : Board} (play : Played setting w) where
  abbrev p : ℕ
  p = dimension P

  abbrev ledger : Ledger
  ledger = play.ledger

  abbrev reached : Reached (tree setting) (field_limit L) play.ledger
  reached = play.reached

  abbrev sim : Sim setting w play.ledger
  sim = play.sim

  abbrev marks : Marks P w.untaken w.sends w.items play.ledger
  marks = play.marks

  module _ {a b : ℕ} {m : Item} (arrival : Arrives w a b m) where
    abbrev place : Found a b w.items m
    place = place_of play arrival

    abbrev twin : Cut (Carried setting) place.pre place.post m ledger.items
    twin = twinOf play arrival

    pub report_of : (bs : List ℕ) → m.load ≡ frame bs
        → (s : ℕ) × ((x : Entries) × ((twin.one.item.load ≡ report s x) × Says setting m.from m.phase
        (fields_of p bs) s x))
    report_of bs q =
        go twin.one.item.load refl (subst
        (λ l. Loads setting m.from m.phase l twin.one.item.load) q twin.related.load)
      where
        go : (l : Content) → twin.one.item.load ≡ l
            → Loads setting m.from m.phase (frame bs) twin.one.item.load
            → (s : ℕ) × ((x : Entries) × ((twin.one.item.load ≡ report s x) × Says setting m.from m.phase
            (fields_of p bs) s x))
        go message z h = absurd (subst (Loads setting m.from m.phase (frame bs)) z h)
        go (report s x) z h = (s, (x, (z, subst (Loads setting m.from m.phase (frame bs)) z h)))

    module _ (bs : List ℕ) (lf : m.load ≡ frame bs) (s : ℕ) (x : Entries) (ln : twin.one.item.load ≡ report s x)
        (y₀ : Says setting m.from m.phase (fields_of p bs) s x) where
      -- the fields that the receiver reads
      abbrev F : Frame
      F = fieldsIn L (w.nodes b) bs

      y : Says setting m.from m.phase F s x
      y =
          subst (λ d. Says setting m.from m.phase (fields_of d bs) s x)
          (sym (dims_is play b (receiver_lt play arrival))) y₀

      pub frame_not_behind : ledger.phase b ≤ suc m.phase
      frame_not_behind =
          (all_mid (Close ledger.phase) twin.pre twin.post
          (record { phase = m.phase; item = record { from = a; to = b; load = report s x } })
          (subst (All (Close ledger.phase)) (whole play arrival (report s x) ln) sim.win.window)).0 s refl

      pub frame_differs : difference F.phase (w.nodes b).phase ≡ apart m.phase (ledger.phase b)
      frame_differs =
          ap (λ x. (x + 256 - (w.nodes b).phase) % 256) y.phase
          ∙ ap (λ x. (m.phase % 256 + 256 - x) % 256)
          ((hold play b (receiver_lt play arrival)).phase ∙ ap (λ n. n % 256) (sim.counts b))

      s_lt : s < p + p
      s_lt = subst (λ t. t < p + p) y.step (step_lt p F.pass F.dim y.pass y.low)

      dim_s : dim_of p s ≡ F.dim
      dim_s = ap (dim_of p) (sym y.step) ∙ dim_step p F.pass F.dim y.pass y.low

      -- the frame is stored
      hold_stored : Holds setting b (w.count b) (stored (w.nodes b) F) (with_stored (state_of ledger b) s x)
      hold_stored = by y.pass
        where
          n : Node
          n = w.nodes b

          o : Holds setting b (w.count b) (w.nodes b) (state_of ledger b)
          o = hold play b (receiver_lt play arrival)

          by : (F.pass ≡ 1) ⊎ (F.pass ≡ 2)
              → Holds setting b (w.count b) (stored (w.nodes b) F) (with_stored (state_of ledger b) s x)
          by (inl q) =
              subst (λ n. Holds setting b (w.count b) n (with_stored (state_of ledger b) s x))
              (sym (choose_yes (with_first n (set n.first F.dim (first_of F)))
              (with_second n (set n.second F.dim (second_of F))) (eq-eqb F.pass 1 q)))
              (record {
                nodes = o.nodes;
                number = o.number;
                phase = o.phase;
                pass = o.pass;
                low = o.low;
                sized =
                    record {
                      sent = o.sized.sent;
                      taken = o.sized.taken;
                      first = length-set n.first F.dim _
                          ∙ o.sized.first;
                      second = o.sized.second;
                    };
                like =
                    subst (λ d. Like p (view p (with_first n (set n.first F.dim (first_of F))))
                    (with_stored (state_of ledger b) s x)) (sym (dims_is play b (receiver_lt play arrival)))
                    (subst (λ t. Like p (view p (with_first n (set n.first F.dim (first_of F))))
                    (with_stored (state_of ledger b) t x)) at_is
                    (like_first p n (state_of ledger b) (dims_is play b (receiver_lt play arrival)) o.like F.dim
                    (first_of F) x y.low (omega (arith, o.sized.first, y.low, dim_low setting)) refl
                    (λ f h. y.first q f (subst (λ t. Has p t (field_of f)) at_is h))));
              })
            where
              at_is : F.dim ≡ s
              at_is = sym (step_first p F.pass F.dim q) ∙ y.step
          by (inr q) =
              subst (λ n. Holds setting b (w.count b) n (with_stored (state_of ledger b) s x))
              (sym (choose_no (with_first n (set n.first F.dim (first_of F)))
              (with_second n (set n.second F.dim (second_of F))) (ne_eqb F.pass 1 (λ z. omega arith))))
              (record {
                nodes = o.nodes;
                number = o.number;
                phase = o.phase;
                pass = o.pass;
                low = o.low;
                sized =
                    record {
                      sent = o.sized.sent;
                      taken = o.sized.taken;
                      first = o.sized.first;
                      second = length-set n.second F.dim _ ∙ o.sized.second;
                    };
                like =
                    subst (λ t. Like p (view p (with_second n (set n.second F.dim (second_of F))))
                    (with_stored (state_of ledger b) t x)) at_is
                    (like_second p n (state_of ledger b) (dims_is play b (receiver_lt play arrival)) o.like F.dim
                    (second_of F) x y.low (omega (arith, o.sized.second, y.low, dim_low setting)) refl
                    (λ f h. y.second q f (subst (λ t. Has p t (field_of f)) at_is h)));
              })
            where
              at_is : p + F.dim ≡ s
              at_is = sym (step_second p F.pass F.dim q) ∙ y.step

      -- after a store, whatever else the position does
      stored_next : (v : State) (n : Node) → v.tallies ≡ (state_of ledger b).tallies
          → v.stored ≡ update (state_of ledger b).stored s (some x) → n.busy ≡ (w.nodes b).busy
          → m.phase ≡ ledger.phase b → (tree setting).awaited (dim_of p s) b ≡ some a
          → Step (tree setting) (field_limit L) ledger (with_state ledger b v (twin.pre ++ twin.post))
          → Holds setting b (w.count b) n v → Next setting w play (delivers a b)
          (record {
            nodes = put w.nodes b n;
            items = place.pre ++ place.post;
            count = w.count;
            busy = w.busy;
            untaken = w.untaken;
            sends = w.sends;
          })
      stored_next v n tv sv nb ph awt st ok' =
          turned_to play (delivers a b) b (receiver_lt play arrival) v n (twin.pre ++ twin.post) tv st ok'
          (place.pre ++ place.post) (pairs play arrival) (window_same
          (seats ledger b (page_with (ledger.pages (ledger.phase b)) b v) (twin.pre ++ twin.post) v refl
          (λ z nd. (t : ℕ) → is_some (nd.stored t) ≡ update (has_stored ledger) b
          (update (has_stored ledger b) s true) z t)
          (λ t. ap (λ (g : ℕ → Option Entries). is_some (g t)) sv ∙ here t (ℕ_discrete t s)
          ∙ sym (ap (λ (g : ℕ → Bool). g t)
          (update_same (has_stored ledger) b (update (has_stored ledger b) s true))))
          (λ z q t. sym (ap (λ (g : ℕ → Bool). g t)
          (update_other (has_stored ledger) b (update (has_stored ledger b) s true) z q))))
          (window_keeps (awaited_in setting)
          (Move.store twin.pre twin.post
          (record { phase = m.phase; item = record { from = a; to = b; load = report s x } }) s
          (whole play arrival (report s x) ln) (nothing_before play arrival) refl ph) sim.win))
          w.busy (nb ∙ sim.busy b (receiver_lt play arrival))
          (λ z q. refl) (named_less play arrival) (apart_less play arrival)
        where
          here : (t : ℕ) (d : Dec (t ≡ s))
              → is_some (pick {A = Option Entries} d (some x) ((state_of ledger b).stored t)) ≡ pick {A = Bool} d true
              (has_stored ledger b t)
          here t (yes d) = refl
          here t (no d) = refl

      pub frame_next : (q : Given Outcome) → frame_in L (w.nodes b) bs ≡ q → FrameWay L (w.nodes b) bs q
          → Next setting w play (delivers a b) (after_frame (gave w b q.node) a b q.answer)
      unfolding gotten
      frame_next q eq (FrameWay.refused x s) =
          refused_next play arrival x (λ z. Mishap.bad_frame a b m bs x arrival.first lf
          (ap (λ (q : Given Outcome). q.answer) eq) z)
      frame_next q eq (FrameWay.early co d) =
          refused_next play arrival 7 (λ z. Mishap.bad_frame a b m bs 7 arrival.first lf
          (ap (λ (q : Given Outcome). q.answer) eq) z)
      frame_next q eq (FrameWay.foreign co d u v) =
          refused_next play arrival 8 (λ z. Mishap.bad_frame a b m bs 8 arrival.first lf
          (ap (λ (q : Given Outcome). q.answer) eq) z)
      frame_next q eq (FrameWay.late co d) =
          subst (λ l. Next setting w play (delivers a b) (carries (gave w b (w.nodes b)) l)) (sym place.rest)
          (off_next play arrival (page_with (ledger.pages m.phase) b ((ledger.pages m.phase).nodes b))
          (act_drop reached twin.pre twin.post m.phase a b s x
          (whole play arrival (report s x) ln) (receiver_lt play arrival)
          (apart_late m.phase (ledger.phase b) (not_ahead play arrival) frame_not_behind (sym frame_differs ∙ d)))
          (update_all (λ z nd. nd ≡ (ledger.pages m.phase).nodes z) (ledger.pages m.phase).nodes b
          ((ledger.pages m.phase).nodes b) refl (λ z q. refl)) refl
          (inl (lossy_same ledger m.phase
          (page_with (ledger.pages m.phase) b ((ledger.pages m.phase).nodes b)) (twin.pre ++ twin.post) refl)))
      frame_next q eq (FrameWay.done co d) =
          subst (λ l. Next setting w play (delivers a b)
          (record {
            nodes = put w.nodes b (gotten n F);
            items = l;
            count = w.count;
            busy = w.busy;
            untaken = w.untaken;
            sends = w.sends;
          })) (sym place.rest)
          (cases (λ n. Next setting w play (delivers a b)
          (record {
            nodes = put w.nodes b n;
            items = place.pre ++ place.post;
            count = w.count;
            busy = w.busy;
            untaken = w.untaken;
            sends = w.sends;
          }))
          (ltb (step_number (dims n) F.pass F.dim) (step_number (dims n) n.pass n.dim))
          (at (stored n F) F.pass F.dim false t) (stored n F)
          (λ l. stored_next (at_step (with_stored (state_of ledger b) s x) s false t)
          (at (stored n F) F.pass F.dim false t) refl refl busy_is_lem ph aws
          (act_fall reached twin.pre twin.post m.phase a b s x
          (whole play arrival (report s x) ln) (nothing_before play arrival) ph (receiver_lt play arrival) s_lt aws t
          (omega (
            arith,
            ltb-true (step_number (dims n) F.pass F.dim)
                (step_number (dims n) n.pass n.dim) l,
            steps,
          )) t_is) (fallen hold_stored))
          (λ l. stored_next (with_stored (state_of ledger b) s x) (stored n F) refl refl busy_is_lem ph aws
          (act_store reached twin.pre twin.post m.phase a b s x
          (whole play arrival (report s x) ln) (nothing_before play arrival) ph (receiver_lt play arrival) s_lt aws
          (omega (
            arith,
            ltb-false (step_number (dims n) F.pass F.dim)
                (step_number (dims n) n.pass n.dim) l,
            steps,
          ))) hold_stored))
        where
          n : Node
          n = w.nodes b

          t : ℕ
          t = choose (eqb F.pass 1) 0 (w.nodes b).agreed

          ph : m.phase ≡ ledger.phase b
          ph = apart_same m.phase (ledger.phase b) (not_ahead play arrival) frame_not_behind (sym frame_differs ∙ d)

          aws : (tree setting).awaited (dim_of p s) b ≡ some a
          aws =
              let z = awaits_at_lem play b (receiver_lt play arrival) F.dim in
              ap (λ d. (tree setting).awaited d b) dim_s ∙ sym z ∙ co.awaits ∙ ap some (y.sender ∙ place.from_is)

          steps : (step_number (dims (w.nodes b)) F.pass F.dim ≡ s)
              × (step_number (dims (w.nodes b)) (w.nodes b).pass (w.nodes b).dim ≡ (state_of ledger b).step)
          steps = (
            ap (λ d. step_number d F.pass F.dim) (dims_is play b (receiver_lt play arrival))
                ∙ y.step,
            ap (λ d. step_number d (w.nodes b).pass (w.nodes b).dim) (dims_is play b (receiver_lt play arrival))
                ∙ (hold play b (receiver_lt play arrival)).like.step,
          )

          t_is : p ≤ s → choose (eqb F.pass 1) 0 (w.nodes b).agreed ≡ (state_of ledger b).agreed
          t_is l = by y.pass
            where
              by : (F.pass ≡ 1) ⊎ (F.pass ≡ 2)
                  → choose (eqb F.pass 1) 0 (w.nodes b).agreed ≡ (state_of ledger b).agreed
              by (inl q) = absurd (omega (arith, step_first p F.pass F.dim q, y.step, y.low))
              by (inr q) =
                  choose_no 0 (w.nodes b).agreed (ne_eqb F.pass 1 (λ z. omega arith))
                  ∙ (hold play b (receiver_lt play arrival)).like.agreed

          busy_is_lem : (stored (w.nodes b) F).busy ≡ (w.nodes b).busy
          busy_is_lem = cases (λ (n : Node). n.busy ≡ (w.nodes b).busy) (eqb F.pass 1) _ _ (λ q. refl) (λ q. refl)

          fallen : Holds setting b (w.count b) (stored (w.nodes b) F) (with_stored (state_of ledger b) s x)
              → Holds setting b (w.count b)
              (at (stored (w.nodes b) F) F.pass F.dim false (choose (eqb F.pass 1) 0 (w.nodes b).agreed))
              (at_step (with_stored (state_of ledger b) s x) s false (choose (eqb F.pass 1) 0 (w.nodes b).agreed))
          fallen o =
              record {
                nodes = o.nodes;
                number = o.number;
                phase = o.phase;
                pass = y.pass;
                low = y.low;
                sized = o.sized;
                like =
                    like_at p (stored (w.nodes b) F) (with_stored (state_of ledger b) s x) (ap dimension o.nodes)
                    o.like F.pass F.dim false (choose (eqb F.pass 1) 0 (w.nodes b).agreed) s y.step;
              }
