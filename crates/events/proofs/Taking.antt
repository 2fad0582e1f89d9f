-- A delivery of a work message is a step.
use mathlib.Core.Path.{◌≡◌, refl, sym, ap, ◌∙◌, subst}
use mathlib.Core.Logic.{◌≢◌, inl}
use mathlib.Core.Bool.{Bool, true}
use mathlib.Core.List.{List, ◌++◌}
use Prim.Native.Nat.{ℕ, ◌+◌, ◌-◌, ◌%◌, ◌≤◌, ◌<◌}
use native.Mathlib.Omega.{arith}
use lib.ListN.{length-set}
use Rattle.base.specs.Limits.{Limits, field_limit}
use Rattle.base.specs.declared.Kind.{Kind}
use Rattle.tree.specs.Tree.{dimension, distance}
use Rattle.frame.specs.Timing.{difference}
use Rattle.node.specs.Answers.{Given, Outcome, done}
use Rattle.node.specs.Calls.{wakes, counted, take}
use Rattle.node.specs.declared.Node.{Node}
use Rattle.events.specs.Board.{put, work, Item, Board, delivers, gave, carries, after_take}
use Rattle.cycle.proofs.OnePhase.{message, report, State, at_step, with_tallies, bump_taken, Content}
use Rattle.cycle.proofs.OnePhase.{Shell}
use Rattle.cycle.proofs.Ledger.{Dated, Page, Ledger, Reached}
use Rattle.cycle.proofs.Reached.{message_holds}
use Rattle.cycle.proofs.Events.{state_of, ledger_with, page_taken}
use Rattle.cycle.proofs.Events.{act_take}
use Rattle.events.proofs.Tools.{put_same, put_other}
use Rattle.events.proofs.PhaseByte.{apart_same}
use Rattle.events.proofs.Setting.{Setting, tree, dim_low, dim_pos, shell_ok_lem, shell_lt}
use Rattle.node.proofs.Ways.{TakeWay}
use Rattle.events.proofs.Changes.{like_taken}
use Rattle.events.proofs.Pairs.{Cut, Found}
use Rattle.events.proofs.Sim.{window_same, Holds, Loads, Carried, Sim}
use Rattle.events.proofs.Sim.{acted, stored_same}
use Rattle.events.proofs.Marks.{Marks, marks_take}
use Rattle.events.proofs.Played.{Played, Next, Mishap, lossy_same, hold, dims_is}
use Rattle.events.proofs.Arriving.{Arrives, place as place_of, twin as twinOf, sender_lt, receiver_lt, whole, pairs}
use Rattle.events.proofs.Arriving.{off_win, not_ahead, refused_next}

module _ {L : Limits} {P : ℕ} {setting : Setting L P} {w : Board} (play : Played setting w) where
  abbrev p : ℕ
  p = dimension P

  abbrev ledger : Ledger
  ledger = play.ledger

  abbrev reached : Reached (tree setting) (field_limit L) play.ledger
  reached = play.reached

  abbrev sim : Sim setting w play.ledger
  sim = play.sim

  abbrev marks : Marks P w.untaken w.sends w.items play.ledger
  marks = play.marks

  module _ {a b : ℕ} {m : Item} (arrival : Arrives w a b m) where
    abbrev place : Found a b w.items m
    place = place_of play arrival

    abbrev twin : Cut (Carried setting) place.pre place.post m ledger.items
    twin = twinOf play arrival

    pub message_of : (kind : Kind) (byte : ℕ) → m.load ≡ work kind byte → (twin.one.item.load ≡ message) × (byte ≡ m.phase % 256)
    message_of kind byte q =
        go twin.one.item.load refl (subst
        (λ l. Loads setting m.from m.phase l twin.one.item.load) q twin.related.load)
      where
        go : (l : Content) → twin.one.item.load ≡ l
            → Loads setting m.from m.phase (work kind byte) twin.one.item.load
            → (twin.one.item.load ≡ message) × (byte ≡ m.phase % 256)
        go message z h = (z, subst (Loads setting m.from m.phase (work kind byte)) z h)
        go (report s x) z h = absurd (subst (Loads setting m.from m.phase (work kind byte)) z h)

    module _ (kind : Kind) (byte : ℕ) (lw : m.load ≡ work kind byte) (lj : twin.one.item.load ≡ message)
        (by : byte ≡ m.phase % 256) where
      -- while it is under way nobody has left its phase
      pub not_behind : (y : ℕ) → y < P → ledger.phase y ≤ m.phase
      not_behind =
          message_holds reached twin.pre twin.post
          (record { phase = m.phase; item = record { from = a; to = b; load = message } })
          (whole play arrival message lj) refl

      pub same_phase : difference byte (w.nodes b).phase ≡ 0 → m.phase ≡ ledger.phase b
      same_phase q =
          apart_same m.phase (ledger.phase b) (not_ahead play arrival)
          (omega (arith, not_behind b (receiver_lt play arrival)))
          (ap (λ x. (x + 256 - ledger.phase b % 256) % 256) (sym by)
          ∙ ap (λ x. (byte + 256 - x) % 256)
          (sym ((hold play b (receiver_lt play arrival)).phase ∙ ap (λ n. n % 256) (sim.counts b)))
          ∙ q)

      pub take_next : (q : Given Outcome) → take L (w.nodes b) kind a byte ≡ q → TakeWay L (w.nodes b) kind a byte q
          → Next setting w play (delivers a b) (after_take (gave w b q.node) a b m kind q.answer)
      take_next q eq (TakeWay.refused x s) =
          refused_next play arrival x (λ z. Mishap.bad_take a b m kind byte x arrival.first lw
          (ap (λ (q : Given Outcome). q.answer) eq) z)
      take_next q eq (TakeWay.done va a1 a2 df cap) =
          subst (λ l. Next setting w play (delivers a b) (carries (after_take (gave w b n') a b m kind done) l))
          (sym place.rest)
          (record {
            played = record {
              ledger = ledger_with ledger (ledger.phase b) u ms;
              reached = Reached.next reached
                  (act_take reached twin.pre twin.post m.phase a b j (wakes kind (state_of ledger b).busy)
                  (whole play arrival message lj) ph (sender_lt play arrival) (receiver_lt play arrival) jp shell);
              sim =
                  acted setting sim b (receiver_lt play arrival) u v refl n' ok'
                  (sim.capped (ledger.phase b) b (receiver_lt play arrival))
                  (place.pre ++ place.post) ms (pairs play arrival) (window_same
                  (stored_same setting sim b (receiver_lt play arrival) u v refl n' ok'
                  (sim.capped (ledger.phase b) b (receiver_lt play arrival)) ms
                  (λ s. refl)) (off_win play arrival))
                  (put w.busy b busy)
                  (ap (wakes kind) (sim.busy b (receiver_lt play arrival)) ∙ sym (put_same w.busy b busy))
                  (λ y z. put_other w.busy b busy y z) _ w.sends;
              marks =
                  marks_take P w.untaken w.sends place.pre place.post m ledger
                  (subst (λ l. Marks P w.untaken w.sends l ledger) place.whole marks)
                  (kind, (byte, lw)) a b v ms (receiver_lt play arrival) ph refl;
            };
            calm = inl (lossy_same ledger (ledger.phase b) u ms refl);
          })
        where
          o : Holds setting b (w.count b) (w.nodes b) (state_of ledger b)
          o = hold play b (receiver_lt play arrival)

          j : ℕ
          j = distance (w.nodes b).nodes (w.nodes b).number a

          n' : Node
          n' = counted (w.nodes b) kind (distance (w.nodes b).nodes (w.nodes b).number a)

          busy : Bool
          busy = wakes kind (w.busy b)

          v : State
          v =
              at_step (with_tallies (state_of ledger b) (wakes kind (state_of ledger b).busy)
              (bump_taken (state_of ledger b).tallies (distance (w.nodes b).nodes (w.nodes b).number a))) 0 true 0

          u : Page
          u =
              page_taken (ledger.pages (ledger.phase b)) a b
              (at_step (with_tallies (state_of ledger b) (wakes kind (state_of ledger b).busy)
              (bump_taken (state_of ledger b).tallies (distance (w.nodes b).nodes (w.nodes b).number a))) 0 true 0)

          ms : List Dated
          ms = twin.pre ++ twin.post

          ph : m.phase ≡ ledger.phase b
          ph = same_phase df

          ne : b ≢ a
          ne z = a2 (sym z ∙ sym (hold play b (receiver_lt play arrival)).number)

          j_is : distance P b a ≡ distance (w.nodes b).nodes (w.nodes b).number a
          j_is = rw ((hold play b (receiver_lt play arrival)).nodes, (hold play b (receiver_lt play arrival)).number) refl

          shell : Shell (tree setting) b a (distance (w.nodes b).nodes (w.nodes b).number a)
          shell =
              subst (Shell (tree setting) b a) j_is
              (shell_ok_lem setting b a (receiver_lt play arrival) (sender_lt play arrival) ne)

          jp : distance (w.nodes b).nodes (w.nodes b).number a < p
          jp = omega (arith, j_is, shell_lt setting b a (receiver_lt play arrival) (sender_lt play arrival) ne)

          ok' : Holds setting b (w.count b) n' v
          ok' =
              record {
                nodes = o.nodes;
                number = o.number;
                phase = o.phase;
                pass = inl refl;
                low = dim_pos setting;
                sized =
                    record {
                      sent = o.sized.sent;
                      taken = length-set (w.nodes b).taken j _
                          ∙ o.sized.taken;
                      first = o.sized.first;
                      second = o.sized.second;
                    };
                like =
                    like_taken p (w.nodes b) (state_of ledger b) (dims_is play b (receiver_lt play arrival))
                    o.like kind j jp
                    (omega (arith, o.sized.taken, jp, dim_low setting));
              }
