-- Every event is a step.
use mathlib.Core.Path.{◌≡◌, refl, subst}
use mathlib.Core.Logic.{inr}
use mathlib.Core.List.{List, ◌++◌}
use Prim.Native.Nat.{ℕ}
use lib.Dec.{ltb}
use borrow.Author.Tests.{ltb-true}
use Rattle.base.specs.Limits.{Limits, field_limit}
use Rattle.base.proofs.Laws.{cases}
use Rattle.tree.specs.Tree.{dimension}
use Rattle.node.specs.Calls.{send, idle}
use Rattle.node.specs.Barrier.{barrier}
use Rattle.events.specs.Board.{Item, Board, Event, sends, idles, calls}
use Rattle.events.specs.Board.{delivers, loses, oldest, less_one, carries, step}
use Rattle.cycle.proofs.Sums.{update, update_all, sum}
use Rattle.cycle.proofs.Lists.{All}
use Rattle.cycle.proofs.Exact.{taken_all}
use Rattle.cycle.proofs.Ledger.{Dated, Page, Ledger, Reached}
use Rattle.cycle.proofs.Window.{Move, window_keeps}
use Rattle.cycle.proofs.Events.{ledger_with, page_lost, act_lose}
use Rattle.events.proofs.Setting.{Setting, tree}
use Rattle.node.proofs.Ways.{send_way, idle_way, call_way}
use Rattle.events.proofs.Pairs.{Pair, pair_append, Cut, cut, Lost, lost}
use Rattle.events.proofs.Sim.{awaited_in, Carried, Sim, carried}
use Rattle.events.proofs.Marks.{Named, Apart, Marks, marks_same, less_named, less_apart, log_same}
use Rattle.events.proofs.Played.{Played, Next, Mishap, stay}
use Rattle.events.proofs.Sending.{idle_next, send_next}
use Rattle.events.proofs.Calling.{call_next}
use Rattle.events.proofs.Delivering.{oldest_next}

module _ {L : Limits} {P : ℕ} {setting : Setting L P} {w : Board} (play : Played setting w) where
  abbrev p : ℕ
  p = dimension P

  abbrev ledger : Ledger
  ledger = play.ledger

  abbrev reached : Reached (tree setting) (field_limit L) play.ledger
  reached = play.reached

  abbrev sim : Sim setting w play.ledger
  sim = play.sim

  abbrev marks : Marks P w.untaken w.sends w.items play.ledger
  marks = play.marks

  -- ---- a loss

  lose_next : (j : ℕ) (l : List Item) → Lost w.items l → Next setting w play (loses j) (carries w l)
  lose_next j l Lost.nothing = stay play (loses j)
  lose_next j l (Lost.one pre post m e) =
      record {
        played = record {
          ledger = ledger_with ledger c.one.phase u ms;
          reached = Reached.next reached
              (act_lose reached c.pre c.post c.one.phase
              c.one.item.from
              c.one.item.to c.one.item.load c.whole);
          sim =
              carried setting sim (pre ++ post) ms
              (pair_append (Carried setting) pre post c.pre c.post c.before c.after)
              (update ledger.pages c.one.phase u)
              (λ n y. update_all (λ n w. w.nodes y ≡ (ledger.pages n).nodes y) ledger.pages c.one.phase u refl
              (λ n z. refl) n)
              (window_keeps (awaited_in setting) (Move.off c.pre c.post c.one c.whole) sim.win)
              w.untaken
              w.sends;
          marks =
              marks_same P marks
              (less_named P w.untaken w.sends pre post m
              (subst (All (Named w.untaken w.sends)) e marks.named))
              (less_apart P pre post m (subst Apart e marks.apart))
              (update_all (λ n w. sum (λ y. (w.nodes y).tallies taken_all) 0 P ≡ sum
              (λ y. ((ledger.pages n).nodes y).tallies taken_all) 0 P) ledger.pages c.one.phase u refl
              (λ n z. refl))
              (log_same P ledger c.one.phase u ms refl);
        };
        calm = inr (Mishap.loss j);
      }
    where
      c : Cut (Carried setting) pre post m ledger.items
      c =
          cut (Carried setting) pre post m ledger.items
          (subst (λ l. Pair (Carried setting) l ledger.items) e sim.items)

      u : Page
      u = page_lost (ledger.pages c.one.phase)

      ms : List Dated
      ms = c.pre ++ c.post

  -- ---- every event

  pub next : (e : Event) → Next setting w play e (step L P w e)
  unfolding step
  next (sends kind a b) =
      cases (Next setting w play (sends kind a b)) (ltb a P) _ _
      (λ q. send_next play kind a b (ltb-true a P q) (send L (w.nodes a) b) (send_way L (w.nodes a) b))
      (λ q. stay play (sends kind a b))
  next (idles a) =
      cases (Next setting w play (idles a)) (ltb a P) _ _
      (λ q. idle_next play a (ltb-true a P q) (idle L (w.nodes a)) (idle_way L (w.nodes a)))
      (λ q. stay play (idles a))
  next (calls a len) =
      cases (Next setting w play (calls a len)) (ltb a P) _ _
      (λ q. call_next play a (ltb-true a P q) len (barrier L (w.nodes a) len) (call_way L (w.nodes a) len))
      (λ q. stay play (calls a len))
  next (delivers a b) = oldest_next play a b (oldest a b w.items) refl
  next (loses j) = lose_next j (less_one j w.items) (lost j w.items)
