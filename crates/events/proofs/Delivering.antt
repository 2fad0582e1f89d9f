-- A delivery is a step.
use mathlib.Core.Path.{◌≡◌, refl}
use mathlib.Core.Option.{Option, none, some}
use Prim.Native.Nat.{ℕ}
use Rattle.base.specs.Limits.{Limits, field_limit}
use Rattle.tree.specs.Tree.{dimension}
use Rattle.node.specs.Calls.{take, frame_in}
use Rattle.events.specs.Board.{Load, work, frame, Item, Board, delivers, oldest, delivered, delivered_oldest}
use Rattle.cycle.proofs.OnePhase.{message, report, Content}
use Rattle.cycle.proofs.Ledger.{Ledger, Reached}
use Rattle.events.proofs.Setting.{Setting, tree}
use Rattle.node.proofs.Ways.{take_way, frame_way}
use Rattle.events.proofs.Pairs.{Cut, Found}
use Rattle.events.proofs.Sim.{Loads, Carried, Sim}
use Rattle.events.proofs.Marks.{Marks}
use Rattle.events.proofs.Played.{Played, Next, stay}
use Rattle.events.proofs.Arriving.{Arrives, arrives, place as place_of, twin as twinOf}
use Rattle.events.proofs.Taking.{take_next}
use Rattle.events.proofs.Storing.{frame_next}

module _ {L : Limits} {P : ℕ} {setting : Setting L P} {w : Board} (play : Played setting w) where
  abbrev p : ℕ
  p = dimension P

  abbrev ledger : Ledger
  ledger = play.ledger

  abbrev reached : Reached (tree setting) (field_limit L) play.ledger
  reached = play.reached

  abbrev sim : Sim setting w play.ledger
  sim = play.sim

  abbrev marks : Marks P w.untaken w.sends w.items play.ledger
  marks = play.marks

  module _ {a b : ℕ} {m : Item} (arrival : Arrives w a b m) where
    abbrev place : Found a b w.items m
    place = place_of play arrival

    abbrev twin : Cut (Carried setting) place.pre place.post m ledger.items
    twin = twinOf play arrival

    deliver_next : (l : Load) (l' : Content) → m.load ≡ l → twin.one.item.load ≡ l'
        → Loads setting m.from m.phase l l' → Next setting w play (delivers a b) (delivered L P w a b m l)
    deliver_next (work kind byte) message q q' h =
        take_next play arrival kind byte q q' h (take L (w.nodes b) kind a byte) refl
        (take_way L (w.nodes b) kind a byte)
    deliver_next (work kind byte) (report s x) q q' h = absurd h
    deliver_next (frame bs) message q q' h = absurd h
    deliver_next (frame bs) (report s x) q q' h =
        frame_next play arrival bs q s x q' h (frame_in L (w.nodes b) bs) refl (frame_way L (w.nodes b) bs)

    pub delivery : Next setting w play (delivers a b) (delivered L P w a b m m.load)
    delivery = deliver_next m.load twin.one.item.load refl refl twin.related.load

  pub oldest_next : (a b : ℕ) (o : Option Item) → oldest a b w.items ≡ o
      → Next setting w play (delivers a b) (delivered_oldest L P w a b o)
  oldest_next a b none e = stay play (delivers a b)
  oldest_next a b (some m) e = delivery (arrives w a b m e)
