-- The facts that a maker may rely on, in every run of every board.
use mathlib.Core.Path.{◌≡◌, refl, sym, ap, ◌∙◌, subst}
use mathlib.Core.Bool.{true}
use mathlib.Core.Option.{none, some}
use mathlib.Core.List.{List, [], Memᴰ}
use Prim.Native.Nat.{ℕ, suc, ◌%◌, ◌≤◌, ◌<◌}
use native.Mathlib.Decide.{dec_lt}
use native.Mathlib.Omega.{arith}
use lib.ListN.{get_or}
use Rattle.base.specs.Limits.{Limits}
use Rattle.base.specs.declared.Kind.{Kind}
use Rattle.tree.specs.Tree.{dimension}
use Rattle.frame.proofs.RoundTripAccepted.{head_phase}
use Rattle.node.specs.State.{valid}
use Rattle.events.specs.Board.{Load, work, frame, Item, Board, oldest, run}
use Rattle.runs.specs.Facts.{Facts, EveryRun}
use Rattle.cycle.proofs.Lists.{All, all_mid}
use Rattle.cycle.proofs.OnePhase.{Content, message, report}
use Rattle.cycle.proofs.Ledger.{Dated, Ledger}
use Rattle.cycle.proofs.Reached.{within_one, message_holds}
use Rattle.cycle.proofs.Window.{Sent, Close}
use Rattle.events.proofs.Setting.{Setting}
use Rattle.events.proofs.Pairs.{Cut, Placed, placed, mate}
use Rattle.events.proofs.Sim.{Loads, Carried, Sim}
use Rattle.events.proofs.Arriving.{arrives}
use Rattle.runs.proofs.Early.{take_early_lem, frame_early_lem, Standing, standing_run}
use Rattle.runs.proofs.Lone.{only_valid, Alone, lone}

-- ---- two nodes and more

module _ {L : Limits} {P : ℕ} (setting : Setting L P) (w : Board) (s : Standing setting w) where
  abbrev ledger : Ledger
  ledger = s.played.ledger

  abbrev sim : Sim setting w s.played.ledger
  sim = s.played.sim

  -- the phase byte that an item carries
  work_byte_lem : (a c : ℕ) (kind : Kind) (byte : ℕ) (l : Content) → Loads setting a c (work kind byte) l → byte ≡ c % 256
  work_byte_lem a c kind byte message h = h
  work_byte_lem a c kind byte (report s x) h = absurd h

  frame_byte_lem : (a c : ℕ) (bytes : List ℕ) (l : Content) → Loads setting a c (frame bytes) l
      → get_or bytes 1 0 ≡ c % 256
  frame_byte_lem a c bytes message h = absurd h
  frame_byte_lem a c bytes (report s x) h = sym (head_phase (dimension P) bytes) ∙ h.phase

  -- an item under way
  module _ (m : Item) (k : Memᴰ m w.items) where
    place : Placed m w.items
    place = placed m w.items k

    twin : Cut (Carried setting) place.pre place.post m ledger.items
    twin = mate (Carried setting) m w.items ledger.items place sim.items

    near : (m.to < P) × ((m.phase ≤ suc (w.count m.to)) × (w.count m.to ≤ suc m.phase))
    near = (
      twin.related.to_lt,
      (
        omega (arith, sent, within_one s.played.reached from to from_lt to_lt, twin.related.phase, count_is),
        omega (arith, not_behind twin.one.item.load refl, twin.related.phase, count_is),
      ),
    )
      where
        from : ℕ
        from = twin.one.item.from

        to : ℕ
        to = twin.one.item.to

        from_lt : from < P
        from_lt = omega (arith, twin.related.from, twin.related.from_lt)

        to_lt : to < P
        to_lt = omega (arith, twin.related.to, twin.related.to_lt)

        count_is : w.count m.to ≡ ledger.phase to
        count_is = sim.counts m.to ∙ ap ledger.phase twin.related.to

        of_all : (F : Dated → Type 0) → All F ledger.items → F twin.one
        of_all F h = (all_mid F twin.pre twin.post twin.one (subst (All F) twin.whole h)).0

        sent : twin.one.phase ≤ ledger.phase from
        sent = of_all (Sent ledger.phase) sim.win.sent

        not_behind : (l : Content) → twin.one.item.load ≡ l → ledger.phase to ≤ suc twin.one.phase
        not_behind message q =
            omega (
              arith,
              message_holds s.played.reached twin.pre twin.post twin.one twin.whole q to to_lt,
            )
        not_behind (report t x) q = of_all (Close ledger.phase) sim.win.window t (rw q refl)

    loads : (l : Load) → m.load ≡ l → Loads setting m.from m.phase l twin.one.item.load
    loads l e = subst (λ l. Loads setting m.from m.phase l twin.one.item.load) e twin.related.load

  facts : Facts L P w
  facts =
      record {
        own = λ a h. ((sim.node a h).nodes, (sim.node a h).number);
        accepted = s.accepted;
        close = λ a b h k. omega (arith, within_one s.played.reached a b h k, sim.counts a, sim.counts b);
        under_way = near;
        phase_byte = λ a h. (sim.node a h).phase;
        work_byte =
            λ m kind byte k e.
            work_byte_lem m.from m.phase kind byte (twin m k).one.item.load (loads m k (work kind byte) e);
        frame_byte =
            λ m bytes k e. frame_byte_lem m.from m.phase bytes (twin m k).one.item.load (loads m k (frame bytes) e);
        take_early =
            λ a b m kind byte x e.
            take_early_lem setting w s.played s.accepted s.fine (arrives w a b m e) kind byte x;
        frame_early =
            λ a b m bytes x e.
            frame_early_lem setting w s.played s.accepted s.fine (arrives w a b m e) bytes x;
      }

-- ---- one node

module _ (L : Limits) (one-node : 1 ≤ L.nodes) (w : Board) (i : Alone L one-node w) where
  none_oldest : {A : Type 0} (a b : ℕ) (m : Item) → oldest a b w.items ≡ some m → A
  none_oldest a b m e =
      let z : none ≡ some m = ap (oldest a b) (sym i.items) ∙ e in
      let y : ◌≡◌ {A = ℕ} 0 1 = cc in absurd (omega arith)

  none_in : {A : Type 0} (m : Item) (l : List Item) → l ≡ [] → Memᴰ m l → A
  none_in m l e (Memᴰ.head {x = x} {xs = xs} k) = let y : ◌≡◌ {A = ℕ} 0 1 = cc in absurd (omega arith)
  none_in m l e (Memᴰ.tail {x = x} {xs = xs} k) = let y : ◌≡◌ {A = ℕ} 0 1 = cc in absurd (omega arith)

  lone_facts : Facts L 1 w
  lone_facts =
      record {
        own =
            λ a h. let z : 0 ≡ a = omega arith in
            subst (λ a. ((w.nodes a).nodes ≡ 1) × ((w.nodes a).number ≡ a)) z
            (ap (λ n. n.nodes) i.node, ap (λ n. n.number) i.node);
        accepted =
            λ a h. let z : 0 ≡ a = omega arith in
            subst (λ a. valid L (w.nodes a) ≡ true) z
            (ap (valid L) i.node ∙ only_valid L one-node i.phase (w.busy 0));
        close =
            λ a b h k. let z : a ≡ b = omega arith in let y : w.count a ≡ w.count b = ap w.count z in omega arith;
        under_way = λ m k. none_in m w.items i.items k;
        phase_byte =
            λ a h. let z : 0 ≡ a = omega arith in
            subst (λ a. (w.nodes a).phase ≡ w.count a % 256) z (ap (λ n. n.phase) i.node ∙ i.byte);
        work_byte = λ m kind byte k e. none_in m w.items i.items k;
        frame_byte = λ m bytes k e. none_in m w.items i.items k;
        take_early = λ a b m kind byte x e l q. none_oldest a b m e;
        frame_early = λ a b m bytes x e l q. none_oldest a b m e;
      }

pub every_run : EveryRun
every_run L ok P one le es = go (dec_lt 1 P)
  where
    go : Dec (1 < P) → Facts L P (run L P es)
    go (yes h) =
        let setting : Setting L P = record { fit = ok; two = h; few = le } in
        facts setting (run L P es) (standing_run setting es)
    go (no h) =
        let e : 1 ≡ P = omega arith in
        subst (λ P. Facts L P (run L P es)) e
        (lone_facts L (omega arith) (run L 1 es) (lone L (omega arith) es))
