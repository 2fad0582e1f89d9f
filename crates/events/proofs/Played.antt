-- A board that is played, and what one event more has to give.
use mathlib.Core.Path.{◌≡◌, refl, sym, ap, subst}
use mathlib.Core.Logic.{◌≢◌, ◌⊎◌, inl}
use mathlib.Core.Bool.{Bool}
use mathlib.Core.Option.{Option, some}
use mathlib.Core.List.{List}
use Prim.Native.Nat.{ℕ, ◌≤◌, ◌<◌}
use Rattle.base.specs.Limits.{Limits, field_limit}
use Rattle.base.specs.declared.Kind.{Kind}
use Rattle.tree.specs.Tree.{dimension, awaited}
use Rattle.node.specs.Sums.{dims}
use Rattle.node.specs.Answers.{refused}
use Rattle.node.specs.Calls.{take, frame_in}
use Rattle.node.specs.declared.Node.{Node}
use Rattle.events.specs.Board.{put, work, frame, Item, Board, Event, delivers, loses, oldest, gave}
use Rattle.cycle.proofs.Sums.{update_all}
use Rattle.cycle.proofs.Lists.{All}
use Rattle.cycle.proofs.Exact.{sent_all, taken_all, Entries}
use Rattle.cycle.proofs.OnePhase.{State}
use Rattle.cycle.proofs.Ledger.{Dated, Page, Ledger, Step, Reached}
use Rattle.cycle.proofs.Window.{Window}
use Rattle.cycle.proofs.Events.{state_of, ledger_with, with_state, page_with}
use Rattle.events.proofs.Setting.{Setting, tree, awaited_is}
use Rattle.events.proofs.Pairs.{Pair}
use Rattle.events.proofs.Sim.{has_stored, window_same, awaited_in, Holds, Carried, Sim, acted, stored_same, unmoved}
use Rattle.events.proofs.Marks.{Named, Apart, Marks, marks_same, takes_same, log_same}

pub lossy_same : (B : Ledger) (n : ℕ) (u : Page) (ms : List Dated) → u.lossy ≡ (B.pages n).lossy → (m : ℕ)
    → ((ledger_with B n u ms).pages m).lossy ≡ (B.pages m).lossy
lossy_same B n u ms e = update_all (λ m w. w.lossy ≡ (B.pages m).lossy) B.pages n u e (λ m z. refl)

module _ {L : Limits} {P : ℕ} (setting : Setting L P) where
  -- a board, the ledger that it is like, and that this is reached
  pub record Played (w : Board) : Type 0 where
    pub ledger : Ledger
    pub reached : Reached (tree setting) (field_limit L) ledger
    pub sim : Sim setting w ledger
    pub marks : Marks P w.untaken w.sends w.items ledger

  -- an item that goes without being taken, stored or late
  pub data Mishap (w : Board) : Event → Type 0 where
    loss : (j : ℕ) → Mishap w (loses j)
    bad_take : (a b : ℕ) (m : Item) (kind : Kind) (byte x : ℕ) → oldest a b w.items ≡ some m
        → m.load ≡ work kind byte → (take L (w.nodes b) kind a byte).answer ≡ refused x → x ≢ 7 → Mishap w (delivers a b)
    bad_frame : (a b : ℕ) (m : Item) (bs : List ℕ) (x : ℕ) → oldest a b w.items ≡ some m → m.load ≡ frame bs
        → (frame_in L (w.nodes b) bs).answer ≡ refused x → x ≢ 7 → Mishap w (delivers a b)

  pub record Next (w : Board) (play : Played w) (e : Event) (w' : Board) : Type 0 where
    pub played : Played w'
    pub calm : ((n : ℕ) → (played.ledger.pages n).lossy ≡ (play.ledger.pages n).lossy) ⊎ Mishap w e

module _ {L : Limits} {P : ℕ} {setting : Setting L P} {w : Board} (play : Played setting w) where
  abbrev p : ℕ
  p = dimension P

  abbrev ledger : Ledger
  ledger = play.ledger

  abbrev reached : Reached (tree setting) (field_limit L) play.ledger
  reached = play.reached

  abbrev sim : Sim setting w play.ledger
  sim = play.sim

  abbrev marks : Marks P w.untaken w.sends w.items play.ledger
  marks = play.marks

  pub stay : (e : Event) → Next setting w play e w
  stay e = record { played = play; calm = inl (λ n. refl) }

  pub held : (e : Event) (a : ℕ) → Next setting w play e (gave w a (w.nodes a))
  held e a =
      record {
        played = record {
          ledger = ledger;
          reached = reached;
          sim = unmoved setting sim a;
          marks = marks;
        };
        calm = inl (λ n. refl);
      }

  -- node a turns to v, with its tallies as they were
  pub turned_to : (e : Event) (a : ℕ) (h : a < P) (v : State) (n : Node) (ms : List Dated)
      → v.tallies ≡ (state_of ledger a).tallies → Step (tree setting) (field_limit L) ledger (with_state ledger a v ms)
      → Holds setting a (w.count a) n v → (is : List Item) → Pair (Carried setting) is ms
      → Window (awaited_in setting) ledger.phase (has_stored (with_state ledger a v ms)) ms
      → (bu : ℕ → Bool) → n.busy ≡ bu a → ((y : ℕ) → y ≢ a → bu y ≡ w.busy y)
      → All (Named w.untaken w.sends) is → Apart is → Next setting w play e (record
      { nodes = put w.nodes a n; items = is; count = w.count; busy = bu; untaken = w.untaken; sends = w.sends })
  turned_to e a h v n ms tv st ok is it wi bu b1 b2 na ap' =
      record {
        played = record {
          ledger = with_state ledger a v ms;
          reached = Reached.next reached st;
          sim =
              acted setting sim a h (page_with (ledger.pages (ledger.phase a)) a v) v refl n ok
              (subst (λ (t : Entries). t sent_all ≤ L.sends) (sym tv) (sim.capped (ledger.phase a) a h)) is ms it wi
              bu
              b1 b2 w.untaken w.sends;
          marks =
              marks_same P marks na ap'
              (takes_same P ledger a (page_with (ledger.pages (ledger.phase a)) a v) v ms refl
              (ap (λ (t : Entries). t taken_all) tv))
              (log_same P ledger (ledger.phase a) (page_with (ledger.pages (ledger.phase a)) a v) ms refl);
        };
        calm = inl (lossy_same ledger (ledger.phase a) (page_with (ledger.pages (ledger.phase a)) a v) ms refl);
      }

  -- the same, nothing stored, nothing sent
  pub turns_still : (e : Event) (a : ℕ) (h : a < P) (v : State) (n : Node) → v.tallies ≡ (state_of ledger a).tallies
      → v.stored ≡ (state_of ledger a).stored
      → Step (tree setting) (field_limit L) ledger (with_state ledger a v ledger.items)
      → Holds setting a (w.count a) n v → (bu : ℕ → Bool) → n.busy ≡ bu a → ((y : ℕ) → y ≢ a → bu y ≡ w.busy y)
      → Next setting w play e (record {
        nodes = put w.nodes a n;
        items = w.items;
        count = w.count;
        busy = bu;
        untaken = w.untaken;
        sends = w.sends;
      })
  turns_still e a h v n tv sv st ok bu b1 b2 =
      turned_to e a h v n ledger.items tv st ok w.items sim.items (window_same
      (stored_same setting sim a h (page_with (ledger.pages (ledger.phase a)) a v) v refl n ok
      (subst (λ (t : Entries). t sent_all ≤ L.sends) (sym tv) (sim.capped (ledger.phase a) a h)) ledger.items
      (λ s. ap (λ (g : ℕ → Option Entries). g s) sv)) sim.win)
      bu b1 b2 marks.named marks.apart

  pub hold : (a : ℕ) → a < P → Holds setting a (w.count a) (w.nodes a) (state_of ledger a)
  hold a h = sim.node a h

  pub dims_is : (a : ℕ) → a < P → dims (w.nodes a) ≡ p
  dims_is a h = ap dimension (hold a h).nodes

  pub awaits_at_lem : (a : ℕ) → a < P → (k : ℕ)
      → awaited (w.nodes a).nodes k (w.nodes a).number ≡ (tree setting).awaited k a
  awaits_at_lem a h k = rw ((hold a h).nodes, (hold a h).number) (awaited_is setting k a)
