-- What the board has to do with the ledger: state by state, item by item.
use mathlib.Core.Path.{◌≡◌, refl, sym, ap, ◌∙◌, subst}
use mathlib.Core.Logic.{◌≢◌, ◌⊎◌}
use mathlib.Core.Bool.{Bool, true, false}
use mathlib.Core.Option.{Option, none, some}
use mathlib.Core.List.{List}
use Prim.Native.Nat.{ℕ, ◌+◌, ◌%◌, ◌≤◌, ◌<◌}
use native.Mathlib.Decide.{ℕ_discrete, dec_lt}
use native.Mathlib.Omega.{arith}
use Rattle.base.specs.Limits.{Limits}
use Rattle.tree.specs.Tree.{dimension}
use Rattle.frame.specs.Frame.{fields_of}
use Rattle.frame.specs.declared.Frame.{Frame}
use Rattle.node.specs.Change.{at}
use Rattle.node.specs.Calls.{step_number, first_of, second_of}
use Rattle.node.specs.declared.Node.{Node}
use Rattle.events.specs.Board.{put, Load, work, frame, Item, Board, gave}
use Rattle.cycle.proofs.Sums.{pick, update, update_all, update_same, update_other}
use Rattle.cycle.proofs.Exact.{Entry, sent_all, Entries}
use Rattle.cycle.proofs.OnePhase.{message, report, State, dim_of, Content}
use Rattle.cycle.proofs.Ledger.{Dated, Page, Ledger}
use Rattle.cycle.proofs.Window.{Window}
use Rattle.cycle.proofs.Events.{state_of, ledger_with}
use Rattle.events.proofs.Tools.{put_same, put_other, put_all}
use Rattle.events.proofs.Setting.{Setting, tree}
use Rattle.node.specs.Sums.{Has}
use Rattle.node.proofs.Sizes.{Sized}
use Rattle.events.proofs.View.{field_of, first_entries, second_entries, view, Like}
use Rattle.events.proofs.Pairs.{Pair}

abbrev pub is_some : Option Entries → Bool
is_some none = false
is_some (some x) = true

-- node c has stored a frame for step s in its phase
abbrev pub has_stored : Ledger → ℕ → ℕ → Bool
has_stored B c s = is_some ((state_of B c).stored s)

-- a fact of every state, after node a has changed in its phase
pub seats : (B : Ledger) (a : ℕ) (u : Page) (ms : List Dated) (v : State)
    → u.nodes ≡ update (B.pages (B.phase a)).nodes a v → (F : ℕ → State → Type 0) → F a v
    → ((y : ℕ) → y ≢ a → F y (state_of B y)) → (y : ℕ) → F y (state_of (ledger_with B (B.phase a) u ms) y)
seats B a u ms v e F at rest y =
    update_all (λ m w. m ≡ B.phase y → F y (w.nodes y)) B.pages (B.phase a) u
    (λ q. subst (λ (f : ℕ → State). F y (f y)) (sym e) (here q (ℕ_discrete y a)))
    (λ m q k. subst (λ m. F y ((B.pages m).nodes y)) (sym k) (rest y (λ z. q (k ∙ ap B.phase z)))) (B.phase y) refl
  where
    here : B.phase a ≡ B.phase y → Dec (y ≡ a) → F y (update (B.pages (B.phase a)).nodes a v y)
    here q (yes z) =
        subst (λ y. F y (update (B.pages (B.phase a)).nodes a v y)) (sym z)
        (subst (F a) (sym (update_same (B.pages (B.phase a)).nodes a v)) at)
    here q (no z) =
        subst (F y) (sym (update_other (B.pages (B.phase a)).nodes a v y z))
        (subst (λ m. F y ((B.pages m).nodes y)) (sym q) (rest y z))

pub window_same : {awaited_in : ℕ → ℕ → Option ℕ} {ph : ℕ → ℕ} {h g : ℕ → ℕ → Bool} {ms : List Dated}
    → ((c s : ℕ) → g c s ≡ h c s) → Window awaited_in ph h ms → Window awaited_in ph g ms
window_same e w =
    record {
      order = w.order;
      sent = w.sent;
      heard = λ c a s k q. w.heard c a s k (sym (e c s) ∙ q);
      behind = λ c a s k q. w.behind c a s k (sym (e c s) ∙ q);
      partner = w.partner;
      window = w.window;
    }

module _ {L : Limits} {P : ℕ} (setting : Setting L P) where
  abbrev pub p : ℕ
  p = dimension P

  -- the node whose frame c awaits in step s
  abbrev pub awaited_in : ℕ → ℕ → Option ℕ
  awaited_in s c = pick (dec_lt s (p + p)) ((tree setting).awaited (dim_of p s) c) none

  pub awaited_in_lem : (s c : ℕ) → s < p + p → awaited_in s c ≡ (tree setting).awaited (dim_of p s) c
  awaited_in_lem s c h = go (dec_lt s (p + p))
    where
      go : (d : Dec (s < p + p)) → pick {A = Option ℕ} d
          ((tree setting).awaited (dim_of p s) c) none ≡ (tree setting).awaited (dim_of p s) c
      go (yes d) = refl
      go (no d) = absurd (d h)

  pub awaited_below : (s c a : ℕ) → awaited_in s c ≡ some a
      → (s < p + p) × ((tree setting).awaited (dim_of p s) c ≡ some a)
  awaited_below s c a h = go (dec_lt s (p + p)) h
    where
      go : (d : Dec (s < p + p)) → pick {A = Option ℕ} d ((tree setting).awaited (dim_of p s) c) none ≡ some a
          → (s < p + p) × ((tree setting).awaited (dim_of p s) c ≡ some a)
      go (yes d) e = (d, e)
      go (no d) e = let z : ◌≡◌ {A = ℕ} 0 1 = cc in absurd (omega arith)

  -- the state n of node y, in its phase c, is like the state u of the ledger
  pub record Holds (y c : ℕ) (n : Node) (u : State) : Type 0 where
    pub nodes : n.nodes ≡ P
    pub number : n.number ≡ y
    pub phase : n.phase ≡ c % 256
    pub pass : (n.pass ≡ 1) ⊎ (n.pass ≡ 2)
    pub low : n.dim < p
    pub sized : Sized n
    pub like : Like p (view p n) u

  -- a frame of a, of phase c, says what the report of step s does
  pub record Says (a c : ℕ) (f : Frame) (s : ℕ) (x : Entries) : Type 0 where
    pub pass : (f.pass ≡ 1) ⊎ (f.pass ≡ 2)
    pub low : f.dim < p
    pub step : step_number p f.pass f.dim ≡ s
    pub phase : f.phase ≡ c % 256
    pub sender : f.sender ≡ a
    pub first : f.pass ≡ 1 → (g : Entry) → Has p s (field_of g) → first_entries (first_of f) g ≡ x g
    pub second : f.pass ≡ 2 → (g : Entry) → Has p s (field_of g) → second_entries (second_of f) g ≡ x g

  abbrev pub Loads : ℕ → ℕ → Load → Content → Type 0
  Loads a c (work kind byte) message = byte ≡ c % 256
  Loads a c (work kind byte) (report s x) = ⊥
  Loads a c (frame bs) message = ⊥
  Loads a c (frame bs) (report s x) = Says a c (fields_of p bs) s x

  -- an item of the board is the item of the ledger
  pub record Carried (m : Item) (u : Dated) : Type 0 where
    pub from : m.from ≡ u.item.from
    pub to : m.to ≡ u.item.to
    pub phase : m.phase ≡ u.phase
    pub from_lt : m.from < P
    pub to_lt : m.to < P
    pub load : Loads m.from m.phase m.load u.item.load

  -- the board is as the ledger says
  pub record Sim (w : Board) (B : Ledger) : Type 0 where
    pub counts : (y : ℕ) → w.count y ≡ B.phase y
    pub node : (y : ℕ) → y < P → Holds y (w.count y) (w.nodes y) (state_of B y)
    pub busy : (y : ℕ) → y < P → (w.nodes y).busy ≡ w.busy y
    pub items : Pair Carried w.items B.items
    pub win : Window awaited_in B.phase (has_stored B) B.items
    pub capped : (n y : ℕ) → y < P → ((B.pages n).nodes y).tallies sent_all ≤ L.sends

  -- ---- a node has changed in its phase

  module _ {w : Board} {B : Ledger} (i : Sim w B) (a : ℕ) (h : a < P) (u : Page) (v : State)
      (e : u.nodes ≡ update (B.pages (B.phase a)).nodes a v)
      (n : Node) (ok : Holds a (w.count a) n v) (cap : v.tallies sent_all ≤ L.sends) where
    pub acted : (is : List Item) (ms : List Dated) → Pair Carried is ms
        → Window awaited_in B.phase (has_stored (ledger_with B (B.phase a) u ms)) ms
        → (busy : ℕ → Bool) → n.busy ≡ busy a → ((y : ℕ) → y ≢ a → busy y ≡ w.busy y)
        → (untaken : ℕ → Option ℕ) (sends : ℕ)
        → Sim (record {
          nodes = put w.nodes a n;
          items = is;
          count = w.count;
          busy = busy;
          untaken = untaken;
          sends = sends;
        })
        (ledger_with B (B.phase a) u ms)
    acted is ms it wi busy b1 b2 untaken sends =
        record {
          counts = i.counts;
          node =
              seats B a u ms v e (λ y nd. y < P → Holds y (w.count y) (put w.nodes a n y) nd)
              (λ q. subst (λ n. Holds a (w.count a) n v) (sym (put_same w.nodes a n)) ok)
              (λ y z q. subst (λ n. Holds y (w.count y) n (state_of B y)) (sym (put_other w.nodes a n y z))
              (i.node y q));
          busy =
              put_all (λ y n. y < P → n.busy ≡ busy y) w.nodes a n (λ q. b1) (λ y z q. i.busy y q ∙ sym (b2 y z));
          items = it;
          win = wi;
          capped =
              update_all (λ m w. (y : ℕ) → y < P → (w.nodes y).tallies sent_all ≤ L.sends) B.pages (B.phase a) u
              (λ y q. subst (λ (f : ℕ → State). (f y).tallies sent_all ≤ L.sends) (sym e)
              (update_all (λ y nd. y < P → nd.tallies sent_all ≤ L.sends) (B.pages (B.phase a)).nodes a v (λ q. cap)
              (λ y z q. i.capped (B.phase a) y q) y q))
              (λ m z y q. i.capped m y q);
        }

    -- what is stored is as it was
    pub stored_same : (ms : List Dated) → ((s : ℕ) → v.stored s ≡ (state_of B a).stored s) → (c s : ℕ)
        → has_stored (ledger_with B (B.phase a) u ms) c s ≡ has_stored B c s
    stored_same ms q =
        seats B a u ms v e (λ y nd. (s : ℕ) → is_some (nd.stored s) ≡ has_stored B y s) (λ s. ap is_some (q s))
        (λ y z s. refl)

  -- a refused call gives the state back
  pub unmoved : {w : Board} {B : Ledger} → Sim w B → (a : ℕ) → Sim (gave w a (w.nodes a)) B
  unmoved {w} {B} i a =
      record {
        counts = i.counts;
        node =
            put_all (λ y n. y < P → Holds y (w.count y) n (state_of B y)) w.nodes a (w.nodes a) (λ q. i.node a q)
            (λ y z q. i.node y q);
        busy =
            put_all (λ y n. y < P → n.busy ≡ w.busy y) w.nodes a (w.nodes a) (λ q. i.busy a q)
            (λ y z q. i.busy y q);
        items = i.items;
        win = i.win;
        capped = i.capped;
      }

  -- other items and other history
  pub carried : {w : Board} {B : Ledger} → Sim w B → (is : List Item) (ms : List Dated) → Pair Carried is ms
      → (ps : ℕ → Page) → ((n y : ℕ) → (ps n).nodes y ≡ (B.pages n).nodes y)
      → Window awaited_in B.phase (has_stored B) ms → (untaken : ℕ → Option ℕ) (sends : ℕ)
      → Sim (record {
        nodes = w.nodes;
        items = is;
        count = w.count;
        busy = w.busy;
        untaken = untaken;
        sends = sends;
      })
      (record { phase = B.phase; pages = ps; items = ms })
  carried {w} {B} i is ms it ps e wi untaken sends =
      record {
        counts = i.counts;
        node = λ y q. subst (Holds y (w.count y) (w.nodes y)) (sym (e (B.phase y) y)) (i.node y q);
        busy = i.busy;
        items = it;
        win =
            window_same
            (λ c s. ap (λ (nd : State). is_some (nd.stored s)) (e (B.phase c) c)) wi;
        capped = λ n y q. subst (λ (nd : State). nd.tallies sent_all ≤ L.sends) (sym (e n y)) (i.capped n y q);
      }
