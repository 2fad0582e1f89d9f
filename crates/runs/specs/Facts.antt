-- What a maker may rely on in every run, with losses or without, besides the claim (rule P6).
use Rattle.std.specs.Prelude.{◌≡◌, true, ℕ, suc, ◌%◌, ◌≤◌, ◌<◌, get_or}
use Rattle.std.proofs.Math.Option.{some}
use mathlib.Core.List.{List, Memᴰ}
use Rattle.base.specs.Limits.{Limits}
use Rattle.base.specs.declared.Kind.{Kind}
use Rattle.node.specs.State.{valid}
use Rattle.node.specs.Answers.{refused}
use Rattle.node.specs.Calls.{take, frame_in}
use Rattle.events.specs.Board.{work, frame, Item, Board, Event, oldest, run}
use Rattle.events.specs.Fit.{Fit}

module _ (L : Limits) (P : ℕ) where
  pub record Facts (w : Board) : Type 0 where
    -- a node's state names the board's size and its own number
    pub own : (a : ℕ) → a < P → ((w.nodes a).nodes ≡ P) × ((w.nodes a).number ≡ a)
    -- every node's state passes the test, so no call on it is refused with 13
    pub accepted : (a : ℕ) → a < P → valid L (w.nodes a) ≡ true
    -- the phases of two nodes differ by at most one
    pub close : (a b : ℕ) → a < P → b < P → w.count a ≤ suc (w.count b)
    -- an item under way goes to a node of the board, and is at most one phase away from it
    pub under_way : (m : Item) → Memᴰ m w.items
        → (m.to < P) × ((m.phase ≤ suc (w.count m.to)) × (w.count m.to ≤ suc m.phase))
    -- the phase byte of a node, of a work message under way and of a frame under way is the low byte of the phase
    pub phase_byte : (a : ℕ) → a < P → (w.nodes a).phase ≡ w.count a % 256
    pub work_byte : (m : Item) (kind : Kind) (byte : ℕ) → Memᴰ m w.items → m.load ≡ work kind byte
        → byte ≡ m.phase % 256
    pub frame_byte : (m : Item) (bytes : List ℕ) → Memᴰ m w.items → m.load ≡ frame bytes
        → get_or bytes 1 0 ≡ m.phase % 256
    -- a delivered job or note is refused for being early (7) or not at all: never with 2, 3, 6, 8 or 13
    pub take_early : (a b : ℕ) (m : Item) (kind : Kind) (byte x : ℕ) → oldest a b w.items ≡ some m
        → m.load ≡ work kind byte → (take L (w.nodes b) kind a byte).answer ≡ refused x → x ≡ 7
    -- so is a delivered frame: never with 2, 3, 8, 9, 10, 11 or 13
    pub frame_early : (a b : ℕ) (m : Item) (bytes : List ℕ) (x : ℕ) → oldest a b w.items ≡ some m
        → m.load ≡ frame bytes → (frame_in L (w.nodes b) bytes).answer ≡ refused x → x ≡ 7

-- FOR EVERY RUN of a board of 1 to N nodes
abbrev pub EveryRun : Type 0
EveryRun =
    (L : Limits) → Fit L → (P : ℕ) → 1 ≤ P → P ≤ L.nodes → (es : List Event) → Facts L P (run L P es)
