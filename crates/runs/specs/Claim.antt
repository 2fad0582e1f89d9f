-- The claim about every run of every board: rule P4, by its points, and rule P5.
use Rattle.std.specs.Prelude.{◌≡◌, ◌≢◌, true, false, ℕ, ◌≤◌, ◌<◌}
use Rattle.std.proofs.Math.Option.{some}
use mathlib.Core.List.{List, [], ◌∷◌, Memᴰ}
use Rattle.base.specs.Limits.{Limits}
use Rattle.base.specs.declared.Kind.{Kind}
use Rattle.base.specs.declared.Kind.TheVariants.{Job}
use Rattle.tree.specs.Tree.{dimension}
use Rattle.frame.specs.Frame.{frame_length}
use Rattle.node.specs.Answers.{done, Barrier, sent, moved, left}
use Rattle.node.specs.Calls.{send, take}
use Rattle.node.specs.Barrier.{barrier}
use Rattle.events.specs.Board.{work, Item, Board, Event, sends, idles, calls, delivers, loses, oldest, step, run}
use Rattle.events.specs.Fit.{Fit}

module _ (L : Limits) (P : ℕ) where
  -- a send of a to b would be done
  abbrev pub SendDone : Board → ℕ → ℕ → Type 0
  SendDone w a b = (send L (w.nodes a) b).answer ≡ done

  -- the event is a delivery to b whose take, of a job or a note of phase n, is done
  pub data TakeDone (w : Board) (kind : Kind) (b n : ℕ) : Event → Type 0 where
    takes : (a : ℕ) (m : Item) (byte : ℕ) → oldest a b w.items ≡ some m → m.load ≡ work kind byte → m.phase ≡ n
        → (take L (w.nodes b) kind a byte).answer ≡ done → TakeDone w kind b n (delivers a b)

  -- a barrier call of a would leave
  abbrev pub Leaves : Board → ℕ → ℕ → Type 0
  Leaves w a room = (barrier L (w.nodes a) room).answer ≡ left

  pub record Safe (w : Board) : Type 0 where
    -- 1: a send is done at busy nodes only,
    pub busy_send : (a b : ℕ) → a < P → SendDone w a b → w.busy a ≡ true
    -- and a state says busy where the history does
    pub busy_is : (a : ℕ) → a < P → (w.nodes a).busy ≡ w.busy a
    -- 2: an idle node becomes busy without leaving only by a take of a job of its own phase
    pub wakes : (e : Event) (a : ℕ) → a < P → w.busy a ≡ false → (step L P w e).busy a ≡ true
        → (step L P w e).count a ≡ w.count a → TakeDone w Job a (w.count a) e
    -- 3: a node leaves only where no job or note of its phase is untaken,
    pub leaves_taken : (a room : ℕ) → a < P → Leaves w a room → (i : ℕ) → w.untaken i ≢ some (w.count a)
    -- no node that is still in it is busy,
    pub leaves_idle : (a room : ℕ) → a < P → Leaves w a room → (b : ℕ) → b < P → w.count b ≡ w.count a
        → w.busy b ≡ false
    -- and no node has yet to reach it
    pub leaves_reached : (a room : ℕ) → a < P → Leaves w a room → (b : ℕ) → b < P → w.count a ≤ w.count b
    -- 4: once a node has left a phase, no job or note of it is sent,
    pub left_send : (a : ℕ) → a < P → (n : ℕ) → n < w.count a → (b c : ℕ) → b < P → w.count b ≡ n → SendDone w b c → ⊥
    -- and none is taken
    pub left_take : (a : ℕ) → a < P → (n : ℕ) → n < w.count a → (kind : Kind) (b : ℕ) (e : Event)
        → TakeDone w kind b n e → ⊥

  -- a barrier call sends, moves or leaves
  pub data Goes : Barrier → Type 0 where
    sending : (to : List ℕ) (length : ℕ) → Goes (sent to length)
    moving : Goes moved
    leaving : Goes left

  -- node a is in the oldest phase
  abbrev pub Oldest : Board → ℕ → Type 0
  Oldest w a = (a < P) × ((b : ℕ) → b < P → w.count a ≤ w.count b)

  -- some node of the oldest phase is busy, has an item of that phase under way to it, or would go on with a barrier
  -- call whose buffer is long enough for any frame
  pub data Lives (w : Board) : Type 0 where
    busy : (a : ℕ) → Oldest w a → w.busy a ≡ true → Lives w
    under_way : (a : ℕ) → Oldest w a → (m : Item) → Memᴰ m w.items → m.to ≡ a → m.phase ≡ w.count a → Lives w
    goes : (a : ℕ) → Oldest w a
        → ((room : ℕ) → frame_length (dimension P) 1 0 ≤ room → Goes (barrier L (w.nodes a) room).answer) → Lives w

-- a run without a loss
abbrev pub NoLoss : List Event → Type 0
NoLoss [] = Unit {0}
NoLoss (sends kind a b ∷ es) = NoLoss es
NoLoss (idles a ∷ es) = NoLoss es
NoLoss (calls a room ∷ es) = NoLoss es
NoLoss (delivers a b ∷ es) = NoLoss es
NoLoss (loses j ∷ es) = ⊥

-- FOR EVERY RUN of a board of 1 to N nodes
pub record Demand3 : Type 0 where
  pub safe : (L : Limits) → Fit L → (P : ℕ) → 1 ≤ P → P ≤ L.nodes → (es : List Event) → Safe L P (run L P es)
  pub lives : (L : Limits) → Fit L → (P : ℕ) → 1 ≤ P → P ≤ L.nodes → (es : List Event) → NoLoss es
      → Lives L P (run L P es)
