-- The one walk of a call over the stored frames: what it holds after each frame. Dimension by dimension it reads the pass 1
-- frame, then the pass 2 frame, in the order in which they stand in the words. A frame of a step before the position is
-- added to the sums; one at the position or past it is read for the tests alone.
use Rattle.std.specs.Prelude.{◌≡◌, List, [], ◌++◌, ℕ, zero, suc, ◌+◌, min, ltb, eqb}
use Rattle.base.specs.Choice.{choose, list}
use Rattle.node.specs.Sums.{dims, first_at, second_at, Field, Has, all_sent, tally, number}
use Rattle.node.specs.declared.Stored.{Stored}
use Rattle.node.specs.declared.Confirm.{Confirm}
use Rattle.node.specs.declared.Node.{Node}
use Rattle.layout.specs.Places.{first_words, second_words, at_first, at_second}
use Rattle.layout.specs.Held.{sum_of}

-- how many steps of pass 1 are before the position: those below the node's dimension, and in pass 2 all
abbrev pub reach : Node → ℕ
reach n = choose (eqb n.pass 1) n.dim (dims n)

-- how many of pass 2: none in pass 1
abbrev pub confirm_reach : Node → ℕ
confirm_reach n = choose (eqb n.pass 1) 0 n.dim

-- ---- What it holds

-- shell sums and totals of pass 1, and the sum of total sent in pass 2
pub record Walk : Type 0 where
  pub sums : Field → ℕ
  pub issued : ℕ

-- before any frame is read: the node's own numbers
abbrev pub begun : Node → Walk
begun n = record { sums = tally n; issued = tally n all_sent }

-- what a pass 1 frame in dimension k adds to a sum: its number, where it is stored and before the position
abbrev pub first_adds : Node → ℕ → Stored → Field → ℕ
first_adds n k x f = choose (ltb k (reach n)) (choose x.present (number x f) 0) 0

-- and a pass 2 frame: its total sent
abbrev pub second_adds : Node → ℕ → Confirm → ℕ
second_adds n k y = choose (ltb k (confirm_reach n)) (choose y.present y.issued.0 0) 0

-- the pass 1 frame of dimension k is read, and the pass 2 frame
abbrev pub first_read : Node → ℕ → Walk → Walk
first_read n k w = record { sums = λ f. w.sums f + first_adds n k (first_at n k) f; issued = w.issued }

abbrev pub second_read : Node → ℕ → Walk → Walk
second_read n k w = record { sums = w.sums; issued = w.issued + second_adds n k (second_at n k) }

-- after the frames of the dimensions below k
unfoldable pub walked : Node → ℕ → Walk
walked n zero = begun n
walked n (suc k) = second_read n k (first_read n k (walked n k))

-- ---- The words

-- words lent for the sums, and a number beside them, hold the walk before dimension k: the sums of the shells that are not
-- compared yet, the totals, and the sum of pass 2
pub record Holds (n : Node) (k : ℕ) (l : List ℕ) (x : ℕ) : Type 0 where
  pub sums : (f : Field) → Has (dims n) (min k (reach n)) f → sum_of (dims n) l f ≡ (walked n k).sums f
  pub issued : x ≡ (walked n k).issued

-- the places of the words that are read on a board of p dimensions before dimension k, in the order of the reads
unfoldable pub places_read : ℕ → ℕ → List ℕ
places_read p zero = []
places_read p (suc k) =
    places_read p k ++ (list (at_first p k) (first_words p k) (λ i. i) ++ list (at_second p k) second_words (λ i. i))
