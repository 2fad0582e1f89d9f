-- What is shown of the walk: it holds the numbers of the node and of exactly the frames that it has read, each once.
use Rattle.std.specs.Prelude.{◌≡◌, true, ℕ, ◌+◌, ◌-◌, ◌<◌, min, length, set}
use Rattle.base.specs.Choice.{both, every, list}
use Rattle.base.specs.Limits.{Limits}
use Rattle.node.specs.Sums.{dims, first_at, second_at, Field, all_sent, tally, total, own, own_issued}
use Rattle.node.specs.Agree.{agrees}
use Rattle.node.specs.State.{position_ok, passed_ok}
use Rattle.node.specs.Change.{with_first, with_second}
use Rattle.node.specs.declared.Stored.{Stored}
use Rattle.node.specs.declared.Confirm.{Confirm}
use Rattle.node.specs.declared.Node.{Node}
use Rattle.layout.specs.Places.{at_first}
use Rattle.walked.specs.Walk.{reach, confirm_reach, first_adds, second_adds, walked, places_read}

-- another frame in the place of one
abbrev pub first_put : Node → ℕ → Stored → Node
first_put n j x = with_first n (set n.first j x)

abbrev pub second_put : Node → ℕ → Confirm → Node
second_put n j y = with_second n (set n.second j y)

-- two nodes have the same tallies, the same steps before the position and the same frames below dimension k
pub record Alike (n m : Node) (k : ℕ) : Type 0 where
  pub tallies : (f : Field) → tally m f ≡ tally n f
  pub firsts : reach m ≡ reach n
  pub seconds : confirm_reach m ≡ confirm_reach n
  pub first : (j : ℕ) → j < k → first_at m j ≡ first_at n j
  pub second : (j : ℕ) → j < k → second_at m j ≡ second_at n j

pub record OneWalk : Type 0 where
  -- the steps before the position, whose frames are added, are those that agree in a state that passes the test
  pub before : (L : Limits) (n : Node)
      → passed_ok L n ≡ both (every 0 (reach n) (agrees L n 1)) (every 0 (confirm_reach n) (agrees L n 2))
  -- the node's number, and what each frame below k adds, once each
  pub sums : (n : Node) (k : ℕ) (f : Field) → (walked n k).sums f ≡ tally n f + total (λ j. first_adds n j (first_at n j) f) k
  pub issued : (n : Node) (k : ℕ) → (walked n k).issued ≡ tally n all_sent + total (λ j. second_adds n j (second_at n j)) k
  -- so they are the own sums of the frames that are read and before the position
  pub sums_own : (n : Node) (k : ℕ) (f : Field) → (walked n k).sums f ≡ own n (min k (reach n)) f
  pub issued_own : (n : Node) (k : ℕ) → (walked n k).issued ≡ own_issued n (min k (confirm_reach n))
  -- and at the end those of the position
  pub sums_all : (n : Node) → position_ok n ≡ true → (f : Field) → (walked n (dims n)).sums f ≡ own n (reach n) f
  pub issued_all : (n : Node) → position_ok n ≡ true → (walked n (dims n)).issued ≡ own_issued n (confirm_reach n)
  -- frames that are not read yet do not matter
  pub sums_unread : (n m : Node) (k : ℕ) → Alike n m k → (f : Field) → (walked m k).sums f ≡ (walked n k).sums f
  pub issued_unread : (n m : Node) (k : ℕ) → Alike n m k → (walked m k).issued ≡ (walked n k).issued
  -- one that is read counts once: with another in its place a sum is other by the difference of their numbers, and
  -- frames of one pass are in no sum of the other
  pub sums_once : (n : Node) (j k : ℕ) (x : Stored) → j < length n.first → j < k → (f : Field)
      → (walked (first_put n j x) k).sums f + first_adds n j (first_at n j) f ≡ (walked n k).sums f + first_adds n j x f
  pub issued_once : (n : Node) (j k : ℕ) (y : Confirm) → j < length n.second → j < k
      → (walked (second_put n j y) k).issued + second_adds n j (second_at n j) ≡ (walked n k).issued + second_adds n j y
  pub sums_apart : (n : Node) (j k : ℕ) (y : Confirm) (f : Field) → (walked (second_put n j y) k).sums f ≡ (walked n k).sums f
  pub issued_apart : (n : Node) (j k : ℕ) (x : Stored) → (walked (first_put n j x) k).issued ≡ (walked n k).issued
  -- the words are read one after the other from the first frame's on, each once
  pub in_order : (p k : ℕ) → places_read p k ≡ list (at_first p 0) (at_first p k - at_first p 0) (λ i. i)
