-- The numbers of a node and of the frames that it has stored, and its own sums (rule N14).
use Rattle.std.specs.Prelude.{false, [], ℕ, zero, suc, ◌+◌, ◌≤◌, ◌<◌, get_or}
use Rattle.base.specs.Choice.{choose}
use Rattle.tree.specs.Tree.{dimension}
use Rattle.frame.specs.Frame.{sent_number, taken_number, sent_at, taken_at}
use Rattle.node.specs.declared.Stored.{Stored}
use Rattle.node.specs.declared.Confirm.{Confirm}
use Rattle.node.specs.declared.Node.{Node}

-- p
abbrev pub dims : Node → ℕ
dims n = dimension n.nodes

-- the stored frames of the two passes in dimension k, and what is there past the last: no frame
abbrev pub first_at : Node → ℕ → Stored
first_at n k =
    get_or n.first k
    (record { present = false; sent = []; taken = []; issued = sent_number 0; received = taken_number 0 })

abbrev pub second_at : Node → ℕ → Confirm
second_at n k = get_or n.second k (record { present = false; agreed = 0; issued = sent_number 0 })

-- a number of a pass 1 frame: sent and taken for a shell, total sent, total taken
pub data Field : Type 0 where
  sent_in : ℕ → Field
  taken_in : ℕ → Field
  all_sent : Field
  all_taken : Field

-- a frame of dimension k has the number, and so have the own sums for k: a shell from k to p − 1, or a total
abbrev pub Has : ℕ → ℕ → Field → Type 0
Has p k (sent_in m) = (k ≤ m) × (m < p)
Has p k (taken_in m) = (k ≤ m) × (m < p)
Has p k all_sent = Unit {0}
Has p k all_taken = Unit {0}

-- f 0 + .. + f (n - 1)
abbrev pub total : (ℕ → ℕ) → ℕ → ℕ
total f zero = 0
total f (suc n) = total f n + f n

-- that number of a node: a tally, or the total over its shells
abbrev pub tally : Node → Field → ℕ
tally n (sent_in m) = sent_at n.sent m
tally n (taken_in m) = taken_at n.taken m
tally n all_sent = total (sent_at n.sent) (dims n)
tally n all_taken = total (taken_at n.taken) (dims n)

-- that number of a stored pass 1 frame
abbrev pub number : Stored → Field → ℕ
number x (sent_in m) = sent_at x.sent m
number x (taken_in m) = taken_at x.taken m
number x all_sent = x.issued.0
number x all_taken = x.received.0

-- own sums of pass 1: the node's number, and that of each pass 1 frame stored for a dimension below k
unfoldable pub own : Node → ℕ → Field → ℕ
own n zero f = tally n f
own n (suc k) f = own n k f + choose (first_at n k).present (number (first_at n k) f) 0

-- own sum of pass 2: the node's total sent, and that of each pass 2 frame stored for a dimension below k
unfoldable pub own_issued : Node → ℕ → ℕ
own_issued n zero = tally n all_sent
own_issued n (suc k) = own_issued n k + choose (second_at n k).present (second_at n k).issued.0 0
