-- The tree of partners (rule T2 to rule T7).
use Rattle.std.specs.Prelude.{◌≡◌, ◌≢◌, Bool, List, [], ◌∷◌, ℕ, zero, suc, ◌+◌, ◌-◌, ◌/◌, ◌^◌, ◌<◌, ltb, leb, eqb}
use Rattle.std.proofs.Math.Option.{Option, none, some}
use Rattle.base.specs.Choice.{choose, both}

-- ---- The dimension of a board of P nodes (rule T2)

-- the smallest of from, from + 1, .. with P ≤ 2 ^ it, at most so many tried
unfoldable pub smallest_from : ℕ → ℕ → ℕ → ℕ
smallest_from P from zero = from
smallest_from P from (suc tries) = let next = smallest_from P (suc from) tries in choose (leb P (2 ^ from)) from next

-- P tries are enough, since P ≤ 2 ^ P
unfoldable pub dimension : ℕ → ℕ
dimension P = smallest_from P 0 P

-- ---- Runs: the nodes low to high (rule T3)

pub record Run : Type 0 where
  pub low : ℕ
  pub high : ℕ

-- the whole board, the run of dimension p
abbrev pub root : ℕ → Run
root P = record { low = 0; high = P - 1 }

-- a run splits after its middle into two siblings, one dimension lower
abbrev pub middle : Run → ℕ
middle r = (r.low + r.high) / 2

abbrev pub left : Run → Run
left r = record { low = r.low; high = middle r }

abbrev pub right : Run → Run
right r = record { low = middle r + 1; high = r.high }

abbrev pub left_size : Run → ℕ
left_size r = middle r + 1 - r.low

-- 0 for a run of one node, which has no right part
abbrev pub right_size : Run → ℕ
right_size r = r.high - middle r

-- the part of a run that has node a
unfoldable pub part : Run → ℕ → Run
part r a = choose (leb a (middle r)) (left r) (right r)

-- the run of node a so many splits below the root
unfoldable pub run_below : ℕ → ℕ → ℕ → Run
run_below P zero a = root P
run_below P (suc splits) a = part (run_below P splits a) a

-- the run of node a in dimension k
unfoldable pub run_of : ℕ → ℕ → ℕ → Run
run_of P k a = run_below P (dimension P - k) a

-- ---- The place of a node in a dimension below p (rule T4)

pub data Place : Type 0 where
  -- its run has no sibling: it passes the step without a frame
  alone : Place
  -- the last of a longer left part: it sends nothing and awaits the next node, the messenger
  hermit : ℕ → Place
  -- neighbours each await the other's frame
  neighbour : ℕ → Place
  -- the messenger sends to its neighbour, whose frame it awaits, and to the hermit
  messenger : ℕ → ℕ → Place

-- there is a right part, and the left one is longer
abbrev pub uneven : Run → Bool
uneven r = both (ltb 0 (right_size r)) (ltb (right_size r) (left_size r))

-- the node across from a: the one that stands at a's place in the sibling run
abbrev pub across : Run → ℕ → ℕ
across r a = choose (leb a (middle r)) (middle r + 1 + (a - r.low)) (r.low + (a - (middle r + 1)))

-- the place of a where the two parts of r are sibling runs
unfoldable pub place_in : Run → ℕ → Place
place_in r a =
    choose (both (uneven r) (eqb a (middle r))) (hermit (a + 1))
    (choose (both (uneven r) (eqb a (middle r + 1))) (messenger (across r a) (middle r))
    (choose (eqb (right_size r) 0) alone (neighbour (across r a))))

unfoldable pub place : ℕ → ℕ → ℕ → Place
place P k a = place_in (run_of P (suc k) a) a

-- whose frame is awaited
abbrev pub awaits : Place → Option ℕ
awaits alone = none
awaits (hermit next) = some next
awaits (neighbour b) = some b
awaits (messenger b h) = some b

-- to whom the frame goes, the neighbour first
abbrev pub sends_to : Place → List ℕ
sends_to alone = []
sends_to (hermit next) = []
sends_to (neighbour b) = b ∷ []
sends_to (messenger b h) = b ∷ h ∷ []

unfoldable pub awaited : ℕ → ℕ → ℕ → Option ℕ
awaited P k a = awaits (place P k a)

unfoldable pub receivers : ℕ → ℕ → ℕ → List ℕ
receivers P k a = sends_to (place P k a)

-- ---- The distance of two nodes: the largest dimension in which their runs differ (rule T6)

abbrev pub inside : Run → ℕ → Bool
inside r b = both (leb r.low b) (leb b r.high)

-- the largest dimension below k in which b is not in the run of a
unfoldable pub distance_below : ℕ → ℕ → ℕ → ℕ → ℕ
distance_below P a b zero = 0
distance_below P a b (suc k) = choose (inside (run_of P k a) b) (distance_below P a b k) k

unfoldable pub distance : ℕ → ℕ → ℕ → ℕ
distance P a b = distance_below P a b (dimension P)

-- b is in shell k of a: another node of the board, at distance k (rule T7)
abbrev pub InShell : ℕ → ℕ → ℕ → ℕ → Type 0
InShell P k a b = (b < P) × (a ≢ b) × (distance P a b ≡ k)
