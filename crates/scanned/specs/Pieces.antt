-- Definitions that only the contracts of private functions cite: the test of a step, and what a walk over the stored frames
-- carries.
use Rattle.std.specs.Prelude.{◌≡◌, Bool, true, false, not, List, ℕ, suc, ◌+◌, ◌≤◌, ◌<◌, min, ltb, eqb, length}
use Rattle.base.specs.Choice.{choose, both, either, every}
use Rattle.base.specs.Limits.{Limits, field_limit}
use Rattle.node.specs.Sums.{dims, first_at, second_at, Field, Has, sent_in, taken_in, all_taken, number, own, own_issued}
use Rattle.node.specs.Agree.{is_alone, first_clauses, second_clauses, first_failing}
use Rattle.node.specs.State.{board_ok, position_ok, tallies_ok}
use Rattle.node.specs.declared.Stored.{Stored}
use Rattle.node.specs.declared.Confirm.{Confirm}
use Rattle.node.specs.declared.Node.{Node}
use Rattle.layout.specs.Places.{second_words, at_first, confirmed_place, state_words, sum_words}
use Rattle.layout.specs.Held.{word, first_from, second_from, sum_of, unpacked, is_marked}
use Rattle.survey.specs.Pieces.{first_test, second_test, awaits_at, first_past, second_past, first_held, second_held, step_test}
use Rattle.survey.specs.declared.Spot.{Spot}
use Rattle.head.specs.Head.{spot_in, head_passes}
use Rattle.gather.specs.Gather.{sent_total, taken_total, tallied, Started}
use Rattle.adding.specs.Adding.{Framed}
use Rattle.walked.specs.Walk.{reach, confirm_reach, Holds}
use Rattle.scanned.specs.Scan.{passes, clause_here, Gathered, Scanned}
use Rattle.scanned.specs.declared.Scan.{Scan}
use Rattle.scanned.specs.declared.Walked.{Walked}
use Rattle.scanned.specs.declared.Past.{Past}

-- ---- Which steps are tried

-- the steps before the position, and the one that is looked at, if any is: p is no dimension
abbrev pub past_of : Spot → Bool → Past
past_of s looks =
    let first = eqb s.pass 1 in
    let here = choose looks s.dim s.dims in
    record {
      firsts = choose first s.dim s.dims;
      seconds = choose first 0 s.dim;
      look = choose first here s.dims;
      confirm = choose first s.dims here;
    }

-- what a step is handed is what a spot says of dimension k
pub record Told (spot : Spot) (p k : ℕ) (awaits : Bool) (past : Past) : Type 0 where
  pub dims : spot.dims ≡ p
  pub awaited : awaits_at spot k ≡ awaits
  pub firsts : first_past spot k ≡ ltb k past.firsts
  pub seconds : second_past spot k ≡ ltb k past.seconds
  -- no step that is looked at is before the position
  pub look : past.firsts ≤ past.look
  pub confirm : past.seconds ≤ past.confirm

-- ---- A step

-- the sums for shell k are within the limit
pub record Summed (L : Limits) (p k : ℕ) (sums : List ℕ) : Type 0 where
  pub sent : sum_of p sums (sent_in k) ≤ field_limit L
  pub taken : sum_of p sums (taken_in k) ≤ field_limit L

-- the test of dimension k of pass 1, and of pass 2, with its mark
unfoldable pub first_whole : Limits → Spot → ℕ → (Field → ℕ) → ℕ → Stored → Bool
first_whole L spot k own mark x =
    both (ltb mark 2)
    (both (first_test L (awaits_at spot k) spot.dims k x)
    (either (not (awaits_at spot k)) (first_held L spot k own x)))

unfoldable pub second_whole : Limits → Spot → ℕ → ℕ → ℕ → Confirm → Bool
second_whole L spot k issued mark y =
    both (ltb mark 2)
    (both (second_test L (awaits_at spot k) y) (either (not (awaits_at spot k)) (second_held L spot k issued y)))

-- a frame of dimension k is looked at
abbrev pub looks_at : Spot → ℕ → ℕ → Bool
looks_at spot here k = both (awaits_at spot k) (eqb k here)

-- dimension k of pass 1 by the words of its frame: its test, the sums with its numbers where it is before the position, and
-- its clauses where it is looked at
pub record FirstDone (L : Limits) (fs : List ℕ) (spot : Spot) (past : Past) (k : ℕ) (w : Walked) (before after : List ℕ)
    (r : Walked) : Type 0 where
  pub ok : r.ok
      ≡ first_whole L spot k (sum_of spot.dims before) (word fs 0) (first_from fs spot.dims k 0)
  pub sums : r.ok ≡ true → (f : Field) → Has spot.dims (choose (first_past spot k) (suc k) 0) f
      → sum_of spot.dims after f
      ≡ sum_of spot.dims before f + choose (first_past spot k) (number (first_from fs spot.dims k 0) f) 0
  pub length : length after ≡ length before
  pub issued : r.issued ≡ w.issued
  pub clause : r.ok ≡ true
      → r.clause
      ≡ choose (looks_at spot past.look k)
      (first_failing (first_clauses L spot.dims k (sum_of spot.dims before) (first_from fs spot.dims k 0)))
      w.clause
  pub received : r.ok ≡ true → looks_at spot past.look k ≡ true → r.clause ≡ 7
      → r.received.0
      ≡ sum_of spot.dims before all_taken + number (first_from fs spot.dims k 0) all_taken
  pub kept : looks_at spot past.look k ≡ false → r.received ≡ w.received

-- and of pass 2
pub record SecondDone (L : Limits) (ss : List ℕ) (spot : Spot) (past : Past) (k : ℕ) (w r : Walked) : Type 0 where
  pub ok : r.ok ≡ second_whole L spot k w.issued.0 (word ss 0) (second_from ss 0)
  pub more : r.ok ≡ true → r.issued.0 ≡ w.issued.0 + choose (second_past spot k) (word ss (confirmed_place 0)) 0
  pub clause : r.ok ≡ true
      → r.clause
      ≡ choose (looks_at spot past.confirm k)
      (first_failing (second_clauses L spot.dims k w.issued.0 spot.agreed (second_from ss 0)))
      w.clause
  pub received : r.received ≡ w.received

abbrev pub FirstStep : Limits → List ℕ → ℕ → ℕ → Bool → Past → Walked → List ℕ → List ℕ → Walked → Type 0
FirstStep L fs p k awaits past w before after r =
    (spot : Spot) → Told spot p k awaits past → (first_past spot k ≡ true → Summed L p k before)
    → FirstDone L fs spot past k w before after r

abbrev pub SecondStep : Limits → List ℕ → ℕ → ℕ → Bool → Past → Walked → ℕ → Walked → Type 0
SecondStep L ss p k awaits past w agreed r =
    (spot : Spot) → Told spot p k awaits past → spot.agreed ≡ agreed → agreed ≤ field_limit L
    → SecondDone L ss spot past k w r

-- a step of pass 2 before the position, by the first clause that fails: the frame's total sent is added
pub record Confirms (w : Walked) (more c : ℕ) (r : Walked) : Type 0 where
  pub ok : r.ok ≡ eqb c 7
  pub issued : r.ok ≡ true → r.issued.0 ≡ w.issued.0 + more
  pub clause : r.clause ≡ w.clause
  pub received : r.received ≡ w.received

-- what a step is handed: the words of the frames of dimension k, each by itself
pub record Steps (L : Limits) (fs ss sums : List ℕ) (spot : Spot) (past : Past) (k : ℕ) : Type 0 where
  pub first : Framed fs sums spot.dims k
  pub second : length ss ≡ second_words
  pub summed : first_past spot k ≡ true → Summed L spot.dims k sums
  pub agreed : spot.agreed ≤ field_limit L
  pub dim : spot.dim ≤ spot.dims
  pub looks : Bool
  pub tries : past ≡ past_of spot looks

-- and what it does: pass 1, and pass 2 where that passes
pub record Stepped (L : Limits) (fs ss : List ℕ) (spot : Spot) (past : Past) (k : ℕ) (w : Walked) (before after : List ℕ)
    (r : Walked) : Type 0 where
  pub middle : Walked
  pub first : FirstDone L fs spot past k w before after middle
  pub stops : middle.ok ≡ false → r.ok ≡ false
  pub second : middle.ok ≡ true → SecondDone L ss spot past k middle r

-- ---- The walk over the stored frames

-- the marks of dimension k and its test, with the own sums
unfoldable pub step_in : Limits → List ℕ → ℕ → Bool
step_in L ws k =
    let n = unpacked ws in
    both (is_marked ws (dims n) k)
    (step_test L (spot_in L ws) k (own n k) (own_issued n k) (first_at n k) (second_at n k))

-- the head and the tallies have passed, and the sums are those before any frame is added
pub record Walking (L : Limits) (ws start : List ℕ) (here : Spot) (x : ℕ) : Type 0 where
  pub board : board_ok L (unpacked ws) ≡ true
  pub position : position_ok (unpacked ws) ≡ true
  pub tallies : tallies_ok L (unpacked ws) ≡ true
  pub agreed : (unpacked ws).agreed ≤ field_limit L
  pub spot : here ≡ spot_in L ws
  pub long : state_words (dims (unpacked ws)) ≤ length ws
  pub room : sum_words (dims (unpacked ws)) ≤ length start
  pub sums : Gathered (unpacked ws) 0 start
  pub sends : x ≡ own_issued (unpacked ws) 0

-- the position is looked at, and its dimension is below k
abbrev pub is_seen : Node → Bool → ℕ → Bool
is_seen n looks k = both looks (ltb n.dim k)

-- the loop before dimension k: it holds the walk over the frames below k; they pass the test; and if the position is among
-- them and is looked at, its clauses are known
pub record Carries (L : Limits) (ws start : List ℕ) (looks : Bool) (k at : ℕ) (l : List ℕ) (w : Walked) : Type 0 where
  pub low : k ≤ dims (unpacked ws)
  pub place : at ≡ at_first (dims (unpacked ws)) k
  pub length : length l ≡ length start
  pub holds : Holds (unpacked ws) k l w.issued.0
  pub within : (f : Field) → Has (dims (unpacked ws)) (min k (reach (unpacked ws))) f
      → sum_of (dims (unpacked ws)) l f ≤ field_limit L
  pub steps : (j : ℕ) → j < k → step_in L ws j ≡ true
  pub clause : w.clause ≡ choose (is_seen (unpacked ws) looks k) (clause_here L (unpacked ws)) 7
  pub received : is_seen (unpacked ws) looks k ≡ true → is_alone (unpacked ws) (unpacked ws).dim ≡ false
      → (unpacked ws).pass ≡ 1 → w.clause ≡ 7
      → w.received.0 ≡ own (unpacked ws) (suc (unpacked ws).dim) all_taken

-- all steps pass, and then the sums are those that a scan gathers
pub record WalkedAll (L : Limits) (ws : List ℕ) (looks : Bool) (before after : List ℕ) (r : Walked) : Type 0 where
  pub ok : r.ok ≡ every 0 (dims (unpacked ws)) (step_in L ws)
  pub length : length after ≡ length before
  pub issued : r.ok ≡ true → r.issued.0 ≡ own_issued (unpacked ws) (confirm_reach (unpacked ws))
  pub sums : r.ok ≡ true → Gathered (unpacked ws) (reach (unpacked ws)) after
  pub clause : r.ok ≡ true → looks ≡ true → (unpacked ws).dim < dims (unpacked ws)
      → r.clause ≡ clause_here L (unpacked ws)
  pub received : r.ok ≡ true → looks ≡ true → (unpacked ws).dim < dims (unpacked ws)
      → is_alone (unpacked ws) (unpacked ws).dim ≡ false → (unpacked ws).pass ≡ 1 → r.clause ≡ 7
      → r.received.0 ≡ own (unpacked ws) (suc (unpacked ws).dim) all_taken

-- ---- The scan

-- the head and the tallies pass, and the sums are those before any frame is added
pub record Ready (L : Limits) (ws sums : List ℕ) (here : Spot) (sends takes : ℕ) : Type 0 where
  pub head : head_passes L ws ≡ true
  pub spot : here ≡ spot_in L ws
  pub tallies : tallied L here.dims ws (length sums) ≡ true
  pub started : Started here.dims ws sums
  pub sent : sends ≡ sent_total here.dims ws
  pub taken : takes ≡ taken_total here.dims ws

-- what a scan answers, and the words lent for the sums after it
abbrev pub ScannedOn : Limits → Bool → List ℕ → List ℕ → List ℕ → Scan → Type 0
ScannedOn L looks ws before after r =
    Scanned L (length before) looks ws r
    × ((passes L (length before) ws ≡ true → Gathered (unpacked ws) (reach (unpacked ws)) after)
    × (length after ≡ length before))
