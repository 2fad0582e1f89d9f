-- Writing and reading a recording undo each other.
use mathlib.Core.Path.{◌≡◌, refl}
use mathlib.Core.Bool.{true, false, not}
use mathlib.Core.List.{List, [], ◌∷◌}
use Prim.Native.Nat.{ℕ, ◌+◌, ◌≤◌}
use native.Mathlib.Nat.{zero-add}
use native.Mathlib.Omega.{arith}
use lib.Dec.{ltb}
use lib.ListN.{length, get_or, drop, length-append}
use lib.Seq.{drop_at}
use borrow.Author.Tests.{ltb-false, le-ltb, not-false}
use Rattle.base.specs.Choice.{list}
use Rattle.base.proofs.Laws.{either_false, length_list}
use Rattle.frame.specs.Shapes.{Bytes}
use Rattle.recording.specs.Laws.{Survives}
use Rattle.recording.specs.Recording.{Recording, made, bytes_of, recording_in, table, bodies, sections_in, count_at}
use Rattle.recording.specs.Test.{is_bad, is_bad_in, placed}
use Rattle.recording.proofs.Sizes.{sized}
use Rattle.recording.proofs.Tables.{length_table, table_read, table_written}

-- ---- Written, then read

pub length_bytes_of : (r : Recording) → length (bytes_of r) ≡ bodies (length r.counts) + length r.events
unfolding bytes_of
length_bytes_of r =
    let n = length r.counts in
    omega (arith, length-append (table (bodies n) r.counts) r.events, length_table (bodies n) r.counts)

module _ (r : Recording) (e : is_bad r ≡ false) where
  abbrev n : ℕ
  n = length r.counts

  table_back : (placed (bytes_of r) (bodies n) 0 n ≡ true) × (list 0 n (count_at (bytes_of r)) ≡ r.counts)
  unfolding bytes_of
  table_back =
      let s = sized r e in table_read (bytes_of r) 0 (bodies n) r.counts r.events refl (omega arith)

  events_back : drop (bodies n) (bytes_of r) ≡ r.events
  unfolding bytes_of
  events_back =
      drop_at (r.nodes ∷ n ∷ table (bodies n) r.counts) r.events (bodies n)
      (omega (arith, length_table (bodies n) r.counts))

  written_read : recording_in (bytes_of r) ≡ r
  unfolding bytes_of recording_in
  written_read = λ i. made r.nodes (table_back.1 i) (events_back i)

  written_good_lem : is_bad_in (bytes_of r) ≡ false
  unfolding is_bad_in bytes_of
  written_good_lem =
      let room = le-ltb (length (bytes_of r)) (bodies n) (omega (arith, length_bytes_of r)) in
      rw (room, table_back.0, written_read) e

-- ---- Read, then written

module _ (bs : List ℕ) (e : is_bad_in bs ≡ false) where
  pub known : (bodies (sections_in bs) ≤ length bs) × (placed bs (bodies (sections_in bs)) 0 (sections_in bs) ≡ true)
      × (is_bad (recording_in bs) ≡ false)
  unfolding is_bad_in
  known =
      let n = sections_in bs in
      let a = either_false (ltb (length bs) (bodies n)) _ e in
      let b = either_false (not (placed bs (bodies n) 0 n)) _ a.1 in
      (ltb-false _ _ a.0, not-false _ b.0, b.1)

head : (bs : List ℕ) → 2 ≤ length bs → get_or bs 0 0 ∷ get_or bs 1 0 ∷ drop 2 bs ≡ bs
head [] h = absurd (omega arith)
head (a ∷ []) h = absurd (omega arith)
head (a ∷ b ∷ bs) h = refl

read_written_lem : (bs : List ℕ) → Bytes bs → is_bad_in bs ≡ false → bytes_of (recording_in bs) ≡ bs
unfolding bytes_of recording_in
read_written_lem bs b e =
    let n = sections_in bs in
    let k = known bs e in
    let z : 0 + n ≡ n = zero-add n in
    let t = rw z at (table_written bs b 0 n (bodies n) (omega arith) k.1) in
    rw (length_list, t) (head bs (omega arith))

pub survives : Survives
survives =
    record {
      written_good = written_good_lem;
      written_read = written_read;
      read_good = λ bs e. (known bs e).2;
      read_written = read_written_lem;
    }
