-- What is written of a script: its recording, or nothing where that is refused.
use native.Mathlib.Omega.{arith}
use native.Mathlib.Decide.{dec_lt}
use mathlib.Core.Path.{◌≡◌, refl, sym, ap, ◌∙◌}
use mathlib.Core.Bool.{Bool, true, false}
use mathlib.Core.List.{List, [], ◌∷◌}
use Prim.Native.Nat.{ℕ, ◌+◌, ◌/◌, ◌≤◌, ◌<◌}
use borrow.Author.Tests.{ltb-false}
use lib.Dec.{ltb}
use lib.ListN.{length, take}
use lib.Seq.{take_all, length-take-le}
use Rattle.base.specs.Refusal.{Answered, found, when}
use Rattle.base.specs.declared.Refusal.{Refusal}
use Rattle.base.proofs.Laws.{length_list, checks_known}
use Rattle.script.specs.Script.{line_at}
use Rattle.printing.specs.Put.{put, ends}
use Rattle.printing.proofs.Putting.{taken, length_put}
use Rattle.recording.specs.Recording.{Recording, made, bodies, bytes_of}
use Rattle.recording.specs.Test.{is_bad}
use Rattle.recording.proofs.Sizes.{sized}
use Rattle.recording_write.specs.Write.{write_answer, left_by, written_on}
use Rattle.recording_write.proofs.Writing.{bad}
use Rattle.script_events.specs.Events.{events_of}
use Rattle.script_counts.specs.Counts.{sections_for, nodes_by}
use Rattle.recorder.specs.Recorded.{size_of, counts_for, recording_of}

-- ---- What is put into memory that is long enough, and taken from it

-- a front of memory, by how long the memory was before something was put
module _ (out text now : List ℕ) (n : ℕ) (e : now ≡ put out 0 text) (h : n ≤ length out) where
  pub front_fits : n ≤ length now
  front_fits = omega (arith, ap length e, length_put out 0 text)

  pub front_length : n ≡ length (take n now)
  front_length = sym (length-take-le n now front_fits)

-- the same by where the text ends, and how far that is
module _ (out text now : List ℕ) (end : ℕ) (e : now ≡ put out 0 text) (m : end ≡ ends out 0 text) where
  pub put_fits : end ≤ length now
  put_fits = front_fits out text now end e (omega (arith, m))

  pub put_length_lem : end ≡ length (take end now)
  put_length_lem = front_length out text now end e (omega (arith, m))

pub length_counts : (events : ℕ) → length (counts_for events) ≡ sections_for events
unfolding counts_for
length_counts events = length_list 0 (sections_for events) (size_of events)

pub counts_put : (out : List ℕ) (events n : ℕ) → n ≡ sections_for events → n ≤ length out
    → take n (put out 0 (counts_for events)) ≡ counts_for events
counts_put out events n e h =
    let l = length_counts events in
    let m : n ≡ ends out 0 (counts_for events) = omega arith in
    rw m (taken out (counts_for events) ∙ take_all (length out) (counts_for events) (omega arith))

-- ---- Both recordings are written alike

-- more than a recording may have
long : (r : Recording) → 60000 < bodies (length r.counts) + length r.events → is_bad r ≡ true
long r h = go (is_bad r) refl
  where
    go : (t : Bool) → is_bad r ≡ t → is_bad r ≡ true
    go true e = e
    go false e = absurd (omega (arith, (sized r e).room))

module _ (script text : List ℕ) (nodes : ℕ) (lent buf : List ℕ) where
  abbrev all : List ℕ
  all = events_of script text

  same : length lent ≡ 60000 → (end : ℕ) (counts events : List ℕ) → nodes ≡ nodes_by (line_at script 0).line
      → end ≡ ends lent 0 all → counts ≡ counts_for (end / 4) → events ≡ take end (put lent 0 all)
      → (write_answer (made nodes counts events) (length buf) ≡ write_answer (recording_of script text) (length buf))
      × (written_on (made nodes counts events) buf ≡ written_on (recording_of script text) buf)
  unfolding recording_of
  same size end counts events e n k t = go (dec_lt (length lent) (length all)) (rw n at t ∙ taken lent all)
    where
      go : Dec (length lent < length all) → events ≡ take (length lent) all
          → (write_answer (made nodes counts events) (length buf) ≡ write_answer (recording_of script text) (length buf))
          × (written_on (made nodes counts events) buf ≡ written_on (recording_of script text) buf)
      go (yes h) q =
          let l : length events ≡ length lent = ap length q ∙ length-take-le (length lent) all (omega arith) in
          let one = bad (made nodes counts events) buf (long (made nodes counts events) (omega arith)) in
          let two = bad (recording_of script text) buf (long (recording_of script text) (omega arith)) in
          (sym one.0 ∙ two.0, sym one.1 ∙ two.1)
      go (no h) q =
          let m : end ≡ length all = omega arith in
          let r : made nodes counts events ≡ recording_of script text =
          rw (e, k, m, q, take_all (length lent) all (omega arith)) in
          (ap (λ r. write_answer r (length buf)) r, ap (λ r. written_on r buf) r)

  -- what the writer below answers and leaves
  pub written : (last : List ℕ) (end : ℕ) (counts : List ℕ) → last ≡ put lent 0 all → end ≡ ends lent 0 all
      → length last ≡ 60000 → nodes ≡ nodes_by (line_at script 0).line → counts ≡ counts_for (end / 4)
      → (a : Answered ℕ) (after : List ℕ) → let r = made nodes counts (take end last) in
      (a ≡ write_answer r (length buf)) × (after ≡ written_on r buf)
      → (a ≡ write_answer (recording_of script text) (length buf)) × (after ≡ written_on (recording_of script text) buf)
  written last end counts t n size e k a after w =
      let l = sym (length_put lent 0 all) ∙ sym (ap length t) ∙ size in
      let q = same l end counts (take end last) e n k (ap (take end) t) in
      (w.0 ∙ q.0, w.1 ∙ q.1)

-- what is written is within the memory
pub inside : (r : Recording) (buf now : List ℕ) (n : ℕ) → found n ≡ write_answer r (length buf) → now ≡ written_on r buf
    → n ≤ length now
inside r buf now n e w =
    let short = ltb (length buf) (length (bytes_of r)) in
    let checks = when (is_bad r) Refusal.Recording ∷ when short Refusal.Buffer ∷ [] in
    let k = checks_known checks (length (bytes_of r)) n (sym e) in
    let l : length now ≡ length buf = ap length (w ∙ ap (left_by r buf) (sym e)) ∙ length_put buf 0 (bytes_of r) in
    omega (arith, ltb-false (length buf) (length (bytes_of r)) k.0.1.0)
