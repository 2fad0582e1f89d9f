-- `put_recording` writes `recording_of`, or refuses as the writer would.
use borrow.Author.Rules.{rules}
use native.Mathlib.Omega.{arith}
use mathlib.Core.Path.{◌≡◌, ap, ◌∙◌}
use Prim.Native.Nat.{ℕ, ◌≤◌}
use lib.ListN.{length, take, replicate, length-replicate}
use Rattle.base.specs.Refusal.{answered}
use Rattle.script.specs.declared.Parsed.{Parsed}
use Rattle.printing.proofs.Putting.{length_put}
use Rattle.script_counts.specs.Counts.{nodes_by}
use Rattle.recorder.proofs.Writing.{front_fits, front_length, put_fits, put_length_lem, counts_put, written}
use Rattle.recorder.proofs.put_recording.Statement.{statement}
use Rattle.recorder.proofs.put_recording.Tie as tie

-- ---- How far the memory is written

-- cited wherever the size is asked for: to compare the memory with a list of 60,000 is what takes time here
memory_size : (c : tie.After-put_events-end) → length c.put_events-end.new.events ≡ 60000
memory_size c = ap length c.put_events-end.ensures.0 ∙ length_put _ _ _ ∙ length-replicate {A = ℕ} 60000 0

events_within : (c : tie.After-put_events-end) → c.put_events-end.result ≤ 60000
events_within c =
    let e = c.put_events-end.ensures in
    rw (memory_size c) at (put_fits _ _ _ _ e.0 e.1)

put_counts_requires : tie.Need-put_counts-sections-requires
put_counts_requires c κs = omega (arith, events_within c.before.before)

counts_within : (c : tie.After-put_counts-sections) → c.put_counts-sections.result ≤ 32
counts_within c = omega (arith, c.put_counts-sections.ensures.1, events_within c.before.before.before)

array-share-prefix-counts : tie.Need-slice_bounds-counts-end
array-share-prefix-counts c =
    let k = c.before.before in front_fits _ _ _ _ k.put_counts-sections.ensures.0 (counts_within k)

slice-aggregate-write : tie.Need-slice_bounds-write-end
slice-aggregate-write c =
    let k = c.before.before.before in front_length _ _ _ _ k.put_counts-sections.ensures.0 (counts_within k)

array-share-prefix-events : tie.Need-slice_bounds-events-end
array-share-prefix-events c =
    let p = c.put_events-end.ensures in
    put_fits _ _ _ _ p.0 p.1

slice-aggregate-write-2 : tie.Need-slice_bounds-write-end-2
slice-aggregate-write-2 c =
    let p = c.put_events-end.ensures in
    put_length_lem _ _ _ _ p.0 p.1

-- ---- What is written

returns : tie.Need-returns
returns c =
    let w = c in
    let n = w in
    let k = n.before.before in
    let p = k.before.before.before in
    let l = p in
    let buf = l.args.buf.now in
    let nodes = n.nodes_by.ensures ∙ ap (λ (x : Parsed). nodes_by x.line) l.line_at-first.ensures in
    let put = counts_put (replicate 32 0) _ _ k.put_counts-sections.ensures.1 (counts_within k.before.before.before.before.before.before) in
    let counts = ap (take k.put_counts-sections.result) k.put_counts-sections.ensures.0 ∙ put in
    let e = p.put_events-end.ensures in
    written _ _ _ _ buf _ _ _ e.0 e.1 (memory_size p.before.before.before.before.before.before) nodes counts (answered w.write.result) _
    w.write.ensures

pub put_recording_spec : {M : Type 1} → statement M
put_recording_spec =
    tie.close
    (tie.spec (λ c κs. search rules) (λ c. search rules) (λ c κs. search rules) (λ c. search rules)
    put_counts_requires (λ c κs. search rules) array-share-prefix-counts slice-aggregate-write
    array-share-prefix-events slice-aggregate-write-2 (λ c κs. search rules) (λ c. search rules) returns)
