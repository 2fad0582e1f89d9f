-- What holds of a recording that is not refused: its sizes, so that each of its numbers has room in the bytes, and that
-- each of its events is one of its board.
use mathlib.Core.Path.{◌≡◌}
use mathlib.Core.Bool.{true, false, not}
use Prim.Native.Nat.{ℕ, ◌+◌, ◌*◌, ◌≤◌, ◌<◌}
use native.Mathlib.Omega.{arith}
use lib.Dec.{ltb, eqb}
use lib.ListN.{length}
use borrow.Author.Tests.{ltb-false, eqb-true, eqb-false, not-false}
use Rattle.base.proofs.Laws.{either_false, every_at}
use Rattle.recording.specs.Recording.{Recording, event_count, bodies}
use Rattle.recording.specs.Test.{outside, good_at, good_events, is_bad_by, is_bad, sum}

within : (most x : ℕ) → outside most x ≡ false → x ≤ most
within most x e = ltb-false most x (either_false (eqb x 0) (ltb most x) e).1

some : (most x : ℕ) → outside most x ≡ false → 0 < x
some most x e = omega (arith, eqb-false x 0 (either_false (eqb x 0) (ltb most x) e).0)

pub record Sized (r : Recording) : Type 0 where
  pub board : 0 < r.nodes
  pub nodes : r.nodes ≤ 16
  pub sections : length r.counts ≤ 32
  pub total : 4 * sum r.counts ≡ length r.events
  pub room : bodies (length r.counts) + length r.events ≤ 60000
  pub events : (i : ℕ) → i < event_count r → good_at r.nodes r.events i ≡ true

pub sized : (r : Recording) → is_bad r ≡ false → Sized r
unfolding is_bad_by good_events
sized r e =
    let n = length r.counts in
    let l = length r.events in
    let a = either_false (outside 16 r.nodes) _ e in
    let b = either_false (outside 32 n) _ a.1 in
    let c = either_false (not (eqb (4 * sum r.counts) l)) _ b.1 in
    let d = either_false (ltb 60000 (bodies n + l)) _ c.1 in
    record {
      board = some 16 r.nodes a.0;
      nodes = within 16 r.nodes a.0;
      sections = within 32 n b.0;
      total = eqb-true (4 * sum r.counts) l (not-false _ c.0);
      room = ltb-false 60000 (bodies n + l) d.0;
      events =
          λ i h. every_at 0 (event_count r) (good_at r.nodes r.events) (not-false _ d.1) i (omega arith)
          (omega arith);
    }
