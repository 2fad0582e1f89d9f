-- The table of contents is put section by section, and the number for where a section's body begins has room.
use native.Mathlib.Omega.{arith}
use mathlib.Core.Path.{◌≡◌, refl, sym, ap, ◌∙◌}
use mathlib.Core.List.{List, [], ◌++◌}
use Prim.Native.Nat.{ℕ, ◌+◌, ◌*◌, ◌≤◌, ◌<◌}
use lib.ListN.{length, get_or, take}
use lib.Seq.{take_all}
use Rattle.printing.proofs.Putting.{Written, then, said, put_none, length_put}
use Rattle.recording.specs.Recording.{two_bytes, bodies, table}
use Rattle.recording.specs.Test.{sum}
use Rattle.write_parts.proofs.Growing.{sum_none, sum_more}
use Rattle.recording_write.proofs.Growing.{sum_part, table_none, table_more}

module _ (out : List ℕ) (at : ℕ) (counts : List ℕ) where
  abbrev first : ℕ
  first = bodies (length counts)

  -- the sections before i are put, and the body of section i begins at `start`
  pub record Put (now : List ℕ) (next start i : ℕ) : Type 0 where
    pub known : i ≤ length counts
    pub same : length now ≡ length out
    pub body : start ≡ first + 4 * sum (take i counts)
    pub text : Written out at (table first (take i counts)) now next

  pub none_put : at ≤ length out → Put out at first 0
  none_put h =
      record {
        known = omega arith;
        same = refl;
        body = omega (arith, sum_none);
        text =
            said out out [] (table first []) at at (sym (table_none first)) (sym (put_none out at), omega arith);
      }

  module _ (now : List ℕ) (next start i : ℕ) (p : Put now next start i) where
    pub next_body : i < length counts → sum counts ≤ 15000 → start + 4 * get_or counts i 0 ≤ first + 60000
    next_body h s = omega (arith, sum_more counts i h, sum_part counts (i + 1), p.body)

    pub one_more : (s t : List ℕ) (n m : ℕ) → i < length counts → Written now next (two_bytes start) s n
        → Written s n (two_bytes (get_or counts i 0)) t m → Put t m (start + 4 * get_or counts i 0) (i + 1)
    one_more s t n m h w z =
        let x = two_bytes (first + 4 * sum (take i counts)) in
        let y = two_bytes (get_or counts i 0) in
        let section = then now s t x y next n m (rw (← p.body) w) z in
        record {
          known = omega arith;
          same =
              ap length z.0 ∙ length_put s n y ∙ ap length w.0 ∙ length_put now next (two_bytes start) ∙ p.same;
          body = omega (arith, sum_more counts i h, p.body);
          text =
              said out t (table first (take i counts) ++ (x ++ y)) (table first (take (i + 1) counts)) at m
              (sym (table_more first counts i h))
              (then out now t (table first (take i counts)) (x ++ y) at next m p.text section);
        }

    pub all_put : length counts ≤ i → Written out at (table first counts) now next
    all_put h =
        said out now (table first (take i counts)) (table first counts) at next
        (ap (table first) (take_all i counts h)) p.text
