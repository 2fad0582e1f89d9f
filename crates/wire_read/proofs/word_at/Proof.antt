-- `word_at` is `word_at`.
use lib.ListN.{length}
use Prim.Native.Nat.{◌+◌, ◌*◌}
use Rattle.frame.specs.Numbers.{word_at}
use Rattle.wire_read.proofs.Places.{Four, four, two_scaled, two, three_scaled, three, all_scaled, all}
use Rattle.wire_read.proofs.word_at.Statement.{statement}
use Rattle.wire_read.proofs.word_at.Tie as tie

at : (s : tie.Start) → Four s.args.at (length s.args.s.now)
at s = four s.args.at (length s.args.s.now) s.requires s.well_formed.0.0

returns : tie.Need-returns
unfolding word_at
returns c =
    let w = c in
    λ i.
    w.wide-a.ensures.0 i
    + 256 * w.wide-b.ensures.0 i
    + 65536 * w.wide-c.ensures.0 i
    + 16777216 * c.wide-d.ensures.0 i

pub word_at_spec : {M : Type 1} → statement M
word_at_spec =
    tie.close
    (tie.spec (λ c. (at c.before.before).first) (λ c κs. tt) (λ c. (at c.before.before.before).second_fits) (λ c. (at c.before.before.before.before).second) (λ c κs. tt)
    (λ c. (at c.before.before.before.before.before).third_fits) (λ c. (at c.before.before.before.before.before.before).third) (λ c κs. tt) (λ c. (at c.before.before.before.before.before.before.before).fourth_fits)
    (λ c. (at c.before.before.before.before.before.before.before.before).fourth) (λ c κs. tt)
    (λ c. two_scaled _ _ 0 0 c.wide-a.ensures.1 c.wide-b.ensures.1)
    (λ c. two _ _ 0 0 c.wide-a.ensures.1 c.wide-b.ensures.1)
    (λ c. three_scaled _ _ _ 0 c.wide-a.ensures.1 c.wide-b.ensures.1 c.wide-c.ensures.1)
    (λ c. three _ _ _ 0 c.wide-a.ensures.1 c.wide-b.ensures.1 c.wide-c.ensures.1)
    (λ c. all_scaled _ _ 0 _ c.wide-a.ensures.1 c.wide-b.ensures.1 c.wide-d.ensures.1)
    (λ c. all _ _ _ _ c.wide-a.ensures.1 c.wide-b.ensures.1 c.wide-c.ensures.1 c.wide-d.ensures.1) returns)
