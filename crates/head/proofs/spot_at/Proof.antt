-- `spot_at` is `spot_at`.
use native.Mathlib.Nat.{lt_of_lt_of_le, le_of_lt}
use Prim.Native.Nat.{ℕ, ◌<◌}
use lib.Dec.{lit<}
use lib.ListN.{length}
use mir.Facts.{Fits-below}
use Rattle.layout.specs.Places.{head_words, at_pass, at_dim, at_agreed}
use Rattle.layout.specs.Held.{word}
use Rattle.head.proofs.spot_at.Statement.{statement}
use Rattle.head.proofs.spot_at.Tie as tie

-- the words of the head are there
there : (s : tie.Start) {i : ℕ} → i < head_words → i < length s.args.s.now
there s h = lt_of_lt_of_le h s.requires.0

returns : tie.Need-returns
returns c =
    let l = c in
    let a = l.args in
    λ i.
    record {
      dims = a.p;
      alone = l.is_alone.ensures i;
      pass = word a.s.now at_pass;
      dim = word a.s.now at_dim;
      agreed = word a.s.now at_agreed;
    }

pub spot_at_spec : {M : Type 1} → statement M
spot_at_spec =
    tie.close
    (tie.spec (λ c. there c.before.before (lit< tt)) (λ c. there c.before.before.before (lit< tt)) (λ c κs. tt)
    (λ c. there c.before.before.before.before.before (lit< tt)) (λ c. Fits-below tt (le_of_lt c.requires.1))
    (λ c. there c.before.before.before.before.before.before (lit< tt)) (λ c. there c.before.before.before.before.before.before.before (lit< tt)) returns)
