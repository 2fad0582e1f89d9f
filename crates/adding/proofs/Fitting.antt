-- What the tests of the lengths say.
use mathlib.Core.Path.{◌≡◌}
use mathlib.Core.Bool.{true}
use mathlib.Core.List.{List}
use Prim.Native.Nat.{ℕ}
use lib.Dec.{ltb, leb, eqb}
use lib.ListN.{length}
use borrow.Author.Tests.{lt-ltb, ltb-true, le-leb, leb-true, eq-eqb, eqb-true}
use Rattle.base.specs.Limits.{width}
use Rattle.base.proofs.Laws.{both_true, both_make}
use Rattle.layout.specs.Places.{first_words, sum_words}
use Rattle.walk_tests.specs.Tests.{first_fits}
use Rattle.adding.specs.Adding.{Framed}

module _ (p k : ℕ) (ws sums : List ℕ) where
  pub fitting_known : first_fits p k (length ws) (length sums) ≡ true → Framed ws sums p k
  fitting_known e =
      let a = both_true (ltb k p) _ e in
      let b = both_true (leb p width) _ a.1 in
      let d = both_true (eqb (length ws) _) (leb _ (length sums)) b.1 in
      record {
        low = ltb-true k p a.0;
        few = leb-true p width b.0;
        long = eqb-true (length ws) _ d.0;
        wide = leb-true _ (length sums) d.1;
      }

  pub fitting_made : Framed ws sums p k → first_fits p k (length ws) (length sums) ≡ true
  fitting_made h =
      both_make (lt-ltb k p h.low)
      (both_make (le-leb p width h.few)
      (both_make (eq-eqb (length ws) (first_words p k) h.long) (le-leb (sum_words p) (length sums) h.wide)))
