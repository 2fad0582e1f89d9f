-- `look_at`: words that are no stored frame's.
use borrow.Author.Tests.{ne_eqb}
use Rattle.std.proofs.Common.{◌≡◌, ℕ, List, length, true, false, sym, ◌∙◌, arith}
use lib.Dec.{eqb}
use Rattle.base.specs.Limits.{Limits}
use Rattle.node.specs.Agree.{first_clauses, first_failing}
use Rattle.layout.specs.Held.{word}
use Rattle.walk_tests.specs.Tests.{first_fits}
use Rattle.look.specs.Look.{Looked}
use Rattle.look.specs.Pieces.{no_look}
use Rattle.look.specs.declared.Look.{Look}
use Rattle.look.proofs.look_at.Goals as goal

module _ (L : Limits) (ws sums : List ℕ) (p k : ℕ) where
  -- words that are no frame's
  none : first_fits p k (length ws) (length sums) ≡ false → (r : Look) → r ≡ no_look → Looked L ws sums p k r
  unfolding first_failing
  none e r q = rw q (record { ok = rw e; clause = rw e; total = λ z. absurd (omega arith) })

  -- no frame is stored
  unmarked : first_fits p k (length ws) (length sums) ≡ true → eqb (word ws 0) 1 ≡ false → (r : Look) → r ≡ no_look → Looked L ws sums p k r
  unfolding first_failing first_clauses
  unmarked e m r q = rw q (record { ok = rw (e, m); clause = rw (e, m); total = λ z. absurd (omega arith) })

pub returns-then-not-first_fits : goal.returns-then-not-first_fits
returns-then-not-first_fits c =
    none _ _ _ _ _ (sym c.first_fits.ensures ∙ c.if-not-first_fits.true) _ c.no_look.ensures

pub returns-then-s-ne1 : goal.returns-then-s-ne1
returns-then-s-ne1 c =
    unmarked _ _ _ _ _ (sym c.first_fits.ensures ∙ c.if-not-first_fits.false) (ne_eqb _ _ c.if-s-ne1.true) _
    c.no_look-then-s-ne1.ensures
