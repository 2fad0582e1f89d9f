-- `may_confirm`: a mark that may stand, and numbers within its bound.
use borrow.Author.Tests.{eq-eqb, ne_eqb, le-leb, lt-leb}
use native.Mathlib.Omega.{arith}
use mathlib.Core.Path.{◌≡◌, refl, sym, ap, ◌∙◌}
use mathlib.Core.Bool.{Bool, false}
use Prim.Native.Nat.{ℕ, zero, suc}
use lib.Dec.{leb, eqb}
use Rattle.base.specs.Choice.{both}
use Rattle.scan_tests.specs.Tests.{may_confirm}
use Rattle.scan_tests.proofs.may_confirm.Statement.{statement}
use Rattle.scan_tests.proofs.may_confirm.Tie as tie

-- at most 0 is 0
low_is : (n : ℕ) → leb n 0 ≡ eqb n 0
low_is zero = refl
low_is (suc n) = lt-leb (suc n) 0 (omega arith) ∙ sym (ne_eqb (suc n) 0 (λ e. omega arith))

module _ (mark agreed issued : ℕ) (awaited : Bool) (limit : ℕ) where
  none : mark ≡ 0 → may_confirm mark agreed issued awaited limit ≡ both (eqb agreed 0) (eqb issued 0)
  none e = rw (e, low_is agreed, low_is issued)

  other : (mark ≡ 0 → ⊥) → (mark ≡ 1 → ⊥) → may_confirm mark agreed issued awaited limit ≡ false
  other a b = rw (ne_eqb _ _ a, ne_eqb _ _ b)

  some : mark ≡ 1 → may_confirm mark agreed issued awaited limit ≡ both awaited (both (leb agreed limit) (leb issued limit))
  some e = rw e

returns : tie.Need-returns-then-agreed-eq0
returns c =
    let two = c in
    let a = two.args in
    sym
    (none a.mark a.agreed a.issued.0 a.awaited a.limit two.if-mark-eq0.true
    ∙ ap (λ t. both t (eqb a.issued.0 0)) (eq-eqb _ _ two.if-agreed-eq0.true))

returns_2 : tie.Need-returns-else-agreed-eq0
returns_2 c =
    let a = c.args in
    let e = ne_eqb _ _ c.if-agreed-eq0.false in
    e
    ∙ sym
    (none a.mark a.agreed a.issued.0 a.awaited a.limit c.if-mark-eq0.true
    ∙ ap (λ t. both t (eqb a.issued.0 0)) e)

returns_3 : tie.Need-returns-then-mark-ne1
returns_3 c =
    let a = c.args in
    sym (other a.mark a.agreed a.issued.0 a.awaited a.limit c.if-mark-eq0.false c.if-mark-ne1.true)

returns-4 : tie.Need-returns-then-not-awaited
returns-4 c =
    let a = c.args in
    sym
    (some a.mark a.agreed a.issued.0 a.awaited a.limit c.if-mark-ne1.false
    ∙ ap (λ t. both t (both (leb a.agreed a.limit) (leb a.issued.0 a.limit))) c.if-not-awaited.true)

-- a frame that is awaited
awaited : (o : tie.Else-not-awaited)
    → let a = o.args in
    may_confirm a.mark a.agreed a.issued.0 a.awaited a.limit
    ≡ both (leb a.agreed a.limit) (leb a.issued.0 a.limit)
awaited o =
    let a = o.args in
    some a.mark a.agreed a.issued.0 a.awaited a.limit o.if-mark-ne1.false
    ∙ ap (λ t. both t (both (leb a.agreed a.limit) (leb a.issued.0 a.limit))) o.if-not-awaited.false

returns_5 : tie.Need-returns-then-agreed-limit
returns_5 c =
    let five = c in
    let a = five.args in
    sym (awaited five.before.before ∙ ap (λ t. both t (leb a.issued.0 a.limit)) (le-leb _ _ five.if-agreed-limit.true))

returns-6 : tie.Need-returns-else-agreed-limit
returns-6 c =
    let a = c.args in
    let e = lt-leb a.agreed a.limit (omega (arith, c.if-agreed-limit.false)) in
    e ∙ sym (awaited c.before ∙ ap (λ t. both t (leb a.issued.0 a.limit)) e)

pub may_confirm_spec : {M : Type 1} → statement M
may_confirm_spec = tie.close (tie.spec returns returns_2 returns_3 returns-4 returns_5 returns-6)
