-- `head_ok` is `head_tested`: the tests in their order.
use borrow.Author.Tests.{lt-ltb, le-ltb, le-leb, lt-leb}
use native.Mathlib.Nat.{lt_of_lt_of_le}
use mathlib.Core.Path.{◌≡◌, sym, ap, ◌∙◌}
use mathlib.Core.Bool.{Bool, true, false}
use Prim.Native.Nat.{ℕ, ◌<◌}
use lib.Dec.{lit<}
use lib.ListN.{length}
use Rattle.base.specs.Choice.{both}
use Rattle.layout.specs.Places.{head_words}
use Rattle.head.specs.Pieces.{head_tested}
use Rattle.head.proofs.head_ok.Statement.{statement}
use Rattle.head.proofs.head_ok.Tie as tie

-- the words of the head are there
there : (s : tie.Start) {i : ℕ} → i < head_words → i < length s.args.s.now
there s h = lt_of_lt_of_le h s.requires

-- a test that holds leaves those after it, and one that fails ends them
passed : {s t r : Bool} → s ≡ true → r ≡ t → r ≡ both s t
passed {t = t} e q = q ∙ ap (λ u. both u t) (sym e)

stopped : {s : Bool} (t : Bool) → s ≡ false → false ≡ both s t
stopped t e = ap (λ u. both u t) (sym e)

returns : tie.Need-returns-then-s-ge256
unfolding head_tested
returns c = stopped _ (le-ltb _ _ c.if-s-ge256.true)

returns_2 : tie.Need-returns-then-s-ge2
unfolding head_tested
returns_2 c = passed (lt-ltb _ _ c.if-s-ge256.false) (stopped _ (le-ltb _ _ c.if-s-ge2.true))

returns_3 : tie.Need-returns-then-s-ge2-2
unfolding head_tested
returns_3 c =
    let d = c in
    passed (lt-ltb _ _ d.if-s-ge256.false)
    (passed (lt-ltb _ _ d.if-s-ge2.false) (stopped _ (le-ltb _ _ c.if-s-ge2-2.true)))

returns-4 : tie.Need-returns-then-limit-s
unfolding head_tested
returns-4 c =
    let e = c in
    let d = e in
    passed (lt-ltb _ _ d.if-s-ge256.false)
    (passed (lt-ltb _ _ d.if-s-ge2.false) (passed (lt-ltb _ _ e.if-s-ge2-2.false) (stopped _ (lt-leb _ _ c.if-limit-s.true))))

returns_5 : tie.Need-returns-then-s
unfolding head_tested
returns_5 c =
    let f = c in
    let e = f in
    let d = e in
    passed (lt-ltb _ _ d.if-s-ge256.false)
    (passed (lt-ltb _ _ d.if-s-ge2.false)
    (passed (lt-ltb _ _ e.if-s-ge2-2.false) (passed (le-leb _ _ f.if-limit-s.false) (stopped _ (le-ltb _ _ c.if-s.true)))))

returns-6 : tie.Need-returns-then-not-position_ok
unfolding head_tested
returns-6 c =
    let q = c in
    let g = q in
    let f = g in
    let e = f in
    let d = e in
    passed (lt-ltb _ _ d.if-s-ge256.false)
    (passed (lt-ltb _ _ d.if-s-ge2.false)
    (passed (lt-ltb _ _ e.if-s-ge2-2.false)
    (passed (le-leb _ _ f.if-limit-s.false)
    (passed (lt-ltb _ _ g.if-s.false)
    (stopped _ (sym q.position_ok.ensures ∙ c.if-not-position_ok.true))))))

returns-7 : tie.Need-returns
unfolding head_tested
returns-7 c =
    let h = c in
    let q = h in
    let g = q in
    let f = g in
    let e = f in
    let d = e in
    passed (lt-ltb _ _ d.if-s-ge256.false)
    (passed (lt-ltb _ _ d.if-s-ge2.false)
    (passed (lt-ltb _ _ e.if-s-ge2-2.false)
    (passed (le-leb _ _ f.if-limit-s.false)
    (passed (lt-ltb _ _ g.if-s.false)
    (passed (sym q.position_ok.ensures ∙ h.if-not-position_ok.false) c.busy_ok.ensures)))))

pub head_ok_spec : {M : Type 1} → statement M
head_ok_spec =
    tie.close
    (tie.spec (λ c. there c.before.before (lit< tt)) returns (λ c. there c.before.before.before.before (lit< tt)) returns_2
    (λ c. there c.before.before.before.before.before.before (lit< tt)) returns_3
    (λ c. there c.before.before.before.before.before.before.before.before (lit< tt)) returns-4
    (λ c. there c.before.before.before.before.before.before.before.before.before.before (lit< tt))
    (λ c. there c.before.before.before.before.before.before.before.before.before.before.before (lit< tt)) returns_5
    (λ c. there c.before.before.before.before.before.before.before.before.before.before.before.before.before (lit< tt))
    (λ c. there c.before.before.before.before.before.before.before.before.before.before.before.before.before.before (lit< tt)) (λ c κs. tt) returns-6
    (λ c. there c.before.before.before.before.before.before.before.before.before.before.before.before.before.before.before.before.before (lit< tt))
    (λ c. there c.before.before.before.before.before.before.before.before.before.before.before.before.before.before.before.before.before.before (lit< tt))
    (λ c. there c.before.before.before.before.before.before.before.before.before.before.before.before.before.before.before.before.before.before.before (lit< tt))
    (λ c. there c.before.before.before.before.before.before.before.before.before.before.before.before.before.before.before.before.before.before.before.before (lit< tt)) (λ c κs. tt)
    returns-7)
