-- `first_ok`: the mark may stand, and the numbers are within its bound.
use mathlib.Core.Path.{◌≡◌, sym, ap, ◌∙◌}
use mathlib.Core.Bool.{Bool, true, false}
use lib.ListN.{length}
use Rattle.base.specs.Choice.{both}
use Rattle.layout.specs.Held.{word}
use Rattle.stored.specs.Held.{low_after, held_test}
use Rattle.scan_tests.specs.Tests.{bound_for}
use Rattle.scanned.proofs.Settled.{held_by_mark}
use Rattle.scan.proofs.first_ok.Statement.{statement}
use Rattle.scan.proofs.first_ok.Tie as tie

-- what is tested, by the mark's test
held : (m : tie.After-may_mark) (t : Bool) → m.may_mark.result ≡ t
    → let a = m.args in
    both t (low_after (bound_for (word a.s.now 0) a.limit) a.s.now 0 (length a.s.now))
    ≡ held_test a.limit a.s.now a.awaits 0 (length a.s.now)
held m t e =
    let a = m.args in
    ap (λ u. both u (low_after (bound_for (word a.s.now 0) a.limit) a.s.now 0 (length a.s.now)))
    (sym e ∙ m.may_mark.ensures)
    ∙ held_by_mark a.limit a.s.now a.awaits (length a.s.now)

returns : tie.Need-returns-then-not-may_mark
returns c = held c.before false c.if-not-may_mark.true

returns_2 : tie.Need-returns
returns_2 c =
    let l = c in
    let e = l in
    let ws = e.args.s.now in
    l.largest.ensures _
    ∙ ap (λ bound. low_after bound ws 0 (length ws)) c.bound_for.ensures
    ∙ held e.before.before.before.before true e.if-not-may_mark.false

pub first_ok_spec : {M : Type 1} → statement M
first_ok_spec =
    tie.close
    (tie.spec (λ c. c.requires.0) (λ c κs. tt) returns (λ c κs. c.requires.1)
    (λ c. c.requires.0) (λ c κs. tt) returns_2)
