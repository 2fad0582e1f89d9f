-- `may_take` is the first of `take_tests`.
use borrow.Author.Rules.{rules}
use borrow.Author.Tests.{le-leb, lt-leb, eq-eqb, ne_eqb}
use mathlib.Core.Path.{◌≡◌, sym, ap, ◌∙◌}
use mathlib.Core.Bool.{false}
use mathlib.Core.List.{List}
use lib.Dec.{leb, eqb}
use Rattle.base.specs.Limits.{limits_of}
use Rattle.base.specs.Refusal.{Check}
use Rattle.base.proofs.Laws.{here, later}
use Rattle.frame.specs.Timing.{timing}
use Rattle.frame.specs.declared.Timing.{Timing}
use Rattle.node.specs.Calls.{is_early, is_foreign_work}
use Rattle.refusals.specs.Tests.{take_tests}
use Rattle.refusals.proofs.First.{stops_first, passes_first}
use Rattle.refusals.proofs.may_take.Statement.{statement}
use Rattle.refusals.proofs.may_take.Tie as tie

abbrev tests : tie.Start → List Check
tests s =
    let a = s.args in
    take_tests (limits_of a.b) a.nodes a.number a.here a.takes.0 a.from a.phase

returns : tie.Need-returns-then-nodes-from
returns c = stops_first (tests c.before) (here (le-leb _ _ c.if-nodes-from.true))

returns_2 : tie.Need-returns-then-from-number
returns_2 c =
    stops_first (tests c.before.before)
    (later (lt-leb _ _ c.if-nodes-from.false) (here (eq-eqb _ _ c.if-from-number.true)))

-- the sender is another node of the board, and the timing is looked up
module _ (c : tie.After-timing_of) where
  abbrev start : tie.Start
  start = c.before.before.before

  below : leb start.args.nodes start.args.from ≡ false
  below = lt-leb _ _ c.if-nodes-from.false

  other : eqb start.args.from start.args.number ≡ false
  other = ne_eqb _ _ c.if-from-number.false

  timed : {t : Timing} → c.timing_of.result ≡ t → timing start.args.phase start.args.here ≡ t
  timed e = sym c.timing_of.ensures ∙ e

returns_3 : tie.Need-returns-in-Early
returns_3 c =
    let t = c.before in
    let z = timed t c.in-Early.is in
    stops_first (tests (start t)) (later (below t) (later (other t) (here (ap is_early z))))

returns-4 : tie.Need-returns-in-Late
returns-4 c =
    let t = c.before in
    let z = timed t c.in-Late.is in
    stops_first (tests (start t)) (later (below t) (later (other t) (later (ap is_early z) (here (ap is_foreign_work z)))))

returns_5 : tie.Need-returns-in-Foreign
returns_5 c =
    let t = c.before in
    let z = timed t c.in-Foreign.is in
    stops_first (tests (start t)) (later (below t) (later (other t) (later (ap is_early z) (here (ap is_foreign_work z)))))

returns-6 : tie.Need-returns-then-taken_limit-takes
returns-6 c =
    let t = c.before.before.before.before in
    let z = timed t c.in-Now.is in
    stops_first (tests (start t))
    (later (below t)
    (later (other t)
    (later (ap is_early z)
    (later (ap is_foreign_work z) (here (le-leb _ _ (rw c.taken_limit.ensures at c.if-taken_limit-takes.true)))))))

returns-7 : tie.Need-returns
returns-7 c =
    let t = c.before.before.before.before in
    let z = timed t c.in-Now.is in
    let few = lt-leb _ _ (rw c.taken_limit.ensures at c.if-taken_limit-takes.false) in
    passes_first (tests (start t)) (below t, (other t, (ap is_early z, (ap is_foreign_work z, (few, tt)))))

pub may_take_spec : {M : Type 1} → statement M
may_take_spec =
    tie.close
    (tie.spec returns returns_2 (λ c κs. search rules) (λ c. search rules) (λ c. search rules) returns_3
    (λ c. search rules) returns-4 (λ c. search rules) returns_5 (λ c κs. search rules) returns-6 returns-7)
