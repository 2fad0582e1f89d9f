-- `may_send` is the first of `send_tests`.
use borrow.Author.Rules.{rules}
use borrow.Author.Tests.{le-leb, lt-leb, eq-eqb, ne_eqb}
use mathlib.Core.Path.{◌≡◌, ap}
use mathlib.Core.Bool.{false, not}
use mathlib.Core.List.{List}
use lib.Dec.{leb, eqb}
use Rattle.base.specs.Limits.{limits_of}
use Rattle.base.specs.Refusal.{Check}
use Rattle.base.proofs.Laws.{here, later}
use Rattle.refusals.specs.Tests.{send_tests}
use Rattle.refusals.proofs.First.{stops_first, passes_first}
use Rattle.refusals.proofs.may_send.Statement.{statement}
use Rattle.refusals.proofs.may_send.Tie as tie

abbrev tests : tie.Start → List Check
tests s =
    let a = s.args in
    send_tests (limits_of a.b) a.nodes a.number a.busy a.sends.0 a.to

returns : tie.Need-returns-then-nodes-to
returns c = stops_first (tests c.before) (here (le-leb _ _ c.if-nodes-to.true))

returns_2 : tie.Need-returns-then-to-number
returns_2 c =
    stops_first (tests c.before.before)
    (later (lt-leb _ _ c.if-nodes-to.false) (here (eq-eqb _ _ c.if-to-number.true)))

-- the receiver is another node of the board
module _ (c : tie.Else-to-number) where
  below : let a = c.args in leb a.nodes a.to ≡ false
  below = lt-leb _ _ c.if-nodes-to.false

  other : let a = c.args in eqb a.to a.number ≡ false
  other = ne_eqb _ _ c.if-to-number.false

returns_3 : tie.Need-returns-then-busy-ne1
returns_3 c =
    let o = c.before in
    stops_first (tests o.before.before) (later (below o) (later (other o) (here (ap not (ne_eqb _ 1 c.if-busy-ne1.true)))))

returns-4 : tie.Need-returns-then-b-sends
returns-4 c =
    let o = c.before.before.before.before in
    stops_first (tests o.before.before)
    (later (below o)
    (later (other o) (later (ap not (eq-eqb _ 1 c.if-busy-ne1.false)) (here (le-leb _ _ c.if-b-sends.true)))))

returns_5 : tie.Need-returns
returns_5 c =
    let o = c.before.before.before.before in
    passes_first (tests o.before.before)
    (below o, (other o, (ap not (eq-eqb _ 1 c.if-busy-ne1.false), (lt-leb _ _ c.if-b-sends.false, tt))))

pub may_send_spec : {M : Type 1} → statement M
may_send_spec = tie.close (tie.spec returns returns_2 returns_3 (λ c. search rules) returns-4 returns_5)
