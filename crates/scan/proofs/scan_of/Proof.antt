-- `scan_of`: the head, the tallies, then the steps.
use borrow.Author.Tests.{not-true, not-false}
use mathlib.Core.Path.{◌≡◌, refl, ap, ◌∙◌, subst}
use mathlib.Core.Bool.{true}
use mathlib.Core.List.{List}
use Prim.Native.Nat.{ℕ}
use lib.ListN.{length}
use Rattle.base.specs.Limits.{Limits, Fits, limits_of}
use Rattle.base.proofs.Limits.{fits_of}
use Rattle.survey.specs.declared.Spot.{Spot}
use Rattle.head.specs.Head.{spot_in}
use Rattle.head.proofs.Heads.{Passing, head_made, missing, passing, spot_known}
use Rattle.gather.specs.Gather.{tallied}
use Rattle.gather.proofs.Room as room
use Rattle.scanned.specs.Scan.{passes, Scanned}
use Rattle.scanned.proofs.Scanning.{missed, head_fails, tallies_fail}
use Rattle.scan.proofs.scan_of.Statement.{statement}
use Rattle.scan.proofs.scan_of.Tie as tie

-- what is handed
module _ (s : tie.Start) where
  abbrev L : Limits
  L = limits_of s.args.b

  abbrev ws : List ℕ
  ws = s.args.s.now

  abbrev before : List ℕ
  before = s.args.sums.now

  fit : Fits L
  fit = fits_of s.args.b s.well_formed.0.1.1.1.0.1

returns : tie.Need-returns-then-not-head
returns c =
    let s = c.before.before.before.before.before.before in
    missed (L s) s.args.looks (ws s) (before s) (before s) _
    (head_fails (L s) (length (before s)) (ws s)
    (missing (L s) (ws s) c.head_of-head.result c.head_of-head.ensures (not-true _ c.if-not-head.true)))
    c.no_scan.ensures refl

-- the head passes
module _ (e : tie.Else-not-head) where
  abbrev found : tie.After-head_of-head
  found = e.before.before

  abbrev s : tie.Start
  s = found.before.before.before

  abbrev here : Spot
  here = found.head_of-head.result.spot

  ok : found.head_of-head.result.ok ≡ true
  ok = not-false _ e.if-not-head.false

  head : Passing (L s) (ws s)
  head = passing (L s) (ws s) found.head_of-head.result found.head_of-head.ensures ok

  spot : here ≡ spot_in (L s) (ws s)
  spot = spot_known (L s) (ws s) found.head_of-head.result found.head_of-head.ensures ok

abbrev onward : tie.After-start-own → tie.Else-not-head
onward a = a.before.before

returns_2 : tie.Need-returns-then-not-own
returns_2 c =
    let a = c.before.before.before.before.before in
    let e = onward a in
    missed (L (s e)) (s e).args.looks (ws (s e)) (before (s e)) _ _
    (tallies_fail (L (s e)) (fit (s e)) (length (before (s e))) (ws (s e)) (head e) (here e) (spot e)
    (room.missing (L (s e)) (here e).dims (ws (s e)) (length (before (s e))) a.start-own.result a.start-own.ensures.0
    (not-true _ c.if-not-own.true)))
    c.no_scan-then-not-own.ensures a.start-own.ensures.1.1

scan-steps-requires : tie.Need-scan_steps-requires
scan-steps-requires c κs =
    let a = c.before.before.before.before.before.before.before.before in
    let e = onward a in
    let t = s e in
    let told = a.start-own.ensures.0 in
    let yes = not-false _ c.if-not-own.false in
    let good = room.passes (L t) (here e).dims (ws t) (length (before t)) a.start-own.result told yes in
    let known = room.totals_known (L t) (here e).dims (ws t) (length (before t)) a.start-own.result told yes in
    record {
      head = head_made (L t) (ws t) (head e);
      spot = spot e;
      tallies = ap (tallied (L t) (here e).dims (ws t)) a.start-own.ensures.1.1 ∙ good;
      started = a.start-own.ensures.1.0 good;
      sent = known.0;
      taken = known.1;
    }

returns_3 : tie.Need-returns
returns_3 c =
    let a = c.before.before.before.before.before.before.before.before.before.before.before in
    let t = s (onward a) in
    let r = c.scan_steps.ensures in
    let len = a.start-own.ensures.1.1 in (
      subst (λ m. Scanned (L t) m t.args.looks (ws t) c.scan_steps.result) len r.0,
      ((λ q. r.1.0 (ap (λ m. passes (L t) m (ws t)) len ∙ q)), r.1.1 ∙ len),
    )

pub scan_of_spec : {M : Type 1} → statement M
scan_of_spec =
    tie.close
    (tie.spec (λ c κs. tt) (λ c κs. tt) returns (λ c κs. tt) (λ c κs. tt)
    (λ c. c.start-own.ensures.1.1) returns_2 scan-steps-requires
    (λ c. (returns_3 c).1.1) returns_3)
