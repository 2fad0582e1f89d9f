-- `take_from` answers `take` on the words.
use borrow.Author.Rules.{rules}
use native.Mathlib.Omega.{arith}
use mathlib.Core.Bool.{false}
use Prim.Native.Nat.{ℕ}
use lib.ListN.{length}
use Rattle.base.specs.Limits.{limits_of}
use Rattle.base.proofs.Limits.{fits_of}
use Rattle.base.proofs.Laws.{here}
use Rattle.node.specs.Calls.{take}
use Rattle.node.proofs.Ways.{take_refuses}
use Rattle.scanned.proofs.Known.{Known, passed}
use Rattle.node_take.proofs.Counted.{no_state_lem}
use Rattle.node_take.proofs.take_from.Statement.{statement}
use Rattle.node_take.proofs.take_from.Tie as tie

returns : tie.Need-returns-then-not-known
returns c =
    let s = c in
    let a = s in
    let L = limits_of a.args.b in
    let fit = fits_of a.args.b (omega (arith, a.well_formed.0)) in
    no_state_lem L fit _ a.args.state.now _ s.scan_of-known.ensures.0 (λ n. take L n a.args.kind a.args.from a.args.phase)
    c.if-not-known.true (λ e. take_refuses L _ _ _ _ (here e))

-- the state passes the test
module _ (c : tie.Else-not-known) where
  abbrev scan : tie.After-scan_of-known
  scan = c.before.before.before.before

  abbrev start : tie.Start
  start = scan.before.before.before.before

  abbrev room : ℕ
  room = length start.args.sums.now

  known : Known (limits_of start.args.b) room false start.args.state.now scan.scan_of-known.result
  known = passed _ room false _ _ scan.scan_of-known.ensures.0 c.if-not-known.false

take-on-requires : tie.Need-take_on-requires
take-on-requires c κs =
    let k = known c.before.before in
    (record { whole = k.whole; valid = k.valid }, k.dims, k.takes)

returns_2 : tie.Need-returns
returns_2 c =
    let d = c in
    let e = d.before.before.before.before.before in
    d.take_on.ensures.on (room e) (known e).ready

pub take_from_spec : {M : Type 1} → statement M
take_from_spec =
    tie.close
    (tie.spec (λ c κs. search rules) (λ c. search rules) (λ c. search rules) returns take-on-requires (λ c. search
    rules) (λ c. search rules) returns_2)
