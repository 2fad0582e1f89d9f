-- `frame_in` answers `frame_in` of the state that the words hold, and leaves the words of the state that it gives.
use borrow.Author.Rules.{rules}
use native.Mathlib.Omega.{arith}
use mathlib.Core.Path.{◌≡◌}
use mathlib.Core.Bool.{false}
use Prim.Native.Nat.{ℕ}
use lib.ListN.{length}
use Rattle.base.specs.Limits.{limits_of}
use Rattle.base.proofs.Laws.{here}
use Rattle.base.proofs.Limits.{fits_of}
use Rattle.node.specs.Calls.{frame_in}
use Rattle.node.proofs.Ways.{frame_refuses}
use Rattle.layout.specs.Held.{dims_of, unpacked}
use Rattle.layout.proofs.Answers.{fails}
use Rattle.scanned.proofs.Known.{Known, failed, passed}
use Rattle.node_frames.proofs.frame_in.Statement.{statement}
use Rattle.node_frames.proofs.frame_in.Tie as tie

returns : tie.Need-returns-then-not-known
returns c =
    let s = c in
    let a = s in
    let L = limits_of a.args.b in
    let fit = fits_of a.args.b (omega (arith, a.well_formed.0)) in
    let bs = a.args.bytes.now in
    fails L fit (λ n. frame_in L n bs) a.args.state.now (length a.args.sums.now)
    (failed L _ false _ _ s.scan_of-known.ensures.0 c.if-not-known.true) (λ e. frame_refuses L _ bs (here e))

-- the state passes the test
module _ (c : tie.Else-not-known) where
  abbrev scan : tie.After-scan_of-known
  scan = c.before.before.before.before

  abbrev start : tie.Start
  start = scan.before.before.before.before.before

  abbrev room : ℕ
  room = length start.args.sums.now

  known : Known (limits_of start.args.b) room false start.args.state.now scan.scan_of-known.result
  known = passed _ room false _ _ scan.scan_of-known.ensures.0 c.if-not-known.false

  dims_are : scan.scan_of-known.result.dims ≡ dims_of start.args.state.now
  unfolding unpacked
  dims_are = known.dims

frame-on-requires : tie.Need-frame_on-requires
frame-on-requires c κs =
    let k = known c.before in
    (record { whole = k.whole; valid = k.valid }, dims_are c.before)

returns_2 : tie.Need-returns
returns_2 c =
    let d = c in
    let e = d.before.before.before.before in
    d.frame_on.ensures.on (room e) (known e).ready

pub frame_in_spec : {M : Type 1} → statement M
frame_in_spec =
    tie.close
    (tie.spec (λ c κs. search rules) (λ c. search rules) (λ c. search rules) returns frame-on-requires (λ c. search
    rules) (λ c. search rules) returns_2)
