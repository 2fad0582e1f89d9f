-- `go_idle` answers `idle` on the words.
use borrow.Author.Rules.{rules}
use native.Mathlib.Omega.{arith}
use mathlib.Core.Bool.{false}
use mathlib.Core.List.{List}
use Prim.Native.Nat.{ℕ}
use lib.ListN.{length}
use Rattle.std.proofs.Common.{Ok}
use Rattle.base.specs.Limits.{Limits, Fits, limits_of}
use Rattle.base.proofs.Limits.{fits_of}
use Rattle.base.proofs.Laws.{here}
use Rattle.node.specs.Calls.{idle}
use Rattle.node.specs.declared.Accepted.TheVariants.{Done}
use Rattle.node.proofs.Ways.{idle_refuses, idle_does}
use Rattle.layout.proofs.Writes.{put_busy}
use Rattle.layout.proofs.Answers.{gives}
use Rattle.scanned.proofs.Known.{Known, passed}
use Rattle.node_take.proofs.Counted.{no_state_lem, tallies_room}
use Rattle.node_calls.proofs.go_idle.Statement.{statement}
use Rattle.node_calls.proofs.go_idle.Tie as tie

fit : (c : tie.Start) → Fits (limits_of c.args.b)
fit c = fits_of c.args.b (omega (arith, c.well_formed.0))

returns : tie.Need-returns-then-not-known
returns c =
    let s = c in
    let a = s.before.before.before.before.before.before.before.before in
    let L = limits_of a.args.b in
    no_state_lem L (fit a) _ a.args.state.now _ s.scan_of-known.ensures.0 (λ n. idle L n) c.if-not-known.true
    (λ e. idle_refuses L _ (here e))

module _ (c : tie.Else-not-known) where
  abbrev start : tie.Start
  start = c.before.before.before.before.before.before.before.before

  abbrev limits : Limits
  limits = limits_of start.args.b

  abbrev ws : List ℕ
  ws = start.args.state.now

  abbrev room : ℕ
  room = length start.args.sums.now

  known : Known limits room false ws c.scan_of-known.result
  known = passed limits room false ws _ c.scan_of-known.ensures.0 c.if-not-known.false

slice_write_state : tie.Need-bounds-state-3
slice_write_state c = omega (arith, tallies_room (limits c) (ws c) (known c).whole)

returns_2 : tie.Need-returns
returns_2 c =
    (gives (limits c) (fit (start c)) (λ n. idle (limits c) n) (ws c) (Ok Done) _ _ (idle_does (limits c) _ (known c).valid)
    (put_busy (limits c) (ws c) (known c).whole false)
    ).on (room c) (known c).ready

pub go_idle_spec : {M : Type 1} → statement M
go_idle_spec =
    tie.close
    (tie.spec
    (λ c κs. search rules)
    (λ c. search rules)
    (λ c. search rules)
    returns
    slice_write_state
    (λ c. search rules)
    (λ c. search rules)
    returns_2)
