-- `scan_steps`: the walk over the steps, then T.
use mathlib.Core.Path.{refl, sym, ◌∙◌, subst}
use mathlib.Core.List.{List}
use Prim.Native.Nat.{ℕ, ◌≤◌}
use lib.ListN.{length}
use Rattle.base.specs.Limits.{Limits, Fits, limits_of}
use Rattle.base.proofs.Laws.{both_true}
use Rattle.base.proofs.Limits.{fits_of}
use Rattle.survey.specs.declared.Spot.{Spot}
use Rattle.layout.specs.Places.{sum_words}
use Rattle.head.proofs.Heads.{Passing, head_known}
use Rattle.gather.proofs.Room.{Tallied, tallied_known}
use Rattle.scanned.proofs.Places.{Total, total, board_fits}
use Rattle.scanned.proofs.Scanning.{missed, walking, settled_not, scanned_all}
use Rattle.scan.proofs.scan_steps.Statement.{statement}
use Rattle.scan.proofs.scan_steps.Tie as tie

-- what is handed
module _ (s : tie.Start) where
  abbrev L : Limits
  L = limits_of s.args.b

  abbrev ws : List ℕ
  ws = s.args.s.now

  abbrev before : List ℕ
  before = s.args.sums.now

  abbrev here : Spot
  here = s.args.spot

  fit : Fits L
  fit = fits_of s.args.b s.well_formed.0.1.1.1.0.1

  head : Passing L ws
  head = head_known L ws s.requires.head

  tallies : Tallied L here.dims ws (length before)
  tallies = tallied_known L here.dims ws (length before) s.requires.tallies

walk-requires : tie.Need-walk-walked-requires
walk-requires c κs =
    let s = c.before.before.before in
    walking (L s) (fit s) (length (before s)) (ws s) (head s) (here s) s.requires.spot (tallies s) (before s) refl
    s.requires.started _ s.requires.sent

abbrev begun : tie.After-walk-walked → tie.Start
begun w = w.before.before.before.before

taken : (w : tie.After-walk-walked) → Total (here (begun w)).dims (length w.walk-walked.new.sums)
taken w =
    let r = (tallies (begun w)).room in
    total _ _ r.few (subst (λ n. sum_words (here (begun w)).dims ≤ n) (sym w.walk-walked.ensures.length) r.wide)

returns : tie.Need-returns-then-not-total_ok
returns c =
    let w = c.before.before.before.before.before.before.before in
    let s = begun w in
    missed (L s) s.args.looks (ws s) (before s) _ _
    (settled_not (L s) (fit s) (length (before s)) (ws s) (head s) (here s) s.requires.spot (tallies s) _ _ _ _ w.walk-walked.ensures
    (sym c.total_ok.ensures ∙ c.if-not-total_ok.true))
    c.no_scan.ensures w.walk-walked.ensures.length

returns_2 : tie.Need-returns
returns_2 c =
    let w = c.before.before.before.before.before.before.before.before in
    let s = begun w in
    let q = both_true _ _ (sym c.total_ok.ensures ∙ c.if-not-total_ok.false) in
    scanned_all (L s) (fit s) (length (before s)) (ws s) (head s) (here s) s.requires.spot (tallies s) _ _ _ _ w.walk-walked.ensures
    q.0 q.1 (before s) refl w.walk-walked.ensures.length _ _ s.requires.sent s.requires.taken

pub scan_steps_spec : {M : Type 1} → statement M
scan_steps_spec =
    tie.close
    (tie.spec walk-requires (λ c. board_fits _ (tallies (begun c.before.before.before)).room.few)
    (λ c. (taken c.before.before.before).place) (λ c. (taken c.before.before.before).wide)
    (λ c. (taken c.before.before.before).scaled) (λ c. (taken c.before.before.before.before).within) (λ c κs. tt)
    (λ c κs. tt) (λ c. c.walk-walked.ensures.length) returns
    (λ c. c.walk-walked.ensures.length) returns_2)
