-- `walk`: its loop carries the walk over the stored frames, as `Carries` says, by the definition `walked`.
use borrow.Author.Tests.{not-true, not-false}
use native.Mathlib.Omega.{arith}
use mathlib.Core.Path.{◌≡◌, refl, sym, ap, ◌∙◌, subst}
use mathlib.Core.Bool.{true}
use mathlib.Core.List.{List}
use Prim.Native.Nat.{ℕ, ◌+◌, ◌-◌, ◌<◌, ◌≤◌}
use lib.ListN.{length}
use Rattle.base.specs.Limits.{Limits, Fits, limits_of, width}
use Rattle.base.proofs.Limits.{fits_of}
use Rattle.node.specs.Sums.{dims}
use Rattle.survey.specs.declared.Spot.{Spot}
use Rattle.survey.proofs.Steps.{few}
use Rattle.layout.specs.Places.{at_first, first_words, second_words}
use Rattle.layout.specs.Held.{unpacked}
use Rattle.wire.specs.Wire.{part}
use Rattle.scanned.specs.Pieces.{Carries}
use Rattle.scanned.proofs.Lent.{first_lent, second_lent, first_slice, second_slice}
use Rattle.scanned.proofs.Places.{Placed, placed, board_fits, tallies_fit}
use Rattle.scanned.proofs.Walking.{carries_start, lent, step_stops, step_more, ended}
use Rattle.scan.proofs.walk.Statement.{statement}
use Rattle.scan.proofs.walk.Tie as tie

abbrev invariant-loop : tie.invariant-loop-k
invariant-loop b s sums₀ spot looks p past walked₀ at₀ k₀ sums walked at k =
    (walked.ok ≡ true) × Carries (limits_of b) s sums₀ looks k at sums walked

abbrev decreases-loop : tie.decreases-loop-k
decreases-loop b s sums₀ spot looks p past walked₀ at₀ k₀ sums walked at k = p - k

-- what is handed
module _ (s : tie.Start invariant-loop decreases-loop) where
  abbrev L : Limits
  L = limits_of s.args.b

  abbrev ws : List ℕ
  ws = s.args.s.now

  abbrev first : List ℕ
  first = s.args.sums.now

  abbrev here : Spot
  here = s.args.spot

  fit : Fits L
  fit = fits_of s.args.b s.well_formed.0.1.1.1.0.1

  dims_are : here.dims ≡ dims (unpacked ws)
  dims_are = ap (λ (x : Spot). x.dims) s.requires.spot

  few_dims : here.dims ≤ width
  few_dims = subst (λ d. d ≤ width) (sym dims_are) (few L fit (unpacked ws) s.requires.board)

loop_holds : tie.Need-loop-k-init invariant-loop decreases-loop
loop_holds c =
    let s = c.before.before.before in
    (refl, carries_start (L s) (ws s) (first s) (here s) s.args.sends s.args.looks s.requires _ refl refl)

-- at dimension k
module _ (i : tie.In-loop-k invariant-loop decreases-loop) where
  abbrev begun : tie.Start invariant-loop decreases-loop
  begun = i.before.before.before.before.before

  abbrev k : ℕ
  k = i.loop-k.k

  abbrev at : ℕ
  at = i.loop-k.at

  abbrev p : ℕ
  p = (here begun).dims

  held : Carries (L begun) (ws begun) (first begun) begun.args.looks k at i.loop-k.sums i.loop-k.walked
  held = i.loop-k.invariant.1

  low : k < dims (unpacked (ws begun))
  low = subst (λ d. k < d) (dims_are begun) i.loop-k-test.true

  place : at ≡ at_first p k
  place = held.place ∙ ap (λ d. at_first d k) (sym (dims_are begun))

  bound : dims (unpacked (ws begun)) ≤ width
  bound = few (L begun) (fit begun) (unpacked (ws begun)) begun.requires.board

  places : Placed p k at (at + first_words p k) (length (ws begun))
  places = placed (ws begun) p k at (dims_are begun) held.place i.loop-k-test.true bound begun.requires.long

  one_is : part (ws begun) at (at + first_words p k - at) ≡ first_lent (ws begun) (dims (unpacked (ws begun))) k
  one_is = first_slice (ws begun) p k at place ∙ ap (λ d. first_lent (ws begun) d k) (dims_are begun)

  two_is : part (ws begun) (at + first_words p k) (at + first_words p k + second_words - (at + first_words p k))
      ≡ second_lent (ws begun) (dims (unpacked (ws begun))) k
  two_is = second_slice (ws begun) p k at place ∙ ap (λ d. second_lent (ws begun) d k) (dims_are begun)

step-requires : tie.Need-step-walked-requires invariant-loop decreases-loop
step-requires c κs =
    let i = c.before.before.before in
    let s = begun i in
    lent (L s) (fit s) (ws s) (first s) (here s) _ s.requires s.args.looks (k i) (at i) _ _ (held i) (low i) _ _ (one_is i)
    (two_is i) _ i.past_of-past.ensures

same_length : tie.Need-shape_of-sums-then-not-walked invariant-loop decreases-loop
same_length c =
    c.step-walked.ensures.first.length ∙ (held c.before.before.before.before.before.before.before.before).length

returns : tie.Need-returns-then-not-walked invariant-loop decreases-loop
returns c =
    let i = c.before.before.before.before.before.before.before.before in
    let s = begun i in
    step_stops (L s) (fit s) (ws s) (first s) (here s) _ s.requires s.args.looks (k i) (at i) _ _ (held i) (low i) _ _
    (one_is i) (two_is i) _ i.past_of-past.ensures _ _ c.step-walked.ensures (not-true _ c.if-not-walked.true)

abbrev onward : tie.Else-not-walked invariant-loop decreases-loop → tie.In-loop-k invariant-loop decreases-loop
onward e = e.before.before.before.before.before.before.before.before

loop_again : tie.Need-loop-k-preserved invariant-loop decreases-loop
loop_again c =
    let a = c in
    let i = onward c in
    let s = begun i in
    let ok = not-false _ c.if-not-walked.false in (
      ok,
      step_more (L s) (fit s) (ws s) (first s) (here s) _ s.requires s.args.looks (k i) (at i) _ _ (held i) (low i) _ _
          (one_is i) (two_is i) _ i.past_of-past.ensures _ _ a.step-walked.ensures ok,
    )

returns_2 : tie.Need-returns invariant-loop decreases-loop
returns_2 c =
    let l = c in
    let s = c.before.before.before.before.before in
    ended (L s) (fit s) (ws s) (first s) (here s) _ s.requires s.args.looks _ _ _ _ l.loop-k.invariant.1
    (omega (arith, dims_are s, c.loop-k-test.false)) l.loop-k.invariant.0

pub walk_spec : {M : Type 1} → statement M
walk_spec =
    tie.close
    (tie.spec invariant-loop decreases-loop (λ c κs. tt) (λ c. board_fits _ (few_dims c.before.before.before))
    (λ c. tallies_fit _ (few_dims c.before.before.before)) loop_holds (λ c. (places c).below) (λ c. (places c).shells)
    (λ c. (places c).count) (λ c. (places c).middle_fits) (λ c. (places c).end_fits) (λ c. (places c).wide_at)
    (λ c. (places c).wide_middle) (λ c. (places c).scaled_at) (λ c. (places c).first_from) (λ c. (places c).first_from)
    (λ c. (places c).first_to) (λ c. (places c.before).wide_middle) (λ c. (places c.before).wide_end)
    (λ c. (places c.before).scaled_middle) (λ c. (places c.before).second_from) (λ c. (places c.before).second_from)
    (λ c. (places c.before).second_to) step-requires same_length returns (λ c. (places (onward c)).next)
    (λ c. (places (onward c)).less) loop_again (λ c. c.loop-k.invariant.1.length) returns_2)
