-- `step`: pass 1, then pass 2 where that passes.
use borrow.Author.Tests.{not-true, not-false}
use mathlib.Core.Path.{refl, sym, ap, ◌∙◌}
use Rattle.base.specs.Limits.{Limits, limits_of}
use Rattle.base.proofs.Laws.{clash}
use Rattle.scanned.specs.Pieces.{Told, FirstDone}
use Rattle.scanned.proofs.Stepping.{steps_told}
use Rattle.confirming.specs.Step.{confirm_step}
use Rattle.confirming.proofs.Steps.{second_is}
use Rattle.scan.proofs.step.Statement.{statement}
use Rattle.scan.proofs.step.Tie as tie

-- once pass 1 is done
module _ (f : tie.After-first_step-one) where
  abbrev waits : tie.After-awaits_at-awaits
  waits = f.before.before

  abbrev s : tie.Start
  s = waits.before.before.before.before

  abbrev L : Limits
  L = limits_of s.args.b

  -- what both passes are handed
  handed : Told s.args.spot s.args.spot.dims s.args.k waits.awaits_at-awaits.result s.args.past
  handed =
      steps_told L s.args.first.now s.args.second.now s.args.sums.now s.args.spot s.args.past
      s.args.k s.requires waits.awaits_at-awaits.result waits.awaits_at-awaits.ensures

  first_done : FirstDone L s.args.first.now s.args.spot s.args.past s.args.k s.args.walked
      s.args.sums.now f.first_step-one.new.sums f.first_step-one.result
  first_done = f.first_step-one.ensures s.args.spot handed s.requires.summed

returns : tie.Need-returns-then-not-one
returns c =
    let f = c.before.before.before.before in
    let e = not-true _ c.if-not-one.true in
    record {
      middle = f.first_step-one.result;
      first = first_done f;
      stops = λ q. q;
      second = λ q. clash (sym q ∙ e);
    }

returns_2 : tie.Need-returns
returns_2 c =
    let f = c.before.before.before.before.before.before in
    let a = (s f).args in
    let one = f.first_step-one.result in
    let waits = (waits f).awaits_at-awaits.result in
    let ok = not-false _ c.if-not-one.false in
    let done = c.second_step.ensures
    ∙ ap (λ x. confirm_step (L f) x a.spot.dims a.k waits a.past one a.spot.agreed) c.confirmed_in-frame.ensures in
    record {
      middle = one;
      first = first_done f;
      stops = λ q. clash (sym ok ∙ q);
      second =
          λ q. second_is (L f) a.second.now a.spot.dims a.k waits a.past one a.spot.agreed _ done a.spot
          (handed f) refl (s f).requires.agreed;
    }

pub step_spec : {M : Type 1} → statement M
step_spec =
    tie.close
    (tie.spec (λ c κs. tt) (λ c κs. c.requires.first)
    (λ c. (first_done c.before.before.before.before).length) returns (λ c κs. (s c.before.before.before.before).requires.second)
    (λ c κs. tt) (λ c. (first_done c.before.before.before.before.before.before).length) returns_2)
