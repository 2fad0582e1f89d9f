-- `pass_step`: the clauses are tried where the words are a frame's.
use mathlib.Core.Path.{◌≡◌, refl, sym, ◌∙◌}
use mathlib.Core.Bool.{true}
use lib.ListN.{length}
use Rattle.base.proofs.Laws.{clash}
use Rattle.walk_tests.specs.Tests.{first_fits}
use Rattle.adding.proofs.Fitting.{fitting_known}
use Rattle.pass_one.proofs.pass_step.Statement.{statement}
use Rattle.pass_one.proofs.pass_step.Tie as tie

returns : tie.Need-returns-then-not-first_fits
returns c =
    let f = c.first_fits in
    record {
      ok = rw (sym f.ensures ∙ c.if-not-first_fits.true);
      sums = λ q. clash (sym q);
      length = refl;
    }

-- the words are a frame's
fits : (e : tie.Else-not-first_fits)
    → let a = e.args in
    first_fits a.p a.k (length a.s.now) (length a.sums.now) ≡ true
fits e = let f = e.first_fits in sym f.ensures ∙ e.if-not-first_fits.false

agree-requires : tie.Need-agree-requires
agree-requires c κs =
    let a = c.args in
    fitting_known a.p a.k a.s.now a.sums.now (fits c.before)

returns_2 : tie.Need-returns
returns_2 c =
    let t = c in
    let a = t.agree.ensures in
    record { ok = rw (fits t.before.before.before.before) a.ok; sums = a.sums; length = a.length }

pub pass_step_spec : {M : Type 1} → statement M
pass_step_spec =
    tie.close (tie.spec (λ c κs. tt) returns agree-requires (λ c. (returns_2 c).length) returns_2)
