-- The tests of a step of pass 2 by the words of its frame are its clauses.
use mathlib.Core.Path.{◌≡◌, refl}
use Prim.Native.Nat.{ℕ, suc}
use lib.Dec.{eqb}
use Rattle.base.specs.Limits.{Limits}
use Rattle.node.specs.Agree.{second_clauses}
use Rattle.pass_two.specs.Tried.{second_tests}
use Rattle.pass_two.specs.declared.Confirmed.{Confirmed}

pub second_tests_lem : (L : Limits) (p k issued agreed : ℕ) (x : Confirmed)
    → second_tests L (eqb (suc k) p) issued agreed x
    ≡ second_clauses L p k issued agreed (record { present = eqb x.mark 1; agreed = x.agreed; issued = x.issued })
unfolding second_clauses
second_tests_lem L p k issued agreed x = refl
