-- The clauses of a step of pass 2 by the words of its frame.
use Rattle.std.specs.Prelude.{Bool, true, List, [], ◌∷◌, ℕ, ◌+◌, eqb}
use Rattle.base.specs.Choice.{choose}
use Rattle.base.specs.Limits.{Limits}
use Rattle.node.specs.Agree.{is_within}
use Rattle.pass_two.specs.declared.Confirmed.{Confirmed}

-- the clauses of pass 2, with whether the dimension is the last
abbrev pub second_tests : Limits → Bool → ℕ → ℕ → Confirmed → List Bool
second_tests L last issued agreed x =
    eqb x.mark 1
    ∷ true
    ∷ true
    ∷ is_within L (issued + x.issued.0)
    ∷ true
    ∷ eqb x.agreed agreed
    ∷ choose last (eqb (issued + x.issued.0) agreed) true
    ∷ []
