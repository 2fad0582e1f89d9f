-- A number of a frame beside its sum, and the clauses of pass 1 in their order.
use Rattle.std.specs.Prelude.{Bool, true, ℕ, ◌+◌, ltb, eqb}
use Rattle.base.specs.Choice.{choose}

-- 0 where the sum with a number is within the limit, 1 where the number alone is, else 2
abbrev pub excess : ℕ → ℕ → ℕ → ℕ
excess limit own more = choose (ltb limit more) 2 (choose (ltb limit (own + more)) 1 0)

-- the first clause that fails where a frame is stored, 7 where none does
abbrev pub clause_by : ℕ → ℕ → ℕ → ℕ → ℕ → Bool → ℕ → ℕ → ℕ
clause_by sent got taken gave excess last issued received =
    choose (eqb sent got)
    (choose (eqb taken gave)
    (choose (eqb excess 0) (choose (choose last (eqb issued received) true) 7 4) 3) 2) 1
