-- The tests of the scan: what is stored for a step, and T.
use Rattle.std.specs.Prelude.{Bool, ℕ, leb, eqb}
use Rattle.base.specs.Choice.{choose, both, either}

-- a mark may stand: 0, or 1 where a frame is awaited
abbrev pub may_mark : ℕ → Bool → Bool
may_mark mark awaited = either (eqb mark 0) (both (eqb mark 1) awaited)

-- what a number after a mark may come to
abbrev pub bound_for : ℕ → ℕ → ℕ
bound_for mark limit = choose (eqb mark 0) 0 limit

-- the words of a frame of pass 2 may be stored
abbrev pub may_confirm : ℕ → ℕ → ℕ → Bool → ℕ → Bool
may_confirm mark agreed issued awaited limit =
    both (may_mark mark awaited) (both (leb agreed (bound_for mark limit)) (leb issued (bound_for mark limit)))

-- T is what the pass gives
abbrev pub total_tested : ℕ → ℕ → ℕ → Bool
total_tested pass agreed received = eqb agreed (choose (eqb pass 1) 0 received)
