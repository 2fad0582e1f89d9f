-- Definitions that only contracts of private functions and laws cite: the state test over small pieces of the state.
use Rattle.std.specs.Prelude.{Bool, true, not, ℕ, ltb, leb, eqb}
use Rattle.base.specs.Choice.{choose, both, either, every}
use Rattle.base.specs.Limits.{Limits, field_limit, width}
use Rattle.frame.specs.Frame.{has_shell, number_ok}
use Rattle.node.specs.Sums.{Field, sent_in, taken_in, all_sent, all_taken, number}
use Rattle.node.specs.Agree.{first_clauses, second_clauses, all_hold}
use Rattle.node.specs.declared.Stored.{Stored}
use Rattle.node.specs.declared.Confirm.{Confirm}
use Rattle.survey.specs.declared.Spot.{Spot}

-- ---- The head of the state

abbrev pub position_test : ℕ → ℕ → ℕ → Bool
position_test p pass dim =
    choose (eqb p 0) (both (eqb pass 1) (eqb dim 0)) (both (either (eqb pass 1) (eqb pass 2)) (ltb dim p))

abbrev pub busy_test : Bool → ℕ → ℕ → Bool → Bool
busy_test busy pass dim flag = choose busy (both (eqb pass 1) (both (eqb dim 0) flag)) true

abbrev pub head_test : ℕ → ℕ → ℕ → ℕ → ℕ → Bool → Bool → Bool
head_test p nodes number pass dim busy flag =
    both (ltb number nodes) (both (position_test p pass dim) (busy_test busy pass dim flag))

-- ---- What is stored for a dimension

abbrev pub pair_ok : Limits → Bool → ℕ → ℕ → Bool
pair_ok L has x y = both (number_ok L has x) (number_ok L has y)

-- the tallies of shell m
unfoldable pub shell_ok : Limits → ℕ → ℕ → Stored → ℕ → Bool
shell_ok L p k x m = pair_ok L (both x.present (has_shell p k m)) (number x (sent_in m)) (number x (taken_in m))

unfoldable pub first_test : Limits → Bool → ℕ → ℕ → Stored → Bool
first_test L awaits p k x =
    both (either awaits (not x.present))
    (both (every 0 width (shell_ok L p k x)) (pair_ok L x.present (number x all_sent) (number x all_taken)))

unfoldable pub second_test : Limits → Bool → Confirm → Bool
second_test L awaits y = both (either awaits (not y.present)) (pair_ok L y.present y.agreed y.issued.0)

-- ---- The steps

unfoldable pub awaits_at : Spot → ℕ → Bool
awaits_at s k = both (ltb k s.dims) (not (both (eqb k 0) s.alone))

-- dimension k of a pass is before the position
abbrev pub first_past : Spot → ℕ → Bool
first_past s k = either (not (eqb s.pass 1)) (ltb k s.dim)

abbrev pub second_past : Spot → ℕ → Bool
second_past s k = both (not (eqb s.pass 1)) (ltb k s.dim)

unfoldable pub first_held : Limits → Spot → ℕ → (Field → ℕ) → Stored → Bool
first_held L s k own x = either (not (first_past s k)) (all_hold (first_clauses L s.dims k own x))

unfoldable pub second_held : Limits → Spot → ℕ → ℕ → Confirm → Bool
second_held L s k issued y = either (not (second_past s k)) (all_hold (second_clauses L s.dims k issued s.agreed y))

unfoldable pub step_test : Limits → Spot → ℕ → (Field → ℕ) → ℕ → Stored → Confirm → Bool
step_test L s k own issued x y =
    both (first_test L (awaits_at s k) s.dims k x)
    (both (second_test L (awaits_at s k) y)
    (either (not (awaits_at s k)) (both (first_held L s k own x) (second_held L s k issued y))))

-- ---- T

abbrev pub total_test : Limits → ℕ → ℕ → ℕ → Bool
total_test L pass agreed received = both (leb agreed (field_limit L)) (eqb agreed (choose (eqb pass 1) 0 received))
