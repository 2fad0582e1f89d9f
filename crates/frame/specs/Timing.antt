-- The timing of an item, by its phase byte and the node's (rule F5).
use Rattle.std.specs.Prelude.{ℕ, ◌+◌, ◌-◌, ◌%◌, ◌==◌}
use Rattle.base.specs.Choice.{choose}
use Rattle.frame.specs.declared.Timing.{Timing}
use Rattle.frame.specs.declared.Timing.TheVariants.{Now, Early, Late, Foreign}

abbrev pub difference : ℕ → ℕ → ℕ
difference other node = (other + 256 - node) % 256

unfoldable pub timing : ℕ → ℕ → Timing
timing other node =
    choose (difference other node == 0) Now
    (choose (difference other node == 1) Early (choose (difference other node == 255) Late Foreign))
