-- Limits that a build may have.
use Rattle.std.specs.Prelude.{◌^◌, ◌≤◌, ◌<◌}
use Rattle.base.specs.Limits.{Limits, field_limit, width}

-- the shells have room, and a number is four bytes
pub record Fit (L : Limits) : Type 0 where
  pub room : L.nodes ≤ 2 ^ width
  pub four : field_limit L < 4294967296
