-- The places below a are filled.
use Rattle.std.proofs.Common.{◌≡◌}
use Rattle.opening_parts.proofs.Starts.{filled}
use Rattle.opening_parts.proofs.open_stage.Given as goal

abbrev pub invariant-loop-a : goal.invariant-loop-a
invariant-loop-a l = l.states ≡ filled l.size l.a
