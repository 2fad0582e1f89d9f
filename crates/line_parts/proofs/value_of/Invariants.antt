-- `value_of` is `value_after 0`: after i digits the number is below 10 ^ i, and the rest is added to it.
use Rattle.std.proofs.Common.{◌≡◌, ◌<◌, ◌^◌, drop}
use Rattle.line_parts.specs.Parts.{value_after}
use Rattle.line_parts.proofs.value_of.Given as goal

abbrev pub invariant-loop-x : goal.invariant-loop-x
invariant-loop-x l = (l.v < 10 ^ l.x-index) × (value_after 0 l.s ≡ value_after l.v (drop l.x-index l.s))
