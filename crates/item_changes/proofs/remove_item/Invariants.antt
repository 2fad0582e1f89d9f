-- What is left to move of the list as it stands gives what the whole removal gives of the list that was lent.
use Rattle.std.proofs.Common.{◌-◌, ◌≡◌, length}
use Rattle.item_changes.specs.Places.{moved}
use Rattle.item_changes.proofs.remove_item.Given as goal

abbrev pub invariant-loop-i : goal.invariant-loop-i
invariant-loop-i l =
    (length l.items ≡ length l.fn.items)
    × (moved l.items l.i (l.i-end - l.i) ≡ moved l.fn.items l.at (l.i-end - l.at))
