-- The headers of the items under way after one of them has gone.
use Rattle.std.specs.Prelude.{List, ℕ, zero, suc, ◌+◌, ◌-◌, leb, length, get_or, set}
use Rattle.base.specs.Choice.{choose}
use Rattle.items.specs.Places.{no_item}
use Rattle.items.specs.declared.Item.{Item}

-- count items, from i + 1 on, each one place down
unfoldable pub moved : List Item → ℕ → ℕ → List Item
moved items i zero = items
moved items i (suc count) = moved (set items i (get_or items (i + 1) no_item)) (i + 1) count

-- rule S6: of n items the one at a place goes, and those after it move down; the last place keeps what it had
abbrev pub removed : List Item → ℕ → ℕ → List Item
removed items n at = moved items at (n - (at + 1))

-- where n is above the number of places lent, nothing moves
abbrev pub removed_within : List Item → ℕ → ℕ → List Item
removed_within items n at = choose (leb n (length items)) (removed items n at) items
