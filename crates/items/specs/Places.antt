-- The items under way: headers in a list that the caller lends, oldest first (rule S5).
use Rattle.std.specs.Prelude.{Bool, List, ℕ, zero, suc, ◌+◌, min, eqb, length, get_or}
use Rattle.base.specs.Choice.{choose, both}
use Rattle.base.specs.declared.Kind.TheVariants.{Job, Note}
use Rattle.base.specs.declared.Kind.{Kind}
use Rattle.items.specs.declared.Item.{Item}

-- the number by which a header tells that its item is a job or a note; a frame has 1
abbrev pub mark : Kind → ℕ
mark Job = 0
mark Note = 2

abbrev pub no_item : Item
no_item = record { from = 0; to = 0; kind = 0; phase = 0 }

abbrev pub on_link : Item → ℕ → ℕ → Bool
on_link it a b = both (eqb it.from a) (eqb it.to b)

-- the first place, of count from i on, whose item is on the link from a to b; i + count where there is none
unfoldable pub place_from : List Item → ℕ → ℕ → ℕ → ℕ → ℕ
place_from items a b i zero = i
place_from items a b i (suc count) =
    choose (on_link (get_or items i no_item) a b) i (place_from items a b (i + 1) count)

-- where the oldest of the first n items on a link stands; n where there is none
abbrev pub oldest_at : List Item → ℕ → ℕ → ℕ → ℕ
oldest_at items n a b = place_from items a b 0 n

-- where n is above the number of places lent, there are as many items as places
abbrev pub oldest_within : List Item → ℕ → ℕ → ℕ → ℕ
oldest_within items n a b = oldest_at items (min n (length items)) a b
