-- The headers that a rehearsal begins with.
use Rattle.std.specs.Prelude.{List, replicate}
use Rattle.items.specs.Places.{no_item}
use Rattle.items.specs.declared.Item.{Item}

-- 512 places for headers, all zeros
abbrev pub no_items : List Item
no_items = replicate 512 no_item
