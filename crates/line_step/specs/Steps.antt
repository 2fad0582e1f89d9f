-- What a line does, as the player calls the functions for it.
use Rattle.std.specs.Prelude.{List, ℕ, length, get_or, set}
use Rattle.line_forms.specs.declared.Line.{Line}
use Rattle.items.specs.Places.{no_item, oldest_within}
use Rattle.item_changes.specs.Places.{removed_within}
use Rattle.items.specs.declared.Item.{Item}
use Rattle.board_states.specs.declared.Stage.{Stage}
use Rattle.stage.specs.declared.Acted.{Acted}
use Rattle.turns.specs.Acts.{acted, acted_bytes}
use Rattle.line_links.specs.Links.{ends_of}

module _ (st : Stage) (items : List Item) (bytes : List ℕ) (line : Line) where
  -- where the oldest item of the line's link stands
  abbrev pub oldest : ℕ
  oldest = oldest_within items st.under (ends_of line).from (ends_of line).to

  unfoldable pub stepped : Acted
  stepped = acted st (length items) bytes line oldest (get_or items oldest no_item)

  unfoldable pub stepped_bytes : List ℕ
  stepped_bytes = acted_bytes st (length items) bytes line oldest (get_or items oldest no_item)

-- the headers after what the function for a line answers
unfoldable pub stepped_items : ℕ → Acted → List Item → List Item
stepped_items under r items =
    set (set (removed_within items under r.gone) r.at r.first) r.next r.second
