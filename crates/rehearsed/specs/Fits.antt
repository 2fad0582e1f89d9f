-- The text of every rehearsal fits the bytes that the program `rehearse` lends for it (rule S1).
use Rattle.std.specs.Prelude.{◌≡◌, List, ℕ, ◌≤◌, length, take}
use Rattle.items.specs.declared.Item.{Item}
use Rattle.printing.specs.Put.{put, ends}
use Rattle.text.specs.Text.{text_room}
use Rattle.rehearsal.specs.Play.{play}

abbrev pub HasRoom : List ℕ → Type 0
HasRoom text = length text ≤ text_room

-- FOR EVERY SCRIPT, too long or not, and whatever is lent for the items
pub record EveryTextFits : Type 0 where
  pub fits : (script : List ℕ) (items : List Item) (bytes : List ℕ) → HasRoom (play script items bytes).text
  -- so what is put into so many bytes, up to the place answered, is the whole text
  pub whole : (script : List ℕ) (items : List Item) (bytes out : List ℕ) → length out ≡ text_room
      → take (ends out 0 (play script items bytes).text) (put out 0 (play script items bytes).text)
      ≡ (play script items bytes).text
