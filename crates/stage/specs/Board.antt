-- The items of a rehearsal, and what becomes of a line.
use Rattle.std.specs.Prelude.{Bool, not, List, ℕ, ltb, leb}
use Rattle.base.specs.Choice.{both}
use Rattle.base.specs.Limits.{base}
use Rattle.base.specs.declared.Kind.{Kind}
use Rattle.tree.specs.Lookups.{bad_board}
use Rattle.node.specs.declared.Node.{Node}
use Rattle.items.specs.Places.{mark, no_item}
use Rattle.items.specs.declared.Item.{Item}
use Rattle.under_way.specs.Frames.{room_for}
use Rattle.board_states.specs.declared.Stage.{Stage}
use Rattle.stage.specs.declared.Acted.{Acted}

abbrev pub work_item : Kind → ℕ → ℕ → Node → Item
work_item kind a b n = record { from = a; to = b; kind = mark kind; phase = n.phase }

abbrev pub frame_item : ℕ → ℕ → Node → Item
frame_item a b n = record { from = a; to = b; kind = 1; phase = n.phase }

-- an item stands at a place: one of those under way, all of them lent, on a board of the stated size
abbrev pub is_there : Stage → ℕ → List ℕ → ℕ → Bool
is_there st headers bytes at =
    both (ltb at st.under) (both (leb st.under (room_for headers bytes)) (not (bad_board base st.size)))

-- what became of a line where no header goes and none is put, by how many are under way and how many lent
abbrev pub still : ℕ → ℕ → Stage → ℕ → ℕ → Acted
still under headers after actor answer =
    record {
      stage = after;
      actor = actor;
      answer = answer;
      gone = under;
      at = headers;
      first = no_item;
      next = headers;
      second = no_item;
    }

module _ (st : Stage) (headers : ℕ) where
  abbrev pub quiet : Stage → ℕ → ℕ → Acted
  quiet after actor answer = still st.under headers after actor answer

  -- one header is put after the last
  abbrev pub put_one : Stage → ℕ → ℕ → Item → Acted
  put_one after actor answer it =
      record {
        stage = after;
        actor = actor;
        answer = answer;
        gone = st.under;
        at = st.under;
        first = it;
        next = headers;
        second = no_item;
      }
