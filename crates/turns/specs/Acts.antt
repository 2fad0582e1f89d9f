-- What the function for a line answers: the headers are not handed to it, only how many are lent, and for a delivery
-- the place of the oldest item of the link and that item.
use Rattle.std.specs.Prelude.{List, ℕ, set}
use Rattle.line_forms.specs.declared.Line.{Line}
use Rattle.line_forms.specs.declared.Line.TheVariants.{Nodes, Sends, Delivers, Idles, Calls, Bad}
use Rattle.item_changes.specs.Places.{removed}
use Rattle.items.specs.declared.Item.{Item}
use Rattle.stage.specs.Board.{quiet}
use Rattle.board_states.specs.declared.Stage.{Stage}
use Rattle.stage.specs.declared.Acted.{Acted}
use Rattle.turn_send.specs.Sending.{send_act}
use Rattle.turn_send.specs.Idling.{idle_act}
use Rattle.turn_deliver.specs.Delivering.{deliver_act, deliver_act_bytes}
use Rattle.turn_call.specs.Calling.{call_act, call_act_bytes}

module _ (st : Stage) (headers : ℕ) (bytes : List ℕ) where
  unfoldable pub acted : Line → ℕ → Item → Acted
  acted (Nodes P) at it = quiet st headers st 0 17
  acted (Sends kind a b) at it = send_act st headers bytes kind a b
  acted (Delivers a b) at it = deliver_act st headers bytes a b at it
  acted (Idles a) at it = idle_act st headers a
  acted (Calls a) at it = call_act st headers bytes a
  acted Bad at it = quiet st headers st 0 17

  -- ---- The lent bytes after it

  unfoldable pub acted_bytes : Line → ℕ → Item → List ℕ
  acted_bytes (Nodes P) at it = bytes
  acted_bytes (Sends kind a b) at it = bytes
  acted_bytes (Delivers a b) at it = deliver_act_bytes st headers bytes a b at it
  acted_bytes (Idles a) at it = bytes
  acted_bytes (Calls a) at it = call_act_bytes st headers bytes a
  acted_bytes Bad at it = bytes

-- ---- The headers after it

unfoldable pub acted_items : ℕ → Acted → List Item → List Item
acted_items under r items =
    set (set (removed items under r.gone) r.at r.first) r.next r.second
