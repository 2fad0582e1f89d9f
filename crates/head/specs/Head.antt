-- What is known of lent words by their head: whether they are enough for its board, whether it passes, and where the node
-- is.
use Rattle.std.specs.Prelude.{Bool, true, false, not, List, ℕ, ltb, leb, length}
use Rattle.base.specs.Choice.{choose, both}
use Rattle.base.specs.Limits.{Limits, field_limit}
use Rattle.tree.specs.Lookups.{bad_board}
use Rattle.node.specs.Sums.{dims}
use Rattle.node.specs.State.{board_ok, position_ok, busy_ok}
use Rattle.survey.specs.declared.Spot.{Spot}
use Rattle.survey.specs.Spots.{spot_at}
use Rattle.layout.specs.Places.{at_nodes, at_phase, at_busy, at_flag, state_words}
use Rattle.layout.specs.Held.{word, dims_of, unpacked}
use Rattle.head.specs.declared.Head.{Head}

-- what the test of a step knows of the node
abbrev pub spot_in : Limits → List ℕ → Spot
spot_in L ws =
    let n = unpacked ws in
    spot_at L (dims n) n.nodes n.number n.pass n.dim n.agreed

-- enough words for a board that the build has, those of the head in the range of what they stand for, and a head that
-- passes with a T within the limit
unfoldable pub head_passes : Limits → List ℕ → Bool
head_passes L ws =
    let n = unpacked ws in
    both (not (bad_board L (word ws at_nodes)))
    (both (leb (state_words (dims_of ws)) (length ws))
    (both (ltb (word ws at_phase) 256)
    (both (ltb (word ws at_busy) 2)
    (both (ltb (word ws at_flag) 2)
    (both (board_ok L n) (both (position_ok n) (both (busy_ok n) (leb n.agreed (field_limit L)))))))))

abbrev pub no_head : Head
no_head = record { ok = false; spot = record { dims = 0; alone = false; pass = 0; dim = 0; agreed = 0 } }

unfoldable pub headed : Limits → List ℕ → Head
headed L ws = choose (head_passes L ws) (record { ok = true; spot = spot_in L ws }) no_head
