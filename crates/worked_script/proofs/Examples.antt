-- The worked script (rule S10), from its bytes to the bytes that are printed, by computation.
use mathlib.Core.Path.{◌≡◌, refl}
use mathlib.Core.List.{List, [], ◌∷◌}
use Prim.Native.Nat.{ℕ}
use lib.ListN.{replicate}
use Rattle.tree.specs.Tree.{smallest_from, dimension, part, run_below, run_of, place_in, place, awaited, receivers}
use Rattle.tree.specs.Tree.{distance_below, distance}
use Rattle.frame.specs.Numbers.{four_bytes, bytes_of, word_at}
use Rattle.frame.specs.Frame.{frame_length, numbers_of, frame_bytes, shell_at, fields_of, numbers_ok}
use Rattle.frame.specs.Timing.{timing}
use Rattle.node.specs.Sums.{own, own_issued}
use Rattle.node.specs.Agree.{first_clauses, second_clauses, agrees}
use Rattle.node.specs.State.{board_ok, position_ok, tallies_ok, total_ok, first_ok, second_ok, passed_ok, busy_ok, valid}
use Rattle.node.specs.Calls.{fresh, send, take, idle, gotten, frame_in}
use Rattle.node.specs.Barrier.{frame_due, barrier}
use Rattle.layout.specs.Places.{at_first}
use Rattle.layout.specs.Held.{first_in, second_in, unpacked, is_whole, first_list, second_list, joined_list, packed}
use Rattle.node_fresh.specs.Fresh.{fresh_on, fresh_words}
use Rattle.states.specs.Words.{fresh_state}
use Rattle.state_calls.specs.On.{on_state, step_on}
use Rattle.line_forms.specs.Forms.{before}
use Rattle.script.specs.Script.{parts_within, line_of, line_at}
use Rattle.items.specs.Places.{no_item, place_from}
use Rattle.item_changes.specs.Places.{moved}
use Rattle.under_way.specs.Frames.{closed, framed}
use Rattle.turns.specs.Events.{send_turn, idle_turn, call_turn, deliver_turn}
use Rattle.printing.specs.Put.{digits}
use Rattle.text.specs.Text.{row_text, stop_text}
use Rattle.rehearsal.specs.Play.{play_from, play}

abbrev script : List ℕ
script =
    110 ∷ 111 ∷ 100 ∷ 101 ∷ 115 ∷ 32 ∷ 50 ∷ 10
    ∷ 105 ∷ 32 ∷ 48 ∷ 10
    ∷ 98 ∷ 32 ∷ 48 ∷ 10
    ∷ 105 ∷ 32 ∷ 49 ∷ 10
    ∷ 100 ∷ 32 ∷ 48 ∷ 32 ∷ 49 ∷ 10
    ∷ 98 ∷ 32 ∷ 49 ∷ 10
    ∷ 98 ∷ 32 ∷ 49 ∷ 10
    ∷ 98 ∷ 32 ∷ 49 ∷ 10
    ∷ 100 ∷ 32 ∷ 49 ∷ 32 ∷ 48 ∷ 10
    ∷ 98 ∷ 32 ∷ 48 ∷ 10
    ∷ 98 ∷ 32 ∷ 48 ∷ 10
    ∷ 100 ∷ 32 ∷ 49 ∷ 32 ∷ 48 ∷ 10
    ∷ 98 ∷ 32 ∷ 48 ∷ 10
    ∷ 100 ∷ 32 ∷ 48 ∷ 32 ∷ 49 ∷ 10
    ∷ 98 ∷ 32 ∷ 49 ∷ 10 ∷ []

abbrev output : List ℕ
output =
    110 ∷ 111 ∷ 100 ∷ 101 ∷ 32 ∷ 97 ∷ 110 ∷ 115 ∷ 119 ∷ 101 ∷ 114 ∷ 32 ∷ 112 ∷ 104 ∷ 97 ∷ 115 ∷ 101 ∷ 32
    ∷ 112 ∷ 97 ∷ 115 ∷ 115 ∷ 32 ∷ 100 ∷ 105 ∷ 109 ∷ 32 ∷ 102 ∷ 108 ∷ 97 ∷ 103 ∷ 32 ∷ 98 ∷ 117 ∷ 115 ∷ 121 ∷ 10
    ∷ 48 ∷ 32 ∷ 48 ∷ 32 ∷ 48 ∷ 32 ∷ 49 ∷ 32 ∷ 48 ∷ 32 ∷ 49 ∷ 32 ∷ 48 ∷ 10
    ∷ 48 ∷ 32 ∷ 50 ∷ 48 ∷ 32 ∷ 48 ∷ 32 ∷ 49 ∷ 32 ∷ 48 ∷ 32 ∷ 48 ∷ 32 ∷ 48 ∷ 10
    ∷ 49 ∷ 32 ∷ 48 ∷ 32 ∷ 48 ∷ 32 ∷ 49 ∷ 32 ∷ 48 ∷ 32 ∷ 49 ∷ 32 ∷ 48 ∷ 10
    ∷ 49 ∷ 32 ∷ 48 ∷ 32 ∷ 48 ∷ 32 ∷ 49 ∷ 32 ∷ 48 ∷ 32 ∷ 49 ∷ 32 ∷ 48 ∷ 10
    ∷ 49 ∷ 32 ∷ 50 ∷ 48 ∷ 32 ∷ 48 ∷ 32 ∷ 49 ∷ 32 ∷ 48 ∷ 32 ∷ 48 ∷ 32 ∷ 48 ∷ 10
    ∷ 49 ∷ 32 ∷ 50 ∷ 50 ∷ 32 ∷ 48 ∷ 32 ∷ 50 ∷ 32 ∷ 48 ∷ 32 ∷ 49 ∷ 32 ∷ 48 ∷ 10
    ∷ 49 ∷ 32 ∷ 50 ∷ 48 ∷ 32 ∷ 48 ∷ 32 ∷ 50 ∷ 32 ∷ 48 ∷ 32 ∷ 48 ∷ 32 ∷ 48 ∷ 10
    ∷ 48 ∷ 32 ∷ 48 ∷ 32 ∷ 48 ∷ 32 ∷ 49 ∷ 32 ∷ 48 ∷ 32 ∷ 48 ∷ 32 ∷ 48 ∷ 10
    ∷ 48 ∷ 32 ∷ 50 ∷ 50 ∷ 32 ∷ 48 ∷ 32 ∷ 50 ∷ 32 ∷ 48 ∷ 32 ∷ 49 ∷ 32 ∷ 48 ∷ 10
    ∷ 48 ∷ 32 ∷ 50 ∷ 48 ∷ 32 ∷ 48 ∷ 32 ∷ 50 ∷ 32 ∷ 48 ∷ 32 ∷ 48 ∷ 32 ∷ 48 ∷ 10
    ∷ 48 ∷ 32 ∷ 48 ∷ 32 ∷ 48 ∷ 32 ∷ 50 ∷ 32 ∷ 48 ∷ 32 ∷ 48 ∷ 32 ∷ 48 ∷ 10
    ∷ 48 ∷ 32 ∷ 50 ∷ 51 ∷ 32 ∷ 49 ∷ 32 ∷ 49 ∷ 32 ∷ 48 ∷ 32 ∷ 49 ∷ 32 ∷ 49 ∷ 10
    ∷ 49 ∷ 32 ∷ 48 ∷ 32 ∷ 48 ∷ 32 ∷ 50 ∷ 32 ∷ 48 ∷ 32 ∷ 48 ∷ 32 ∷ 48 ∷ 10
    ∷ 49 ∷ 32 ∷ 50 ∷ 51 ∷ 32 ∷ 49 ∷ 32 ∷ 49 ∷ 32 ∷ 48 ∷ 32 ∷ 49 ∷ 32 ∷ 49 ∷ 10 ∷ []

-- with four places lent
pub worked : (play script (replicate 4 no_item) (replicate 304 0)).text ≡ output
unfolding smallest_from dimension part run_below run_of place_in place awaited receivers distance_below distance
    four_bytes bytes_of word_at frame_length numbers_of frame_bytes shell_at fields_of numbers_ok timing own own_issued
    first_clauses second_clauses agrees board_ok position_ok tallies_ok total_ok first_ok second_ok passed_ok busy_ok valid
    fresh send take idle gotten frame_in frame_due barrier at_first first_in second_in unpacked is_whole first_list
    second_list joined_list packed fresh_on fresh_words fresh_state on_state step_on before parts_within line_of line_at
    place_from moved closed framed send_turn idle_turn call_turn deliver_turn digits row_text stop_text play_from play
worked = refl
