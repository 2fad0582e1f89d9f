-- The worked script (rule S10) and the trap of four nodes (rule P7) come out of the definitions by computation.
use mathlib.Core.Path.{◌≡◌, refl}
use mathlib.Core.Bool.{true}
use mathlib.Core.List.{List, [], ◌∷◌}
use Rattle.base.specs.Limits.{base}
use Rattle.base.specs.declared.Kind.TheVariants.{Job}
use Rattle.tree.specs.Tree.{smallest_from, dimension, part, run_below, run_of, place_in, place, awaited, receivers}
use Rattle.tree.specs.Tree.{distance_below, distance}
use Rattle.frame.specs.Numbers.{four_bytes, bytes_of, word_at}
use Rattle.frame.specs.Frame.{frame_length, numbers_of, frame_bytes, shell_at, fields_of, numbers_ok}
use Rattle.frame.specs.Timing.{timing}
use Rattle.node.specs.Sums.{own, own_issued}
use Rattle.node.specs.Agree.{first_clauses, second_clauses, agrees}
use Rattle.node.specs.State.{board_ok, position_ok, tallies_ok, total_ok, first_ok, second_ok, passed_ok, busy_ok, valid}
use Rattle.node.specs.Answers.{barrier_number}
use Rattle.node.specs.Calls.{send, take, idle, gotten, frame_in}
use Rattle.node.specs.Barrier.{frame_due, barrier}
use Rattle.events.specs.Board.{Board, Event, sends, idles, calls, delivers, start, step, run}
use Rattle.runs.specs.Printed.{line, lines}

-- the lines of scripts/worked after the first, on a board of two
abbrev script : List Event
script =
    idles 0
    ∷ calls 0 68
    ∷ idles 1
    ∷ delivers 0 1
    ∷ calls 1 68
    ∷ calls 1 68
    ∷ calls 1 68
    ∷ delivers 1 0
    ∷ calls 0 68
    ∷ calls 0 68
    ∷ delivers 1 0
    ∷ calls 0 68
    ∷ delivers 0 1
    ∷ calls 1 68
    ∷ []

-- and the lines that are printed for them
pub worked : lines 2 (start 2) script ≡
    (0 ∷ 0 ∷ 0 ∷ 1 ∷ 0 ∷ 1 ∷ 0 ∷ [])
    ∷ (0 ∷ 20 ∷ 0 ∷ 1 ∷ 0 ∷ 0 ∷ 0 ∷ [])
    ∷ (1 ∷ 0 ∷ 0 ∷ 1 ∷ 0 ∷ 1 ∷ 0 ∷ [])
    ∷ (1 ∷ 0 ∷ 0 ∷ 1 ∷ 0 ∷ 1 ∷ 0 ∷ [])
    ∷ (1 ∷ 20 ∷ 0 ∷ 1 ∷ 0 ∷ 0 ∷ 0 ∷ [])
    ∷ (1 ∷ 22 ∷ 0 ∷ 2 ∷ 0 ∷ 1 ∷ 0 ∷ [])
    ∷ (1 ∷ 20 ∷ 0 ∷ 2 ∷ 0 ∷ 0 ∷ 0 ∷ [])
    ∷ (0 ∷ 0 ∷ 0 ∷ 1 ∷ 0 ∷ 0 ∷ 0 ∷ [])
    ∷ (0 ∷ 22 ∷ 0 ∷ 2 ∷ 0 ∷ 1 ∷ 0 ∷ [])
    ∷ (0 ∷ 20 ∷ 0 ∷ 2 ∷ 0 ∷ 0 ∷ 0 ∷ [])
    ∷ (0 ∷ 0 ∷ 0 ∷ 2 ∷ 0 ∷ 0 ∷ 0 ∷ [])
    ∷ (0 ∷ 23 ∷ 1 ∷ 1 ∷ 0 ∷ 1 ∷ 1 ∷ [])
    ∷ (1 ∷ 0 ∷ 0 ∷ 2 ∷ 0 ∷ 0 ∷ 0 ∷ [])
    ∷ (1 ∷ 23 ∷ 1 ∷ 1 ∷ 0 ∷ 1 ∷ 1 ∷ [])
    ∷ []
unfolding smallest_from dimension part run_below run_of place_in place awaited receivers distance_below distance four_bytes
    bytes_of word_at frame_length numbers_of frame_bytes shell_at fields_of numbers_ok timing own own_issued first_clauses
    second_clauses agrees board_ok position_ok tallies_ok total_ok first_ok second_ok passed_ok busy_ok valid send take idle
    gotten
    frame_in frame_due barrier step
worked = refl

-- On a board of four, node 1 sends 2 a message that is slow, and signs in to 0. Node 3 wakes 1, takes work from it, and
-- signs in to 2, which has signed in before and moves on. Then the slow message wakes 2, and 2 sends work to 0. So the
-- sums that meet in node 0 are of different moments: they agree while node 1 is busy.
abbrev trap : List Event
trap =
    idles 2
    ∷ calls 2 68
    ∷ sends Job 1 2
    ∷ idles 1
    ∷ calls 1 68
    ∷ sends Job 3 1
    ∷ delivers 3 1
    ∷ sends Job 1 3
    ∷ delivers 1 3
    ∷ idles 3
    ∷ calls 3 68
    ∷ delivers 3 2
    ∷ calls 2 68
    ∷ calls 2 68
    ∷ delivers 1 2
    ∷ sends Job 2 0
    ∷ delivers 1 0
    ∷ delivers 2 0
    ∷ delivers 2 0
    ∷ idles 0
    ∷ calls 0 68
    ∷ calls 0 68
    ∷ calls 0 68
    ∷ calls 0 68
    ∷ calls 0 68
    ∷ []

abbrev trapped : Board
trapped = run base 4 trap

-- node 0 is in pass 2 with T = 2, and waits there
pub in_the_trap :
    (line 0 (barrier_number (barrier base (trapped.nodes 0) 68).answer) (trapped.nodes 0)
    ≡ 0 ∷ 21 ∷ 0 ∷ 2 ∷ 0 ∷ 0 ∷ 0 ∷ [])
    × ((trapped.nodes 0).agreed ≡ 2)
    × ((trapped.nodes 1).busy ≡ true)
unfolding smallest_from dimension part run_below run_of place_in place awaited receivers distance_below distance four_bytes
    bytes_of word_at frame_length numbers_of frame_bytes shell_at fields_of numbers_ok timing own own_issued first_clauses
    second_clauses agrees board_ok position_ok tallies_ok total_ok first_ok second_ok passed_ok busy_ok valid send take idle
    gotten
    frame_in frame_due barrier step
in_the_trap = (refl, refl, refl)
