-- The test of the words of a stored frame.
use Rattle.std.specs.Prelude.{Bool, List, ℕ, ◌+◌, ◌-◌, leb, eqb}
use Rattle.base.specs.Choice.{choose, both, every}
use Rattle.layout.specs.Held.{word}
use Rattle.layout.specs.Places.{mark_words}

abbrev pub is_low : ℕ → List ℕ → ℕ → Bool
is_low limit ws i = leb (word ws i) limit

-- the words after the mark at a place and below an end
abbrev pub low_after : ℕ → List ℕ → ℕ → ℕ → Bool
low_after limit ws at end = every (at + mark_words) (end - (at + mark_words)) (is_low limit ws)

-- the words of a frame from a place to an end, the mark first: all 0, or a frame that may be there
unfoldable pub held_test : ℕ → List ℕ → Bool → ℕ → ℕ → Bool
held_test limit ws awaits at end =
    choose (eqb (word ws at) 0) (low_after 0 ws at end)
    (both (eqb (word ws at) 1) (both awaits (low_after limit ws at end)))
