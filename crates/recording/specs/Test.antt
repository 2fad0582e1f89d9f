-- The test behind refusal 18 (rule K2): of a recording, and of bytes.
use Rattle.std.specs.Prelude.{Bool, true, not, List, [], ◌∷◌, ℕ, zero, suc, ◌+◌, ◌*◌, ◌/◌, ltb, eqb, length}
use Rattle.base.specs.Choice.{choose, both, either, every}
use Rattle.recording.specs.Recording.{Recording, event_byte, bodies, sections_in, start_at, count_at, recording_in}

-- ---- Events

-- s, t and d have two numbers
abbrev pub has_two : ℕ → Bool
has_two letter = either (eqb letter 115) (either (eqb letter 116) (eqb letter 100))

-- i and b have one
abbrev pub has_one : ℕ → Bool
has_one letter = either (eqb letter 105) (eqb letter 98)

-- the answer is not looked at
abbrev pub good_event : ℕ → ℕ → ℕ → ℕ → Bool
good_event nodes letter a b =
    both (ltb a nodes) (choose (has_two letter) (ltb b nodes) (both (has_one letter) (eqb b 0)))

abbrev pub good_at : ℕ → List ℕ → ℕ → Bool
good_at nodes events i = good_event nodes (event_byte events i 0) (event_byte events i 1) (event_byte events i 2)

unfoldable pub good_events : ℕ → List ℕ → Bool
good_events nodes events = every 0 (length events / 4) (good_at nodes events)

-- ---- A recording

abbrev pub outside : ℕ → ℕ → Bool
outside most x = either (eqb x 0) (ltb most x)

-- by its node count, its number of sections, how many events they are to have, and the events' bytes: 1 to 16 nodes, 1
-- to 32 sections, four bytes an event, at most 60,000 bytes in all, and each event with a letter and with numbers of
-- its own
unfoldable pub is_bad_by : ℕ → ℕ → ℕ → List ℕ → Bool
is_bad_by nodes sections total events =
    either (outside 16 nodes)
    (either (outside 32 sections)
    (either (not (eqb (4 * total) (length events)))
    (either (ltb 60000 (bodies sections + length events)) (not (good_events nodes events)))))

unfoldable pub sum : List ℕ → ℕ
sum [] = 0
sum (n ∷ ns) = n + sum ns

abbrev pub is_bad : Recording → Bool
is_bad r = is_bad_by r.nodes (length r.counts) (sum r.counts) r.events

-- ---- Bytes

-- so many sections from i on: the body of the first begins at `at`, and each next one where the one before it ends
unfoldable pub placed : List ℕ → ℕ → ℕ → ℕ → Bool
placed bs at i zero = true
placed bs at i (suc more) = both (eqb (start_at bs i) at) (placed bs (at + 4 * count_at bs i) (i + 1) more)

-- the table is there, its bodies stand one after the other behind it, and what the bytes hold is no bad recording, so
-- that the bodies end where the bytes end
unfoldable pub is_bad_in : List ℕ → Bool
is_bad_in bs =
    let sections = sections_in bs in
    either (ltb (length bs) (bodies sections))
    (either (not (placed bs (bodies sections) 0 sections)) (is_bad (recording_in bs)))
