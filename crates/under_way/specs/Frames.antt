-- The frames of the items under way, in one lent buffer (rule S5).
use Rattle.std.specs.Prelude.{List, ◌++◌, ℕ, ◌+◌, ◌-◌, ◌*◌, ◌/◌, min, length, get_or, take, drop}
use Rattle.tree.specs.Tree.{dimension}
use Rattle.frame.specs.Frame.{frame_length}

abbrev pub place_size : ℕ
place_size = 68

-- how many items there is room for, where so many headers and these bytes are lent
abbrev pub room_for : ℕ → List ℕ → ℕ
room_for headers bytes = min 512 (min headers (length bytes / place_size))

-- rule S6: of n places the one at `at` goes, those after it move down whole, and the last keeps what it had
unfoldable pub closed : List ℕ → ℕ → ℕ → List ℕ
closed bytes n at =
    take (place_size * at) bytes
    ++ (take (place_size * (n - (at + 1))) (drop (place_size * (at + 1)) bytes) ++ drop (place_size * (n - 1)) bytes)

-- rule S6: a frame goes to the start of its item's place, and the other bytes stay
unfoldable pub framed : List ℕ → ℕ → List ℕ → List ℕ
framed bytes place frame =
    take (place_size * place) bytes ++ (frame ++ drop (place_size * place + length frame) bytes)

-- the frame at a place of a board of this size: as long as its head says
abbrev pub frame_held : ℕ → List ℕ → ℕ → List ℕ
frame_held size bytes place =
    let part = drop (place_size * place) bytes in
    take (frame_length (dimension size) (get_or part 0 0) (get_or part 2 0)) part
