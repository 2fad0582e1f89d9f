-- Definitions that only the contracts of private functions cite: what is said of a frame for a state in words, and the words after
-- it is stored.
use Rattle.std.specs.Prelude.{List, ◌∷◌, ◌≡◌, ℕ, ◌+◌, ◌-◌, ◌/◌, ◌≤◌, ◌<◌, ltb, eqb, length, get_or, set}
use Rattle.base.specs.Choice.{choose, list}
use Rattle.base.specs.Limits.{Limits, width}
use Rattle.base.specs.Refusal.{found}
use Rattle.frame.specs.Frame.{number_at, fields_of, read_frame, answer_of}
use Rattle.frame.specs.Parts.{pasted}
use Rattle.node.specs.Calls.{step_number, refusal, gotten, frame_in}
use Rattle.node.specs.Answers.{give, Outcome, done, dropped, refused}
use Rattle.layout.specs.Places.{at_pass, at_dim, at_flag, at_agreed, at_first, at_second, at_nodes, head_words}
use Rattle.layout.specs.Held.{word, dims_of, unpacked}

-- ---- A frame is judged

-- done: the bytes are a frame, which the state gets
abbrev pub Judged : Limits → List ℕ → List ℕ → Outcome → Type 0
Judged L ws bs done =
    (answer_of (read_frame L (word ws at_nodes) bs) ≡ found tt)
    × (frame_in L (unpacked ws) bs ≡ give (gotten (unpacked ws) (fields_of (dims_of ws) bs)) done)
Judged L ws bs dropped = frame_in L (unpacked ws) bs ≡ give (unpacked ws) dropped
Judged L ws bs (refused x) = frame_in L (unpacked ws) bs ≡ refusal (unpacked ws) x

-- ---- It is stored

-- where the words of a frame begin
abbrev pub frame_place : ℕ → ℕ → ℕ → ℕ
frame_place p pass k = choose (eqb pass 1) (at_first p k) (at_second p k)

-- the words of a frame: the mark, and the numbers after its head
abbrev pub frame_words : List ℕ → List ℕ
frame_words bs = 1 ∷ list 0 ((length bs - 4) / 4) (number_at bs)

-- the frame in its place
unfoldable pub kept_words : ℕ → List ℕ → List ℕ → List ℕ
kept_words p ws bs = pasted ws (frame_place p (get_or bs 0 0) (get_or bs 2 0)) (frame_words bs)

-- the position is a step, with flag 0, and T is 0 in pass 1
unfoldable pub back_words : List ℕ → ℕ → ℕ → List ℕ
back_words ws pass k =
    set (set (set (set ws at_pass pass) at_dim k) at_flag 0) at_agreed (choose (eqb pass 1) 0 (word ws at_agreed))

-- both, if the frame's step is earlier than the position
unfoldable pub stored_words : ℕ → List ℕ → List ℕ → List ℕ
stored_words p ws bs =
    choose (ltb (step_number p (get_or bs 0 0) (get_or bs 2 0)) (step_number p (word ws at_pass) (word ws at_dim)))
    (back_words (kept_words p ws bs) (get_or bs 0 0) (get_or bs 2 0))
    (kept_words p ws bs)

-- what a frame that is stored needs: a dimension of the board, and room for its words
pub record Storable (p : ℕ) (ws bs : List ℕ) : Type 0 where
  pub few : p ≤ width
  pub dim : get_or bs 2 0 < p
  pub head : 4 ≤ length bs
  pub position : (word ws at_dim < width) × (head_words ≤ length ws)
  pub room : frame_place p (get_or bs 0 0) (get_or bs 2 0) + length (frame_words bs) ≤ length ws
