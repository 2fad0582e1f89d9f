-- What the frame writer answers and leaves, on a frame's fields as words (rule C6).
use Rattle.std.specs.Prelude.{List, [], ◌∷◌, ℕ, leb, length, get_or}
use Rattle.base.specs.Limits.{Limits}
use Rattle.base.specs.Refusal.{Answered, refused, when, in_order}
use Rattle.base.specs.declared.Refusal.{Refusal}
use Rattle.tree.specs.Tree.{dimension}
use Rattle.tree.specs.Lookups.{bad_board}
use Rattle.frame.specs.Frame.{frame_bytes, write_frame, over}
pub use Rattle.field_words.specs.Words.{at_phase, frame_from, frame_words}

-- the writer's answer: a phase that is no byte gives 10, after 1 (rule C7)
abbrev pub write_on : Limits → ℕ → List ℕ → ℕ → Answered ℕ
write_on L P ws room =
    in_order refused
    (when (bad_board L P) Refusal.Board ∷ when (leb 256 (get_or ws at_phase 0)) Refusal.Field ∷ [])
    (write_frame L P (frame_from ws) room)

-- the lent bytes after it
abbrev pub written_on : Limits → ℕ → List ℕ → List ℕ → List ℕ
written_on L P ws buf = over (frame_bytes (dimension P) (frame_from ws)) buf (write_on L P ws (length buf))
