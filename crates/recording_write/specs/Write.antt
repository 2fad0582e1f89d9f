-- What the writer of recordings answers and leaves (rule K4).
use Rattle.std.specs.Prelude.{List, [], ◌∷◌, ℕ, ltb, length}
use Rattle.base.specs.Refusal.{Answered, refused, found, when, in_order}
use Rattle.base.specs.declared.Refusal.{Refusal}
use Rattle.printing.specs.Put.{put}
use Rattle.recording.specs.Recording.{Recording, bytes_of}
use Rattle.recording.specs.Test.{is_bad}

-- the length of what is written, for a buffer of so many bytes
abbrev pub write_answer : Recording → ℕ → Answered ℕ
write_answer r room =
    in_order refused
    (when (is_bad r) Refusal.Recording ∷ when (ltb room (length (bytes_of r))) Refusal.Buffer ∷ [])
    (found (length (bytes_of r)))

-- the lent buffer after it; refused, it stays
abbrev pub left_by : Recording → List ℕ → Answered ℕ → List ℕ
left_by r buf (refused x) = buf
left_by r buf (found n) = put buf 0 (bytes_of r)

abbrev pub written_on : Recording → List ℕ → List ℕ
written_on r buf = left_by r buf (write_answer r (length buf))
