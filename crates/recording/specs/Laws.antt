-- Writing and reading undo each other, and refuse by one test (rule K3).
use Rattle.std.specs.Prelude.{◌≡◌, false, List, ℕ}
use Rattle.frame.specs.Shapes.{Bytes}
use Rattle.recording.specs.Recording.{Recording, bytes_of, recording_in}
use Rattle.recording.specs.Test.{is_bad, is_bad_in}

pub record Survives : Type 0 where
  -- the bytes of a recording that is not refused are not refused, and hold it
  pub written_good : (r : Recording) → is_bad r ≡ false → is_bad_in (bytes_of r) ≡ false
  pub written_read : (r : Recording) → is_bad r ≡ false → recording_in (bytes_of r) ≡ r
  -- what bytes that are not refused hold is not refused, and they are its bytes
  pub read_good : (bs : List ℕ) → is_bad_in bs ≡ false → is_bad (recording_in bs) ≡ false
  pub read_written : (bs : List ℕ) → Bytes bs → is_bad_in bs ≡ false → bytes_of (recording_in bs) ≡ bs
