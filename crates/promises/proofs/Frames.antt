-- Frames survive writing and reading, as it is promised.
use Prim.Native.Nat.{ℕ}
use Rattle.base.specs.Limits.{base}
use Rattle.frame.proofs.RoundTripAccepted.{small_base, write_known}
use Rattle.frame.proofs.RoundTripWrite.{write_then_read, same_bytes_lem}
use Rattle.frame.proofs.RoundTripRead.{read_then_bytes, read_then_write}
use Rattle.promises.specs.Promises.{Frames}

pub frames : (P : ℕ) → Frames P
frames P =
    record {
      written_read = write_then_read base small_base P;
      read_bytes = read_then_bytes base small_base P;
      read_written = read_then_write base P;
      same_bytes =
          λ f g s t room m n e h. same_bytes_lem base small_base P f g s t (write_known base P f room m e).accepted
          (write_known base P g room n h).accepted;
    }
