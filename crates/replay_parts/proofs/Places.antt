-- Where the events stand among the bytes of a recording.
use mathlib.Core.Path.{◌≡◌, sym, ap, ◌∙◌}
use mathlib.Core.List.{List}
use Prim.Native.Nat.{ℕ, ◌+◌, ◌*◌}
use native.Mathlib.Omega.{arith}
use lib.ListN.{get_or}
use lib.Seq.{get_or-drop}
use Rattle.recording.specs.Recording.{bodies, sections_in, event_byte, recording_in}

pub event_at : (bs : List ℕ) (i j at : ℕ) → at ≡ bodies (sections_in bs) + 4 * i + j
    → get_or bs at 0 ≡ event_byte (recording_in bs).events i j
unfolding recording_in
event_at bs i j at e =
    ap (λ n. get_or bs n 0) (e ∙ omega arith) ∙ sym (get_or-drop (bodies (sections_in bs)) bs (4 * i + j) 0)
