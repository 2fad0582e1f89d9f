-- A frame's fields as words that a C caller lends (rule C6).
use Rattle.std.specs.Prelude.{List, [], ◌∷◌, ◌++◌, ℕ, ◌+◌, get_or}
use Rattle.base.specs.Choice.{list}
use Rattle.base.specs.Limits.{width}
use Rattle.base.specs.Refusal.{Answered, refused, found}
use Rattle.frame.specs.Frame.{sent_number, taken_number, sent_at, taken_at}
use Rattle.frame.specs.declared.Frame.{Frame}

-- ---- The places

abbrev pub at_pass : ℕ
at_pass = 0

abbrev pub at_phase : ℕ
at_phase = 1

abbrev pub at_dim : ℕ
at_dim = 2

abbrev pub at_sender : ℕ
at_sender = 3

-- total sent
abbrev pub at_issued : ℕ
at_issued = 4

-- total taken
abbrev pub at_received : ℕ
at_received = 5

-- T
abbrev pub at_agreed : ℕ
at_agreed = 6

-- the tallies of shell m
abbrev pub at_sent : ℕ → ℕ
at_sent m = 7 + m

abbrev pub at_taken : ℕ → ℕ
at_taken m = at_sent width + m

-- one after the last, and so how many words there are
abbrev pub fields_end : ℕ
fields_end = at_taken width

-- ---- Fields and words

abbrev pub scalar_words : Frame → List ℕ
scalar_words f =
    f.pass ∷ f.phase ∷ f.dim ∷ f.sender ∷ f.issued.0 ∷ f.received.0 ∷ f.agreed ∷ []

-- the words of a frame's fields, each in its place
unfoldable pub field_words : Frame → List ℕ
field_words f = scalar_words f ++ (list 0 width (sent_at f.sent) ++ list 0 width (taken_at f.taken))

-- the frame whose fields words hold
unfoldable pub frame_from : List ℕ → Frame
frame_from ws =
    record {
      pass = get_or ws at_pass 0;
      phase = get_or ws at_phase 0;
      dim = get_or ws at_dim 0;
      sender = get_or ws at_sender 0;
      sent = list 0 width (λ m. sent_number (get_or ws (at_sent m) 0));
      taken = list 0 width (λ m. taken_number (get_or ws (at_taken m) 0));
      issued = sent_number (get_or ws at_issued 0);
      received = taken_number (get_or ws at_received 0);
      agreed = get_or ws at_agreed 0;
    }

-- what the reader leaves in lent words; they stay where it is refused
abbrev pub frame_words : Answered Frame → List ℕ → List ℕ
frame_words (refused x) ws = ws
frame_words (found f) ws = field_words f
