-- Frames (rule F1 to rule F4): their length, their bytes, their fields, the writer and the reader.
use Rattle.std.specs.Prelude.{ℕ, ◌+◌, ◌-◌, ◌*◌, Bool, true, not, List, [], ◌∷◌, ◌++◌, length, drop, ◌==◌, nat_le, nat_lt, slice_index, slice_index_or, ⊤}
use Rattle.base.specs.Choice.{choose, both, either, every, list}
use Rattle.base.specs.Limits.{Limits, field_limit, width}
use Rattle.base.specs.Refusal.{Answered, refused, found, Check, when, in_order}
use Rattle.base.specs.declared.Refusal.{Refusal}
use Rattle.tree.specs.Tree.{dimension}
use Rattle.tree.specs.Lookups.{bad_board}
use Rattle.frame.specs.Numbers.{bytes_of, word_at}
use Rattle.frame.specs.declared.Sent.{Sent}
use Rattle.frame.specs.declared.Taken.{Taken}
use Rattle.frame.specs.declared.Frame.{Frame}

abbrev pub sent_number : ℕ → Sent
sent_number x = record { 0 = x }

abbrev pub taken_number : ℕ → Taken
taken_number x = record { 0 = x }

-- the tally of a shell; 0 where there is none
abbrev pub sent_at : List Sent → ℕ → ℕ
sent_at l m = (slice_index_or l m (sent_number 0)).0

abbrev pub taken_at : List Taken → ℕ → ℕ
taken_at l m = (slice_index_or l m (taken_number 0)).0

-- ---- Length and numbers, on a board of p dimensions (rule F3)

unfoldable pub frame_length : ℕ → ℕ → ℕ → ℕ
frame_length p pass k = choose (pass == 1) (4 + 8 * (p - k) + 8) 12

-- the numbers after the four head bytes: in pass 1 sent and taken for the frame's shells and both totals, in pass 2 T
-- and total sent
unfoldable pub numbers_of : ℕ → Frame → List ℕ
numbers_of p f =
    choose (f.pass == 1)
    (list f.dim (p - f.dim) (sent_at f.sent)
    ++ (list f.dim (p - f.dim) (taken_at f.taken) ++ (f.issued.0 ∷ f.received.0 ∷ [])))
    (f.agreed ∷ f.issued.0 ∷ [])

-- rule F1: four head bytes, then the numbers
unfoldable pub frame_bytes : ℕ → Frame → List ℕ
frame_bytes p f = f.pass ∷ f.phase ∷ f.dim ∷ f.sender ∷ bytes_of (numbers_of p f)

-- ---- The fields of given bytes

-- the i-th number
abbrev pub number_at : List ℕ → ℕ → ℕ
number_at bs i = word_at bs (4 + 4 * i)

-- a frame of dimension k has the shells k to p − 1
abbrev pub has_shell : ℕ → ℕ → ℕ → Bool
has_shell p k m = both (nat_le k m) (nat_lt m p)

-- the number of shell m among those that begin at the start-th; 0 for a shell that the frame doesn't have
unfoldable pub shell_at : ℕ → ℕ → List ℕ → ℕ → ℕ → ℕ
shell_at p k bs start m = choose (has_shell p k m) (number_at bs (start + (m - k))) 0

abbrev pub first_fields : ℕ → List ℕ → Frame
first_fields p bs =
    let k = slice_index_or bs 2 0 in
    record {
      pass = slice_index bs 0;
      phase = slice_index bs 1;
      dim = k;
      sender = slice_index bs 3;
      sent = list 0 width (λ m. sent_number (shell_at p k bs 0 m));
      taken = list 0 width (λ m. taken_number (shell_at p k bs (p - k) m));
      issued = sent_number (number_at bs (2 * (p - k)));
      received = taken_number (number_at bs (2 * (p - k) + 1));
      agreed = 0;
    }

abbrev pub second_fields : List ℕ → Frame
second_fields bs =
    record {
      pass = slice_index bs 0;
      phase = slice_index bs 1;
      dim = slice_index bs 2;
      sender = slice_index bs 3;
      sent = list 0 width (λ m. sent_number 0);
      taken = list 0 width (λ m. taken_number 0);
      issued = sent_number (number_at bs 1);
      received = taken_number 0;
      agreed = number_at bs 0;
    }

unfoldable pub fields_of : ℕ → List ℕ → Frame
fields_of p bs = choose (slice_index bs 0 == 1) (first_fields p bs) (second_fields bs)

-- ---- Refusals

-- field, of the step: the pass is not 1 or 2, or k is not below p
abbrev pub bad_step : ℕ → ℕ → ℕ → Bool
bad_step p pass k = either (not (either (pass == 1) (pass == 2))) (nat_le p k)

-- a number that the frame has is within the limit, and one that it doesn't have is 0 (rule F4); else field
abbrev pub number_ok : Limits → Bool → ℕ → Bool
number_ok L has x = choose has (nat_le x (field_limit L)) (x == 0)

unfoldable pub numbers_ok : Limits → ℕ → Frame → Bool
numbers_ok L p f =
    both
    (every 0 width
    (λ m.
    let has = both (f.pass == 1) (has_shell p f.dim m) in
    both (number_ok L has (sent_at f.sent m)) (number_ok L has (taken_at f.taken m))))
    (both (number_ok L true f.issued.0)
    (both (number_ok L (f.pass == 1) f.received.0) (number_ok L (f.pass == 2) f.agreed)))

-- what reader and frame in ask of the bytes, in the order of rule R3: 9 under 4 bytes, 10 step, 9 length, 10 numbers, 2
abbrev pub read_checks : Limits → ℕ → List ℕ → List Check
read_checks L P bs =
    let p = dimension P in
    when (nat_lt (length bs) 4) Refusal.Length
    ∷ when (bad_step p (slice_index bs 0) (slice_index bs 2)) Refusal.Field
    ∷ when (not (length bs == frame_length p (slice_index bs 0) (slice_index bs 2))) Refusal.Length
    ∷ when (not (numbers_ok L p (fields_of p bs))) Refusal.Field
    ∷ when (nat_le P (slice_index bs 3)) Refusal.Stranger
    ∷ []

unfoldable pub read_frame : Limits → ℕ → List ℕ → Answered Frame
read_frame L P bs =
    in_order refused (when (bad_board L P) Refusal.Board ∷ read_checks L P bs) (found (fields_of (dimension P) bs))

-- the writer, in the order of rule R3, answers the frame's length
unfoldable pub write_frame : Limits → ℕ → Frame → ℕ → Answered ℕ
write_frame L P f room =
    let p = dimension P in
    in_order refused
    (when (bad_board L P) Refusal.Board
    ∷ when (bad_step p f.pass f.dim) Refusal.Field
    ∷ when (not (numbers_ok L p f)) Refusal.Field
    ∷ when (nat_le P f.sender) Refusal.Stranger
    ∷ when (nat_lt room (frame_length p f.pass f.dim)) Refusal.Buffer
    ∷ [])
    (found (frame_length p f.pass f.dim))

-- refused, the buffer stays (rule R4); a written frame touches its own bytes only (rule F6)
abbrev pub over : List ℕ → List ℕ → Answered ℕ → List ℕ
over bytes buf (refused x) = buf
over bytes buf (found n) = bytes ++ drop n buf

unfoldable pub written : Limits → ℕ → Frame → List ℕ → List ℕ
written L P f buf = over (frame_bytes (dimension P) f) buf (write_frame L P f (length buf))

-- ---- What the reader returns

-- beside the fields: that there are some, or the number of a refusal
abbrev pub answer_of : Answered Frame → Answered ⊤
answer_of (refused x) = refused x
answer_of (found f) = found tt
