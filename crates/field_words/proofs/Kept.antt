-- Words and fields undo each other: each field has its place, and each word is a field.
use mathlib.Core.Path.{◌≡◌, ap}
use mathlib.Core.List.{List}
use Prim.Native.Nat.{ℕ}
use native.Mathlib.Nat.{zero-add}
use lib.ListN.{length, get_or}
use Rattle.base.specs.Choice.{list}
use Rattle.base.specs.Limits.{width}
use Rattle.base.proofs.Laws.{list_whole}
use Rattle.frame.specs.Frame.{sent_number, taken_number}
use Rattle.frame.specs.declared.Frame.{Frame}
use Rattle.field_words.specs.Words.{fields_end, field_words, frame_from}

listed : {A : Type 0} (l : List A) (d : A) (n : ℕ) → length l ≡ n → list 0 n (λ m. get_or l m d) ≡ l
listed l d n e = list_whole l d 0 n (λ m. get_or l m d) e (λ i b. ap (λ j. get_or l j d) (zero-add i))

pub frame_back : (f : Frame) → length f.sent ≡ width → length f.taken ≡ width → frame_from (field_words f) ≡ f
unfolding frame_from field_words
frame_back f s t =
    λ i.
    record {
      pass = f.pass;
      phase = f.phase;
      dim = f.dim;
      sender = f.sender;
      sent = listed f.sent (sent_number 0) width s i;
      taken = listed f.taken (taken_number 0) width t i;
      issued = f.issued;
      received = f.received;
      agreed = f.agreed;
    }

pub words_back : (ws : List ℕ) → length ws ≡ fields_end → field_words (frame_from ws) ≡ ws
unfolding frame_from field_words
words_back ws e = listed ws 0 fields_end e
