-- What a reader answers and leaves, by the first test that is met or by none being met.
use mathlib.Core.Path.{◌≡◌}
use mathlib.Core.Bool.{true, false}
use mathlib.Core.List.{List}
use Prim.Native.Nat.{ℕ, ◌/◌, ◌≤◌, ◌<◌}
use borrow.Author.Tests.{lt-ltb, le-ltb}
use lib.ListN.{length, get_or, drop}
use Rattle.base.specs.Choice.{list}
use Rattle.std.proofs.Common.{Result, Ok, Err}
use Rattle.base.specs.Refusal.{number, Answered, refused, found, answered}
use Rattle.base.specs.declared.Refusal.{Refusal}
use Rattle.base.proofs.Laws.{length_list}
use Rattle.printing.specs.Put.{put}
use Rattle.recording.specs.Recording.{bodies, sections_in, count_at, recording_in}
use Rattle.recording.specs.Test.{is_bad_in}
use Rattle.recording_read.specs.Read.{head_of, read_answer, filled}
use Rattle.recording_read.specs.declared.Head.{Head}

-- with bytes, and with memory lent for counts and for events
module _ (bs counts events : List ℕ) where
  abbrev answer : Answered Head
  answer = read_answer bs (length counts) (length events)

  -- what is answered, and what stands in the memory after it
  abbrev Read : Result Head Refusal → List ℕ → List ℕ → Type 0
  Read r c e =
      (answered r ≡ answer)
      × ((c ≡ filled counts (recording_in bs).counts answer) × (e ≡ filled events (recording_in bs).events answer))

  refuses : (x : Refusal) → refused (number x) ≡ answer → Read (Err x) counts events
  refuses x e = (e, (rw (← e), rw (← e)))

  pub is_bad_lem : is_bad_in bs ≡ true → Read (Err Refusal.Recording) counts events
  is_bad_lem e = refuses Refusal.Recording (rw e)

  -- by the number of sections and the events as they were read
  module _ (good : is_bad_in bs ≡ false) (n : ℕ) (text : List ℕ) (p : n ≡ sections_in bs)
      (q : text ≡ drop (bodies n) bs) where
    pub few_words : length counts < n → Read (Err Refusal.Buffer) counts events
    unfolding recording_in
    few_words h = refuses Refusal.Buffer (rw (good, length_list, ← p, lt-ltb (length counts) n h))

    -- there are words for the counts
    module _ (words : n ≤ length counts) where
      pub few_bytes : length events < length text → Read (Err Refusal.Buffer) counts events
      unfolding recording_in
      few_bytes h =
          let short = lt-ltb (length events) (length text) h in
          refuses Refusal.Buffer (rw (good, length_list, ← p, ← q, le-ltb (length counts) n words, short))

      module _ (room : length text ≤ length events) where
        finds : found (head_of (recording_in bs)) ≡ answer
        unfolding recording_in
        finds =
            let long = le-ltb (length events) (length text) room in
            rw (good, length_list, ← p, ← q, le-ltb (length counts) n words, long)

        pub is_read : (nodes : ℕ) (c e : List ℕ) → nodes ≡ get_or bs 0 0 → c ≡ put counts 0 (list 0 n (count_at bs))
            → e ≡ put events 0 text
            → Read (Ok (record { nodes = nodes; sections = n; events = length text / 4 })) c e
        unfolding recording_in
        is_read nodes c e r s t = (
          rw (← finds, length_list, ← p, ← q, r),
          (rw (← finds, ← p) s, rw (← finds, ← p, ← q) t),
        )
