-- Reader, writer and replay answer one of their numbers, and leave what was lent where they refuse it as no recording.
use mathlib.Core.Path.{◌≡◌, refl, ap}
use mathlib.Core.Bool.{Bool, true, false}
use mathlib.Core.List.{List, [], ◌∷◌}
use Prim.Native.Nat.{ℕ}
use native.Mathlib.Omega.{arith}
use lib.Dec.{ltb}
use lib.ListN.{length}
use borrow.Author.Tests.{eq-eqb}
use Rattle.base.specs.Choice.{choose}
use Rattle.base.specs.Refusal.{found, when}
use Rattle.base.specs.declared.Refusal.{Refusal}
use Rattle.base.proofs.Laws.{choose_yes, cases}
use Rattle.items.specs.declared.Item.{Item}
use Rattle.recording.specs.Recording.{Recording, event_count, bytes_of, recording_in}
use Rattle.recording.specs.Test.{is_bad, is_bad_in}
use Rattle.recording_write.specs.Write.{write_answer, left_by}
use Rattle.recording_read.specs.Read.{is_short, head_of, read_answer, filled}
use Rattle.replay_ends.specs.declared.Replayed.{Replayed}
use Rattle.replays.specs.Replay.{Course, replay, replay_answer}
use Rattle.recording_answers.specs.Words.{head_words, position_words}
use Rattle.barrier_c.specs.Exports.{lookup_number}
use Rattle.promises.specs.Promises.{OneOf, Recordings}
use Rattle.promises.proofs.AnyInput.{looked_up_lem, refused_stays, number_stays}

reads : (bs : List ℕ) (counts events : ℕ) → OneOf (18 ∷ 14 ∷ 0 ∷ []) (lookup_number (read_answer bs counts events))
reads bs counts events =
    looked_up_lem (18 ∷ 14 ∷ 0 ∷ [])
    (when (is_bad_in bs) Refusal.Recording ∷ when (is_short (recording_in bs) counts events) Refusal.Buffer ∷ [])
    (found (head_of (recording_in bs))) refl refl

writes : (r : Recording) (room : ℕ) → OneOf (18 ∷ 14 ∷ 0 ∷ []) (lookup_number (write_answer r room))
writes r room =
    looked_up_lem (18 ∷ 14 ∷ 0 ∷ [])
    (when (is_bad r) Refusal.Recording ∷ when (ltb room (length (bytes_of r))) Refusal.Buffer ∷ [])
    (found (length (bytes_of r))) refl refl

-- ---- replays

replays : (bs : List ℕ) (items : List Item) (bytes : List ℕ)
    → OneOf (18 ∷ 19 ∷ 0 ∷ []) (replay_answer bs items bytes).why
unfolding replay_answer
replays bs items bytes =
    let ours : Replayed → Type 0 = λ r. OneOf (18 ∷ 19 ∷ 0 ∷ []) r.why in
    cases ours (is_bad_in bs) _ _ (λ e. refl)
    (λ e. cases ours (ltb (replay bs items bytes).same (event_count (recording_in bs))) _ _ (λ e. refl) (λ e. refl))

-- only what is no recording is answered 18
bad_by : (bad late : Bool) (x y z : Replayed) → y.why ≡ 19 → z.why ≡ 0 → (choose bad x (choose late y z)).why ≡ 18
    → bad ≡ true
bad_by true late x y z a b e = refl
bad_by false true x y z a b e = absurd (omega arith)
bad_by false false x y z a b e = absurd (omega arith)

replay_stays_lem : (bs : List ℕ) (items : List Item) (bytes position : List ℕ) → (replay_answer bs items bytes).why ≡ 18
    → ((replay bs items bytes).items ≡ items) × ((replay bs items bytes).bytes ≡ bytes)
    × (position_words (replay_answer bs items bytes) position ≡ position)
unfolding replay_answer replay
replay_stays_lem bs items bytes position e =
    let n = event_count (recording_in bs) in
    let bad = bad_by (is_bad_in bs) (ltb (replay bs items bytes).same n) _ _ _ refl refl e in
    let none = choose_yes _ _ bad in (
      ap (λ (c : Course). c.items) none,
      ap (λ (c : Course). c.bytes) none,
      choose_yes _ _ (eq-eqb (replay_answer bs items bytes).why 18 e),
    )

pub recordings : Recordings
recordings =
    record {
      reads = reads;
      read_stays =
          λ bs counts events head z.
          let r = read_answer bs (length counts) (length events) in (
            refused_stays (filled counts (recording_in bs).counts) counts (λ x. refl) r z,
            refused_stays (filled events (recording_in bs).events) events (λ x. refl) r z,
            refused_stays (λ q. head_words q head) head (λ x. refl) r z,
          );
      writes = writes;
      write_stays =
          λ r buf size z. (
            refused_stays (left_by r buf) buf (λ x. refl) (write_answer r (length buf)) z,
            number_stays (write_answer r (length buf)) size z,
          );
      replays = replays;
      replay_stays = replay_stays_lem;
    }
