-- Every call answers one of its numbers, and leaves what was lent where it refuses.
use mathlib.Core.Path.{◌≡◌, refl, ap, ◌∙◌}
use mathlib.Core.Logic.{◌≢◌}
use mathlib.Core.Bool.{Bool, true, false, not}
use mathlib.Core.List.{List, [], ◌∷◌}
use Prim.Native.Nat.{ℕ}
use lib.Dec.{ltb, leb, eqb}
use lib.ListN.{length, get_or}
use Rattle.base.specs.Choice.{choose, both, either}
use Rattle.base.specs.Limits.{base}
use Rattle.base.specs.Refusal.{Check, number, Answered, refused as noAnswer, found, when, in_order}
use Rattle.base.specs.declared.Refusal.{Refusal}
use Rattle.base.specs.declared.Kind.{Kind}
use Rattle.base.proofs.Laws.{cases, both_true, Stops, order_cases}
use Rattle.base.proofs.Limits.{fits_base}
use Rattle.tree.specs.Tree.{Place, dimension, place, distance}
use Rattle.tree.specs.Lookups.{bad_board, dimension_lookup, place_lookup, distance_lookup}
use Rattle.frame.specs.Frame.{frame_length, frame_bytes, fields_of, bad_step, numbers_ok, read_checks, read_frame, write_frame, over}
use Rattle.frame.specs.declared.Frame.{Frame}
use Rattle.node.specs.Answers.{Given, Outcome, done, dropped, refused, outcome_number, Barrier, barred, barrier_number}
use Rattle.node.specs.Calls.{fresh, send, take, idle, frame_in}
use Rattle.node.specs.Barrier.{barrier, lent_after, barrier_bytes}
use Rattle.node.specs.declared.Node.{Node}
use Rattle.node.proofs.Ways.{FreshWay, fresh_way, SendWay, send_way, TakeWay, take_way, IdleWay, idle_way}
use Rattle.node.proofs.Ways.{FrameWay, frame_way, CallWay, call_way}
use Rattle.node.proofs.Passes.{barrier_back}
use Rattle.layout.specs.Places.{state_words}
use Rattle.layout.specs.Held.{is_whole, unpacked, holding}
use Rattle.layout.proofs.Repack.{repacked}
use Rattle.node_calls.specs.Fresh.{with_room, fresh_on, put_state, fresh_words}
use Rattle.fields.specs.Fields.{at_phase, frame_from, write_on, written_on, frame_words}
use Rattle.barrier_c.specs.Exports.{answer_on, words_on, barrier_on, barrier_state, barrier_buffer, detail_words, lookup_number}
use Rattle.barrier_c.specs.Exports.{number_words, place_words}
use Rattle.promises.specs.Promises.{among, OneOf, Answers, AnyInput}

-- ---- numbers of checks

abbrev covers : List ℕ → List Check → Bool
covers ns [] = true
covers ns (c ∷ cs) = both (among ns (number c.word)) (covers ns cs)

stops_among : (ns : List ℕ) {cs : List Check} {x : ℕ} → covers ns cs ≡ true → Stops cs x → OneOf ns x
stops_among ns e (Stops.here {c = c} {cs = cs} m) = (both_true (among ns (number c.word)) (covers ns cs) e).0
stops_among ns e (Stops.later {c = c} {cs = cs} m s) =
    stops_among ns (both_true (among ns (number c.word)) (covers ns cs) e).1 s

-- ---- calls on words

module _ (ns : List ℕ) (call : Node → Given Outcome) where
  pub answers : among ns 13 ≡ true → ((n : Node) → OneOf ns (outcome_number (call n).answer))
      → ((n : Node) → outcome_number (call n).answer ≢ 0 → (call n).node ≡ n) → Answers ns call
  answers state ours back = record { ours = all; stay = stays }
    where
      all : (ws : List ℕ) → OneOf ns (answer_on base call ws)
      all ws = cases (λ o. OneOf ns (outcome_number o)) (is_whole base ws) _ _ (λ e. ours (unpacked ws)) (λ e. state)

      go : (ws : List ℕ) (t : Bool) → is_whole base ws ≡ t
          → outcome_number (choose t (call (unpacked ws)).answer (refused 13)) ≢ 0
          → choose t (holding ws (call (unpacked ws)).node) ws ≡ ws
      go ws true e z = ap (holding ws) (back (unpacked ws) z) ∙ repacked base fits_base ws e
      go ws false e z = refl

      stays : (ws : List ℕ) → answer_on base call ws ≢ 0 → words_on base call ws ≡ ws
      stays ws = go ws (is_whole base ws) refl

abbrev Ours : List ℕ → Given Outcome → Type 0
Ours ns g = OneOf ns (outcome_number g.answer)

abbrev Back : Node → Given Outcome → Type 0
Back n g = outcome_number g.answer ≢ 0 → g.node ≡ n

pub sends : (to : ℕ) → Answers (13 ∷ 2 ∷ 3 ∷ 4 ∷ 5 ∷ 0 ∷ []) (λ n. send base n to)
sends to = answers _ (λ n. send base n to) refl (λ n. ours (send_way base n to)) (λ n. back (send_way base n to))
  where
    ours : {n : Node} {g : Given Outcome} → SendWay base n to g → Ours (13 ∷ 2 ∷ 3 ∷ 4 ∷ 5 ∷ 0 ∷ []) g
    ours (SendWay.refused x s) = stops_among (13 ∷ 2 ∷ 3 ∷ 4 ∷ 5 ∷ 0 ∷ []) refl s
    ours (SendWay.done v h o w r) = refl

    back : {n : Node} {g : Given Outcome} → SendWay base n to g → Back n g
    back (SendWay.refused x s) z = refl
    back (SendWay.done v h o w r) z = absurd (z refl)

pub takes : (kind : Kind) (from phase : ℕ)
    → Answers (13 ∷ 2 ∷ 3 ∷ 7 ∷ 8 ∷ 6 ∷ 0 ∷ []) (λ n. take base n kind from phase)
takes kind from phase =
    answers _ (λ n. take base n kind from phase) refl (λ n. ours (take_way base n kind from phase))
    (λ n. back (take_way base n kind from phase))
  where
    ours : {n : Node} {g : Given Outcome} → TakeWay base n kind from phase g → Ours (13 ∷ 2 ∷ 3 ∷ 7 ∷ 8 ∷ 6 ∷ 0 ∷ []) g
    ours (TakeWay.refused x s) = stops_among (13 ∷ 2 ∷ 3 ∷ 7 ∷ 8 ∷ 6 ∷ 0 ∷ []) refl s
    ours (TakeWay.done v h o d r) = refl

    back : {n : Node} {g : Given Outcome} → TakeWay base n kind from phase g → Back n g
    back (TakeWay.refused x s) z = refl
    back (TakeWay.done v h o d r) z = absurd (z refl)

pub idles : Answers (13 ∷ 0 ∷ []) (idle base)
idles = answers _ (idle base) refl (λ n. ours (idle_way base n)) (λ n. back (idle_way base n))
  where
    ours : {n : Node} {g : Given Outcome} → IdleWay base n g → Ours (13 ∷ 0 ∷ []) g
    ours (IdleWay.refused x s) = stops_among (13 ∷ 0 ∷ []) refl s
    ours (IdleWay.done v) = refl

    back : {n : Node} {g : Given Outcome} → IdleWay base n g → Back n g
    back (IdleWay.refused x s) z = refl
    back (IdleWay.done v) z = absurd (z refl)

pub frames : (bs : List ℕ)
    → Answers (13 ∷ 9 ∷ 10 ∷ 2 ∷ 3 ∷ 11 ∷ 7 ∷ 8 ∷ 24 ∷ 0 ∷ []) (λ n. frame_in base n bs)
frames bs = answers _ (λ n. frame_in base n bs) refl (λ n. ours (frame_way base n bs)) (λ n. back (frame_way base n bs))
  where
    ours : {n : Node} {g : Given Outcome} → FrameWay base n bs g
        → Ours (13 ∷ 9 ∷ 10 ∷ 2 ∷ 3 ∷ 11 ∷ 7 ∷ 8 ∷ 24 ∷ 0 ∷ []) g
    ours (FrameWay.refused x s) = stops_among (13 ∷ 9 ∷ 10 ∷ 2 ∷ 3 ∷ 11 ∷ 7 ∷ 8 ∷ 24 ∷ 0 ∷ []) refl s
    ours (FrameWay.early c d) = refl
    ours (FrameWay.foreign c d e f) = refl
    ours (FrameWay.late c d) = refl
    ours (FrameWay.done c d) = refl

    back : {n : Node} {g : Given Outcome} → FrameWay base n bs g → Back n g
    back (FrameWay.refused x s) z = refl
    back (FrameWay.early c d) z = refl
    back (FrameWay.foreign c d e f) z = refl
    back (FrameWay.late c d) z = refl
    back (FrameWay.done c d) z = absurd (z refl)

-- ---- fresh

pub fresh_ours : (P a : ℕ) (ws : List ℕ) → OneOf (1 ∷ 2 ∷ 13 ∷ 0 ∷ []) (outcome_number (fresh_on base P a ws))
unfolding fresh_on
fresh_ours P a ws = go (leb (state_words (dimension P)) (length ws)) (fresh_way base P a)
  where
    go : (room : Bool) {g : Given Outcome} → FreshWay base P a g
        → OneOf (1 ∷ 2 ∷ 13 ∷ 0 ∷ []) (outcome_number (with_room room g.answer))
    go room (FreshWay.refused x s) = stops_among (1 ∷ 2 ∷ 13 ∷ 0 ∷ []) refl s
    go true (FreshWay.done b h) = refl
    go false (FreshWay.done b h) = refl

pub fresh_stays_lem : (P a : ℕ) (ws : List ℕ) → outcome_number (fresh_on base P a ws) ≢ 0 → fresh_words base P a ws ≡ ws
unfolding fresh_words
fresh_stays_lem P a ws = go (fresh_on base P a ws)
  where
    go : (o : Outcome) → outcome_number o ≢ 0 → put_state (dimension P) (fresh base P a).node ws o ≡ ws
    go done z = absurd (z refl)
    go dropped z = refl
    go (refused x) z = refl

-- ---- the barrier call

pub steps : (ws : List ℕ) (room : ℕ)
    → OneOf (13 ∷ 12 ∷ 14 ∷ 20 ∷ 21 ∷ 22 ∷ 23 ∷ []) (barrier_number (barrier_on base ws room))
steps ws room =
    cases (λ o. OneOf (13 ∷ 12 ∷ 14 ∷ 20 ∷ 21 ∷ 22 ∷ 23 ∷ []) (barrier_number o)) (is_whole base ws) _ _ (λ e. go (call_way base (unpacked ws) room)) (λ e. refl)
  where
    go : {g : Given Barrier} → CallWay base (unpacked ws) room g
        → OneOf (13 ∷ 12 ∷ 14 ∷ 20 ∷ 21 ∷ 22 ∷ 23 ∷ []) (barrier_number g.answer)
    go (CallWay.refused x s) = stops_among (13 ∷ 12 ∷ 14 ∷ 20 ∷ 21 ∷ 22 ∷ 23 ∷ []) refl s
    go (CallWay.sends first rest v b t r l) = refl
    go (CallWay.waits v b d s a) = refl
    go (CallWay.next v b d a l) = refl
    go (CallWay.second v b d s a l p) = refl
    go (CallWay.leaves v b d s a l p) = refl
    go (CallWay.single v b d) = refl

bytes_back : (n : Node) (buf : List ℕ) (x : ℕ) → (barrier base n (length buf)).answer ≡ barred x
    → barrier_bytes base n buf ≡ buf
unfolding barrier_bytes
bytes_back n buf x e = ap (lent_after n buf) e

pub step_stays_lem : (ws buf ds : List ℕ) (x : ℕ) → barrier_on base ws (length buf) ≡ barred x
    → (barrier_state base ws (length buf) ≡ ws)
    × ((barrier_buffer base ws buf ≡ buf) × (detail_words ds (barrier_on base ws (length buf)) ≡ ds))
step_stays_lem ws buf ds x e =
    let s = go (is_whole base ws) refl e in (s.0, (s.1, ap (detail_words ds) e))
  where
    go : (t : Bool) → is_whole base ws ≡ t → choose t (barrier base (unpacked ws) (length buf)).answer (barred 13) ≡ barred x
        → (choose t (holding ws (barrier base (unpacked ws) (length buf)).node) ws ≡ ws)
        × (choose t (barrier_bytes base (unpacked ws) buf) buf ≡ buf)
    go true w q = (
      ap (holding ws) (barrier_back base (unpacked ws) (length buf) x q) ∙ repacked base fits_base ws w,
      bytes_back (unpacked ws) buf x q,
    )
    go false w q = (refl, refl)

-- ---- the lookups, and frames

-- what is found gives 0, and what is refused the number of a check
pub looked_up_lem : {A : Type 0} (ns : List ℕ) (cs : List Check) (r : Answered A) → covers ns cs ≡ true
    → OneOf ns (lookup_number r) → OneOf ns (lookup_number (in_order noAnswer cs r))
looked_up_lem ns cs r e z = order_cases noAnswer (λ q. OneOf ns (lookup_number q)) cs r (λ x s. stops_among ns e s) (λ p. z)

pub dimensions : (P : ℕ) → OneOf (1 ∷ 0 ∷ []) (lookup_number (dimension_lookup base P))
unfolding dimension_lookup
dimensions P = looked_up_lem (1 ∷ 0 ∷ []) (when (bad_board base P) Refusal.Board ∷ []) (found (dimension P)) refl refl

pub places : (P k a : ℕ) → OneOf (1 ∷ 2 ∷ 10 ∷ 0 ∷ []) (lookup_number (place_lookup base P k a))
unfolding place_lookup
places P k a =
    looked_up_lem (1 ∷ 2 ∷ 10 ∷ 0 ∷ [])
    (when (bad_board base P) Refusal.Board
    ∷ when (leb P a) Refusal.Stranger
    ∷ when (leb (dimension P) k) Refusal.Field
    ∷ [])
    (found (place P k a)) refl refl

pub distances : (P a b : ℕ) → OneOf (1 ∷ 2 ∷ 3 ∷ 0 ∷ []) (lookup_number (distance_lookup base P a b))
unfolding distance_lookup
distances P a b =
    looked_up_lem (1 ∷ 2 ∷ 3 ∷ 0 ∷ [])
    (when (bad_board base P) Refusal.Board
    ∷ when (either (leb P a) (leb P b)) Refusal.Stranger
    ∷ when (eqb a b) Refusal.Itself
    ∷ [])
    (found (distance P a b)) refl refl

pub reads : (P : ℕ) (bs : List ℕ) → OneOf (1 ∷ 9 ∷ 10 ∷ 2 ∷ 0 ∷ []) (lookup_number (read_frame base P bs))
unfolding read_frame
reads P bs =
    looked_up_lem (1 ∷ 9 ∷ 10 ∷ 2 ∷ 0 ∷ []) (when (bad_board base P) Refusal.Board ∷ read_checks base P bs)
    (found (fields_of (dimension P) bs)) refl refl

written : (P room : ℕ) (f : Frame) → OneOf (1 ∷ 10 ∷ 2 ∷ 14 ∷ 0 ∷ []) (lookup_number (write_frame base P f room))
unfolding write_frame
written P room f =
    let p = dimension P in
    looked_up_lem (1 ∷ 10 ∷ 2 ∷ 14 ∷ 0 ∷ [])
    (when (bad_board base P) Refusal.Board
    ∷ when (bad_step p f.pass f.dim) Refusal.Field
    ∷ when (not (numbers_ok base p f)) Refusal.Field
    ∷ when (leb P f.sender) Refusal.Stranger
    ∷ when (ltb room (frame_length p f.pass f.dim)) Refusal.Buffer
    ∷ [])
    (found (frame_length p f.pass f.dim)) refl refl

pub writes : (P room : ℕ) (ws : List ℕ) → OneOf (1 ∷ 10 ∷ 2 ∷ 14 ∷ 0 ∷ []) (lookup_number (write_on base P ws room))
writes P room ws =
    looked_up_lem (1 ∷ 10 ∷ 2 ∷ 14 ∷ 0 ∷ [])
    (when (bad_board base P) Refusal.Board ∷ when (leb 256 (get_or ws at_phase 0)) Refusal.Field ∷ [])
    (write_frame base P (frame_from ws) room) refl (written P room (frame_from ws))

-- what stays in each refusal, stays where the number is not 0
pub refused_stays : {A B : Type 0} (left : Answered A → B) (lent : B) → ((x : ℕ) → left (noAnswer x) ≡ lent)
    → (r : Answered A) → lookup_number r ≢ 0 → left r ≡ lent
refused_stays left lent f (noAnswer x) z = f x
refused_stays left lent f (found a) z = absurd (z refl)

pub number_stays : (r : Answered ℕ) (ws : List ℕ) → lookup_number r ≢ 0 → number_words r ws ≡ ws
number_stays r ws = refused_stays (λ q. number_words q ws) ws (λ x. refl) r

place_stays_lem : (r : Answered Place) (ws : List ℕ) → lookup_number r ≢ 0 → place_words r ws ≡ ws
place_stays_lem r ws = refused_stays (λ q. place_words q ws) ws (λ x. refl) r

pub write_stays_lem : (P : ℕ) (ws buf size : List ℕ) → lookup_number (write_on base P ws (length buf)) ≢ 0
    → (written_on base P ws buf ≡ buf) × (number_words (write_on base P ws (length buf)) size ≡ size)
write_stays_lem P ws buf size z =
    let r = write_on base P ws (length buf) in
    let new = frame_bytes (dimension P) (frame_from ws) in
    (refused_stays (over new buf) buf (λ x. refl) r z, number_stays r size z)

pub read_stays_lem : (P : ℕ) (bs ws : List ℕ) → lookup_number (read_frame base P bs) ≢ 0
    → frame_words (read_frame base P bs) ws ≡ ws
read_stays_lem P bs ws = refused_stays (λ q. frame_words q ws) ws (λ x. refl) (read_frame base P bs)

pub any_input_lem : AnyInput
any_input_lem =
    record {
      fresh = fresh_ours;
      fresh_stays = fresh_stays_lem;
      sends = sends;
      takes = takes;
      idles = idles;
      frames = frames;
      steps = steps;
      step_stays = step_stays_lem;
      dimensions = dimensions;
      places = places;
      distances = distances;
      dimension_stays = λ P. number_stays (dimension_lookup base P);
      place_stays = λ P k a. place_stays_lem (place_lookup base P k a);
      distance_stays = λ P a b. number_stays (distance_lookup base P a b);
      writes = writes;
      write_stays = write_stays_lem;
      reads = reads;
      read_stays = read_stays_lem;
    }
