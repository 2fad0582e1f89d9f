-- What the part promises, at the limits of this build. Each field cites the definitions that the contracts of the functions cite, so
-- that a change of either is seen here. Carried by contracts alone: that every call ends, touches nothing but what is lent, and gives
-- the state, answer and bytes of its definition (the functions of crates/barrier_c/src/lib.rt and crates/recording_c/src/lib.rt).
use Rattle.std.specs.Prelude.{◌≡◌, ◌≢◌, Bool, true, false, ℕ, ◌+◌, ◌^◌, ◌≤◌, ◌<◌, eqb, length, get_or}
use Rattle.std.proofs.Math.Option.{some}
use mathlib.Core.List.{List, [], ◌∷◌, Memᴰ}
use Rattle.base.specs.Choice.{choose}
use Rattle.base.specs.Limits.{base}
use Rattle.base.specs.Refusal.{found}
use Rattle.base.specs.declared.Kind.{Kind}
use Rattle.base.specs.declared.Kind.TheVariants.{Job, Note}
use Rattle.tree.specs.Tree.{dimension, run_of, alone, hermit, neighbour, messenger, place, awaited, receivers}
use Rattle.tree.specs.Tree.{inside, distance, InShell}
use Rattle.tree.specs.Lookups.{dimension_lookup, place_lookup, distance_lookup}
use Rattle.frame.specs.Frame.{frame_bytes, read_frame, write_frame}
use Rattle.frame.specs.Shapes.{Shaped, Bytes}
use Rattle.frame.specs.declared.Frame.{Frame}
use Rattle.node.specs.Sums.{first_at, second_at}
use Rattle.node.specs.Agree.{clauses}
use Rattle.node.specs.Change.{with_busy}
use Rattle.node.specs.Answers.{Given, Outcome, done, outcome_number, waits, barred, barrier_number}
use Rattle.node.specs.Barrier.{barrier}
use Rattle.node.specs.Calls.{send, take, idle, frame_in}
use Rattle.node.specs.declared.Node.{Node}
use Rattle.node_calls.specs.Fresh.{fresh_on, fresh_words}
use Rattle.fields.specs.Fields.{write_on, written_on, frame_words}
use Rattle.barrier_c.specs.Exports.{answer_on, words_on, barrier_on, barrier_state, barrier_buffer, detail_words}
use Rattle.barrier_c.specs.Exports.{lookup_number, number_words, place_words}
use Rattle.events.specs.Board.{Event, run}
use Rattle.runs.specs.Claim.{Safe, Lives, NoLoss}
use Rattle.runs.specs.Facts.{Facts}
use Rattle.runs.specs.LinkBytes.{LinkBytes}
use Rattle.starred.specs.Rows.{All, table}
use Rattle.rehearsed.specs.Run.{EveryRehearsal}
use Rattle.rehearsed.specs.Fits.{EveryTextFits}
use Rattle.items.specs.declared.Item.{Item}
use Rattle.recording.specs.Recording.{Recording, recording_in}
use Rattle.recording.specs.Laws.{Survives}
use Rattle.recording_write.specs.Write.{write_answer, written_on as recordingOn}
use Rattle.recording_read.specs.Read.{read_answer, filled}
use Rattle.replays.specs.Replay.{replay, replay_answer}
use Rattle.replayed.specs.Run.{EveryReplay}
use Rattle.recording_answers.specs.Words.{head_words, position_words}

abbrev pub among : List ℕ → ℕ → Bool
among [] x = false
among (n ∷ ns) x = choose (eqb x n) true (among ns x)

abbrev pub OneOf : List ℕ → ℕ → Type 0
OneOf ns x = among ns x ≡ true

-- ---- 1. Any input: an answer of ours, and a refused call leaves all that was lent as it was

-- a call on words answers one of its numbers, and leaves the words with every answer but 0
pub record Answers (ns : List ℕ) (call : Node → Given Outcome) : Type 0 where
  pub ours : (ws : List ℕ) → OneOf ns (answer_on base call ws)
  pub stay : (ws : List ℕ) → answer_on base call ws ≢ 0 → words_on base call ws ≡ ws

pub record AnyInput : Type 0 where
  pub fresh : (P a : ℕ) (ws : List ℕ) → OneOf (1 ∷ 2 ∷ 13 ∷ 0 ∷ []) (outcome_number (fresh_on base P a ws))
  pub fresh_stays : (P a : ℕ) (ws : List ℕ) → outcome_number (fresh_on base P a ws) ≢ 0 → fresh_words base P a ws ≡ ws
  pub sends : (to : ℕ) → Answers (13 ∷ 2 ∷ 3 ∷ 4 ∷ 5 ∷ 0 ∷ []) (λ n. send base n to)
  pub takes : (kind : Kind) (from phase : ℕ)
      → Answers (13 ∷ 2 ∷ 3 ∷ 7 ∷ 8 ∷ 6 ∷ 0 ∷ []) (λ n. take base n kind from phase)
  pub idles : Answers (13 ∷ 0 ∷ []) (idle base)
  pub frames : (bs : List ℕ)
      → Answers (13 ∷ 9 ∷ 10 ∷ 2 ∷ 3 ∷ 11 ∷ 7 ∷ 8 ∷ 24 ∷ 0 ∷ []) (λ n. frame_in base n bs)
  pub steps : (ws : List ℕ) (room : ℕ)
      → OneOf (13 ∷ 12 ∷ 14 ∷ 20 ∷ 21 ∷ 22 ∷ 23 ∷ []) (barrier_number (barrier_on base ws room))
  pub step_stays : (ws buf ds : List ℕ) (x : ℕ) → barrier_on base ws (length buf) ≡ barred x
      → (barrier_state base ws (length buf) ≡ ws)
      × ((barrier_buffer base ws buf ≡ buf) × (detail_words ds (barrier_on base ws (length buf)) ≡ ds))
  pub dimensions : (P : ℕ) → OneOf (1 ∷ 0 ∷ []) (lookup_number (dimension_lookup base P))
  pub places : (P k a : ℕ) → OneOf (1 ∷ 2 ∷ 10 ∷ 0 ∷ []) (lookup_number (place_lookup base P k a))
  pub distances : (P a b : ℕ) → OneOf (1 ∷ 2 ∷ 3 ∷ 0 ∷ []) (lookup_number (distance_lookup base P a b))
  -- what is lent for the answer stays too
  pub dimension_stays : (P : ℕ) (ws : List ℕ) → lookup_number (dimension_lookup base P) ≢ 0
      → number_words (dimension_lookup base P) ws ≡ ws
  pub place_stays : (P k a : ℕ) (ws : List ℕ) → lookup_number (place_lookup base P k a) ≢ 0
      → place_words (place_lookup base P k a) ws ≡ ws
  pub distance_stays : (P a b : ℕ) (ws : List ℕ) → lookup_number (distance_lookup base P a b) ≢ 0
      → number_words (distance_lookup base P a b) ws ≡ ws
  pub writes : (P room : ℕ) (ws : List ℕ) → OneOf (1 ∷ 10 ∷ 2 ∷ 14 ∷ 0 ∷ []) (lookup_number (write_on base P ws room))
  pub write_stays : (P : ℕ) (ws buf size : List ℕ) → lookup_number (write_on base P ws (length buf)) ≢ 0
      → (written_on base P ws buf ≡ buf) × (number_words (write_on base P ws (length buf)) size ≡ size)
  pub reads : (P : ℕ) (bs : List ℕ) → OneOf (1 ∷ 9 ∷ 10 ∷ 2 ∷ 0 ∷ []) (lookup_number (read_frame base P bs))
  pub read_stays : (P : ℕ) (bs ws : List ℕ) → lookup_number (read_frame base P bs) ≢ 0
      → frame_words (read_frame base P bs) ws ≡ ws

-- ---- 2. Jobs and notes, in any state

pub record Kinds : Type 0 where
  -- a note is taken as a job is, but that the node is busy or idle as it was
  pub notes : (n : Node) (from phase : ℕ)
      → ((take base n Note from phase).answer ≡ (take base n Job from phase).answer)
      × ((take base n Note from phase).node ≡ with_busy (take base n Job from phase).node n.busy)
  -- a job that is taken makes it busy
  pub jobs : (n : Node) (from phase : ℕ) → (take base n Job from phase).answer ≡ done
      → (take base n Job from phase).node.busy ≡ true

-- ---- 3. The clause that a wait names, in any state

-- whether a frame is stored for the position's step
abbrev pub is_stored : Node → Bool
is_stored n = choose (eqb n.pass 1) (first_at n n.dim).present (second_at n n.dim).present

pub record Waits : Type 0 where
  -- it fails, and all with lower numbers hold
  pub fails : (n : Node) (room c : ℕ) → (barrier base n room).answer ≡ waits c
      → get_or (clauses base n n.pass n.dim) c true ≡ false
  pub lower : (n : Node) (room c : ℕ) → (barrier base n room).answer ≡ waits c
      → (i : ℕ) → i < c → get_or (clauses base n n.pass n.dim) i true ≡ true
  -- it is 0 where no frame is stored, and nowhere else
  pub unstored : (n : Node) (room c : ℕ) → (barrier base n room).answer ≡ waits c → is_stored n ≡ false → c ≡ 0
  pub stored : (n : Node) (room c : ℕ) → (barrier base n room).answer ≡ waits c → is_stored n ≡ true → c ≢ 0

-- ---- 4. The tree, and frames that survive writing and reading

pub record Tree (P : ℕ) : Type 0 where
  -- the dimension is the smallest number with P ≤ 2 ^ it
  pub fits : P ≤ 2 ^ dimension P
  pub smallest : (q : ℕ) → P ≤ 2 ^ q → dimension P ≤ q
  -- who sends to whom, and who awaits whom, are one
  pub sent : (k a b : ℕ) → a < P → Memᴰ b (receivers P k a) → (b < P) × (awaited P k b ≡ some a)
  pub awaits : (k a b : ℕ) → b < P → awaited P k b ≡ some a → Memᴰ b (receivers P k a)
  -- neighbours await each other
  pub neighbours : (k a b : ℕ) → a < P → place P k a ≡ neighbour b
      → (receivers P k a ≡ b ∷ []) × (awaited P k a ≡ some b) × (awaited P k b ≡ some a)
  -- a hermit sends nothing, and awaits the next node, the messenger
  pub hermits : (k a b : ℕ) → place P k a ≡ hermit b → (receivers P k a ≡ []) × (awaited P k a ≡ some b)
  pub hermit_next : (k a b : ℕ) → a < P → place P k a ≡ hermit b
      → (b ≡ a + 1) × ((c : ℕ) × (place P k b ≡ messenger c a))
  -- a messenger sends to its neighbour, whom it awaits, and then to the hermit before it; both await it
  pub messengers : (k a b h : ℕ) → a < P → place P k a ≡ messenger b h
      → (receivers P k a ≡ b ∷ h ∷ []) × (awaited P k a ≡ some b) × (awaited P k b ≡ some a)
      × (awaited P k h ≡ some a)
  pub hermit_before : (k a b h : ℕ) → a < P → place P k a ≡ messenger b h → (h + 1 ≡ a) × (place P k h ≡ hermit a)
  -- a node and its neighbour, the first that it sends to, stand at the same place in their runs
  pub same_place : (k a b : ℕ) (bs : List ℕ) → k < dimension P → a < P → receivers P k a ≡ b ∷ bs
      → (run_of P k a).low + b ≡ (run_of P k b).low + a
  -- a node is alone in dimension 0 only
  pub alones : (k a : ℕ) → a < P → k < dimension P → place P k a ≡ alone → k ≡ 0
  -- two nodes are in one run of dimension k exactly if k is above their distance
  pub near : (k a b : ℕ) → a < P → b < P → a ≢ b → k ≤ dimension P → inside (run_of P k a) b ≡ true → distance P a b < k
  pub nearer : (k a b : ℕ) → a < P → b < P → a ≢ b → k ≤ dimension P → distance P a b < k → inside (run_of P k a) b ≡ true
  pub below : (a b : ℕ) → a < P → b < P → a ≢ b → distance P a b < dimension P
  -- the distance is the same both ways
  pub symmetric : (a b : ℕ) → a < P → b < P → a ≢ b → distance P a b ≡ distance P b a
  -- shell k of a node is the run of the node that it awaits in k, and nobody where it is alone
  pub shells : (k a w b : ℕ) → k < dimension P → a < P → awaited P k a ≡ some w
      → (InShell P k a b → inside (run_of P k w) b ≡ true) × (inside (run_of P k w) b ≡ true → InShell P k a b)
  pub alone_shells : (k a b : ℕ) → k < dimension P → a < P → place P k a ≡ alone → InShell P k a b → ⊥
  -- the nodes of a run have the same shells from its dimension up
  pub same_shells : (k m a c b : ℕ) → a < P → k ≤ m → m < dimension P → inside (run_of P k a) c ≡ true
      → (InShell P m a b → InShell P m c b) × (InShell P m c b → InShell P m a b)

pub record Frames (P : ℕ) : Type 0 where
  pub written_read : (f : Frame) → Shaped f → (room n : ℕ) → write_frame base P f room ≡ found n
      → read_frame base P (frame_bytes (dimension P) f) ≡ found f
  pub read_bytes : (bs : List ℕ) → Bytes bs → (f : Frame) → read_frame base P bs ≡ found f
      → frame_bytes (dimension P) f ≡ bs
  pub read_written : (bs : List ℕ) (f : Frame) → read_frame base P bs ≡ found f → (room : ℕ) → length bs ≤ room
      → write_frame base P f room ≡ found (length bs)
  pub same_bytes : (f g : Frame) → Shaped f → Shaped g → (room m n : ℕ) → write_frame base P f room ≡ found m
      → write_frame base P g room ≡ found n → frame_bytes (dimension P) f ≡ frame_bytes (dimension P) g → f ≡ g

-- ---- 5. Every run of a board

pub record Runs (P : ℕ) : Type 0 where
  pub safe : (es : List Event) → Safe base P (run base P es)
  pub lives : (es : List Event) → NoLoss es → Lives base P (run base P es)
  -- and what a maker may rely on besides, losses or not
  pub facts : (es : List Event) → Facts base P (run base P es)

-- ---- 6. Any recording: an answer of ours, and what is lent stays where it is refused

pub record Recordings : Type 0 where
  pub reads : (bs : List ℕ) (counts events : ℕ) → OneOf (18 ∷ 14 ∷ 0 ∷ []) (lookup_number (read_answer bs counts events))
  pub read_stays : (bs counts events head : List ℕ) → let read = read_answer bs (length counts) (length events) in
      lookup_number read ≢ 0
      → (filled counts (recording_in bs).counts read ≡ counts) × (filled events (recording_in bs).events read ≡ events)
      × (head_words read head ≡ head)
  pub writes : (r : Recording) (room : ℕ) → OneOf (18 ∷ 14 ∷ 0 ∷ []) (lookup_number (write_answer r room))
  pub write_stays : (r : Recording) (buf size : List ℕ) → lookup_number (write_answer r (length buf)) ≢ 0
      → (recordingOn r buf ≡ buf) × (number_words (write_answer r (length buf)) size ≡ size)
  pub replays : (bs : List ℕ) (items : List Item) (bytes : List ℕ)
      → OneOf (18 ∷ 19 ∷ 0 ∷ []) (replay_answer bs items bytes).why
  -- a replay that is refused with 19 has been played up to the answer that differs
  pub replay_stays : (bs : List ℕ) (items : List Item) (bytes position : List ℕ) → (replay_answer bs items bytes).why ≡ 18
      → ((replay bs items bytes).items ≡ items) × ((replay bs items bytes).bytes ≡ bytes)
      × (position_words (replay_answer bs items bytes) position ≡ position)

-- ---- All of it

pub record Promises : Type 0 where
  pub any_input : AnyInput
  pub kinds : Kinds
  pub waits : Waits
  pub tree : (P : ℕ) → 1 ≤ P → P ≤ base.nodes → Tree P
  pub frames : (P : ℕ) → 1 ≤ P → P ≤ base.nodes → Frames P
  pub runs : (P : ℕ) → 1 ≤ P → P ≤ base.nodes → Runs P
  -- the bytes on a link are those that the barrier call has written
  pub links : LinkBytes
  -- the boards whose numbers are written out
  pub starred : All table
  -- every rehearsal is a run, and its text fits what the program lends for it
  pub rehearsals : EveryRehearsal
  pub texts : EveryTextFits
  pub any_recording : Recordings
  -- recordings survive writing and reading, and a replay that ends well is a run
  pub recordings : Survives
  pub replays : EveryReplay
