-- Runs: the board, its events, what each event does, and the history that the claim speaks of (rule H1 to rule H5).
use Rattle.std.specs.Prelude.{Bool, true, false, List, [], ◌∷◌, ◌++◌, map, ℕ, zero, suc, ltb, eqb}
use Rattle.std.proofs.Math.Option.{Option, none, some}
use Rattle.base.specs.Choice.{choose, both}
use Rattle.base.specs.Limits.{Limits}
use Rattle.base.specs.declared.Kind.{Kind}
use Rattle.frame.specs.Frame.{frame_bytes}
use Rattle.node.specs.Sums.{dims}
use Rattle.node.specs.Change.{fresh_in}
use Rattle.node.specs.Answers.{Outcome, done, dropped, refused, Barrier, sent, waits, moved, left, barred}
use Rattle.node.specs.Calls.{wakes, send, take, idle, frame_in}
use Rattle.node.specs.Barrier.{frame_due, barrier}
use Rattle.node.specs.declared.Node.{Node}

-- a function changed at one place
abbrev pub put : {A : Type 0} → (ℕ → A) → ℕ → A → ℕ → A
put f i v j = choose (eqb j i) v (f j)

-- what is on a link: a job or a note with the phase byte of its sender, or the bytes of a frame
pub data Load : Type 0 where
  work : Kind → ℕ → Load
  frame : List ℕ → Load

-- An item under way. History (rule H5): the phase of its sender when it was sent, counted without end; and which of all
-- sends done it is, counted from 0.
pub record Item : Type 0 where
  pub from : ℕ
  pub to : ℕ
  pub load : Load
  pub phase : ℕ
  pub name : ℕ

-- The nodes, and the items of all links, oldest first. History (rule H5): how many barrier calls of a node have left,
-- counted without end; whether it is busy; for each send done, the phase of its message while that is untaken; the
-- sends done.
pub record Board : Type 0 where
  pub nodes : ℕ → Node
  pub items : List Item
  pub count : ℕ → ℕ
  pub busy : ℕ → Bool
  pub untaken : ℕ → Option ℕ
  pub sends : ℕ

-- rule H2: a send of a job or a note by a node to a number; an idle call; a barrier call with a buffer of a length; a
-- delivery from a node to another; a loss of the j-th item
pub data Event : Type 0 where
  sends : Kind → ℕ → ℕ → Event
  idles : ℕ → Event
  calls : ℕ → ℕ → Event
  delivers : ℕ → ℕ → Event
  loses : ℕ → Event

-- rule H1: fresh nodes, all busy, and empty links
abbrev pub start : ℕ → Board
start P =
    record {
      nodes = λ a. fresh_in P a 0;
      items = [];
      count = λ a. 0;
      busy = λ a. true;
      untaken = λ i. none;
      sends = 0;
    }

-- ---- The items of a link

abbrev pub on_link : ℕ → ℕ → Item → Bool
on_link a b m = both (eqb m.from a) (eqb m.to b)

abbrev pub oldest : ℕ → ℕ → List Item → Option Item
oldest a b [] = none
oldest a b (m ∷ ms) = choose (on_link a b m) (some m) (oldest a b ms)

-- the items without the oldest of a link
abbrev pub without : ℕ → ℕ → List Item → List Item
without a b [] = []
without a b (m ∷ ms) = choose (on_link a b m) ms (m ∷ without a b ms)

-- the items without the j-th
abbrev pub less_one : ℕ → List Item → List Item
less_one j [] = []
less_one zero (m ∷ ms) = ms
less_one (suc j) (m ∷ ms) = m ∷ less_one j ms

-- ---- What an answer does to the board

-- rule H3: the next call at the node gets this state
abbrev pub gave : Board → ℕ → Node → Board
gave w a n =
    record {
      nodes = put w.nodes a n;
      items = w.items;
      count = w.count;
      busy = w.busy;
      untaken = w.untaken;
      sends = w.sends;
    }

abbrev pub carries : Board → List Item → Board
carries w ms =
    record { nodes = w.nodes; items = ms; count = w.count; busy = w.busy; untaken = w.untaken; sends = w.sends }

abbrev pub turns : Board → ℕ → Bool → Board
turns w a t =
    record {
      nodes = w.nodes;
      items = w.items;
      count = w.count;
      busy = put w.busy a t;
      untaken = w.untaken;
      sends = w.sends;
    }

-- rule H3: a work message goes last on the link to its receiver; it is untaken
abbrev pub sent_out : Board → Kind → ℕ → ℕ → Board
sent_out w kind a b =
    record {
      nodes = w.nodes;
      items =
          w.items
          ++ (record { from = a; to = b; load = work kind (w.nodes a).phase; phase = w.count a; name = w.sends } ∷ []);
      count = w.count;
      busy = w.busy;
      untaken = put w.untaken w.sends (some (w.count a));
      sends = suc w.sends;
    }

abbrev pub after_send : Board → Kind → ℕ → ℕ → Outcome → Board
after_send w kind a b done = sent_out w kind a b
after_send w kind a b dropped = w
after_send w kind a b (refused x) = w

-- an idle call that is done ends busy
abbrev pub after_idle : Board → ℕ → Outcome → Board
after_idle w a done = turns w a false
after_idle w a dropped = w
after_idle w a (refused x) = w

-- rule H3: the written bytes, for each receiver an item, in their order
abbrev pub posted : ℕ → List ℕ → ℕ → List ℕ → List Item
posted a bytes phase to = map (λ b. record { from = a; to = b; load = frame bytes; phase = phase; name = 0 }) to

-- n is the state before the call; who leaves is busy again
abbrev pub after_call : Board → ℕ → Node → Barrier → Board
after_call w a n (sent to length) = carries w (w.items ++ posted a (frame_bytes (dims n) (frame_due n)) (w.count a) to)
after_call w a n (waits clause) = w
after_call w a n moved = w
after_call w a n left =
    record {
      nodes = w.nodes;
      items = w.items;
      count = put w.count a (suc (w.count a));
      busy = put w.busy a true;
      untaken = w.untaken;
      sends = w.sends;
    }
after_call w a n (barred x) = w

-- rule H4: refused with 7, an item stays on its link
abbrev pub off_unless_early : Board → ℕ → ℕ → ℕ → Board
off_unless_early w a b x = choose (eqb x 7) w (carries w (without a b w.items))

-- a take that is done makes the node busy if it is of a job, and the message is no longer untaken
abbrev pub after_take : Board → ℕ → ℕ → Item → Kind → Outcome → Board
after_take w a b m kind done =
    record {
      nodes = w.nodes;
      items = without a b w.items;
      count = w.count;
      busy = put w.busy b (wakes kind (w.busy b));
      untaken = put w.untaken m.name none;
      sends = w.sends;
    }
after_take w a b m kind dropped = carries w (without a b w.items)
after_take w a b m kind (refused x) = off_unless_early w a b x

abbrev pub after_frame : Board → ℕ → ℕ → Outcome → Board
after_frame w a b done = carries w (without a b w.items)
after_frame w a b dropped = carries w (without a b w.items)
after_frame w a b (refused x) = off_unless_early w a b x

-- ---- Events and runs

module _ (L : Limits) (P : ℕ) where
  -- rule H4: work is handed to take and a frame to frame in, at b
  abbrev pub delivered : Board → ℕ → ℕ → Item → Load → Board
  delivered w a b m (work kind phase) =
      let r = take L (w.nodes b) kind a phase in after_take (gave w b r.node) a b m kind r.answer
  delivered w a b m (frame bytes) =
      let r = frame_in L (w.nodes b) bytes in after_frame (gave w b r.node) a b r.answer

  -- with nothing on the link nothing happens
  abbrev pub delivered_oldest : Board → ℕ → ℕ → Option Item → Board
  delivered_oldest w a b none = w
  delivered_oldest w a b (some m) = delivered w a b m m.load

  abbrev pub send_event : Board → Kind → ℕ → ℕ → Board
  send_event w kind a b = let r = send L (w.nodes a) b in after_send (gave w a r.node) kind a b r.answer

  abbrev pub idle_event : Board → ℕ → Board
  idle_event w a = let r = idle L (w.nodes a) in after_idle (gave w a r.node) a r.answer

  abbrev pub call_event : Board → ℕ → ℕ → Board
  call_event w a room =
      let r = barrier L (w.nodes a) room in after_call (gave w a r.node) a (w.nodes a) r.answer

  -- a call is at a node of the board
  unfoldable pub step : Board → Event → Board
  step w (sends kind a b) = choose (ltb a P) (send_event w kind a b) w
  step w (idles a) = choose (ltb a P) (idle_event w a) w
  step w (calls a room) = choose (ltb a P) (call_event w a room) w
  step w (delivers a b) = delivered_oldest w a b (oldest a b w.items)
  step w (loses j) = carries w (less_one j w.items)

  abbrev pub after : Board → List Event → Board
  after w [] = w
  after w (e ∷ es) = after (step w e) es

  -- rule H1: any list of events
  abbrev pub run : List Event → Board
  run es = after (start P) es
