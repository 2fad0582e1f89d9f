-- A rehearsal as a run (rule S11): what is said of its events, and that the claim about runs holds of it.
use Rattle.std.specs.Prelude.{◌≡◌, List, [], ◌∷◌, ◌++◌, map, ℕ, zero, suc, ◌≤◌, leb, eqb, length, take}
use Rattle.base.specs.Choice.{choose}
use Rattle.base.specs.Limits.{base}
use Rattle.base.specs.Refusal.{number}
use Rattle.base.specs.declared.Refusal.{Refusal}
use Rattle.node.specs.declared.Node.{Node}
use Rattle.events.specs.Board.{Event, sends, idles, calls, delivers, start, run}
use Rattle.runs.specs.Claim.{Safe, Lives}
use Rattle.runs.specs.Printed.{line, lines}
use Rattle.script.specs.Script.{line_at}
use Rattle.line_forms.specs.declared.Line.{Line}
use Rattle.line_forms.specs.declared.Line.TheVariants.{Nodes, Sends, Delivers, Idles, Calls, Bad}
use Rattle.items.specs.declared.Item.{Item}
use Rattle.under_way.specs.Frames.{place_size}
use Rattle.board_states.specs.States.{node_at, opening}
use Rattle.turns.specs.Events.{Turn}
use Rattle.board_states.specs.declared.Stage.{Stage}
use Rattle.text.specs.Text.{header, turn_text, stop_text}
use Rattle.rehearsal.specs.Play.{event, stop, act_of, play}

-- ---- The events of a rehearsal

-- a line that was played, and what is printed for it: the acting node, the answer, the node's state after it
pub record Told : Type 0 where
  pub line : Line
  pub actor : ℕ
  pub answer : ℕ
  pub node : Node

abbrev pub told_of : Line → Turn → Told
told_of l t = record { line = l; actor = t.actor; answer = t.answer; node = node_at t.stage t.actor }

-- the lines played of a script from a place on, at most so many, as `play_from` plays them
unfoldable pub told_from : List ℕ → ℕ → ℕ → Stage → List Item → List ℕ → List Told
told_from script zero at st items bytes = []
told_from script (suc most) at st items bytes =
    let p = line_at script at in
    let rest : List Told =
    elim (act_of st items bytes p.line) [
      | event t ↦ told_of p.line t ∷ told_from script most p.next t.stage t.items t.bytes
      | stop ↦ []
    ] in
    choose (leb (length script) at) [] rest

-- the lines played on a board of P nodes: those after the first
abbrev pub told : List ℕ → ℕ → List Item → List ℕ → List Told
told script P items bytes = told_from script (length script) (line_at script 0).next (opening P) items bytes

-- no run answers 15: such events are left out
abbrev pub kept : List Told → List Told
kept [] = []
kept (t ∷ ts) = choose (eqb t.answer (number Refusal.Crowded)) (kept ts) (t ∷ kept ts)

-- a barrier call has the bytes of a place; the first line, and a line that stops the play, is no event
abbrev pub events_of : Line → List Event
events_of (Nodes P) = []
events_of (Sends kind a b) = sends kind a b ∷ []
events_of (Delivers a b) = delivers a b ∷ []
events_of (Idles a) = idles a ∷ []
events_of (Calls a) = calls a place_size ∷ []
events_of Bad = []

abbrev pub events_in : List Told → List Event
events_in [] = []
events_in (t ∷ ts) = events_of t.line ++ events_in ts

-- ---- What is printed

-- the numbers of a printed line
abbrev pub lines_of : List Told → List (List ℕ)
lines_of ts = map (λ t. line t.actor t.answer t.node) ts

-- their text
abbrev pub text_of : List Told → List ℕ
text_of [] = []
text_of (t ∷ ts) = turn_text t.actor t.answer t.node ++ text_of ts

-- what stands after it
pub data Closing : List ℕ → Type 0 where
  ended : Closing []
  stopped : (why line : ℕ) → Closing (stop_text why line)

-- ---- The claim

-- the events not answered 15 are a run with the printed answers, and rule P4 and rule P5 hold after each
pub record IsRun (P : ℕ) (ts : List Told) : Type 0 where
  pub printed : lines_of (kept ts) ≡ lines P (start P) (events_in (kept ts))
  pub safe : (n : ℕ) → Safe base P (run base P (take n (events_in (kept ts))))
  pub lives : (n : ℕ) → Lives base P (run base P (take n (events_in (kept ts))))

pub data Rehearsal (script : List ℕ) (items : List Item) (bytes : List ℕ) : Type 0 where
  -- the script is too long (line 0), or its first line opens no board
  shut : (why line : ℕ) → line ≤ 1 → (play script items bytes).text ≡ header ++ stop_text why line
      → Rehearsal script items bytes
  -- a board of P nodes is played
  opens : (P : ℕ) → 1 ≤ P → P ≤ 16 → (line_at script 0).line ≡ Nodes P → (closing : List ℕ) → Closing closing
      → (play script items bytes).text ≡ header ++ (text_of (told script P items bytes) ++ closing)
      → IsRun P (told script P items bytes) → Rehearsal script items bytes

-- FOR EVERY SCRIPT and whatever is lent
abbrev pub EveryRehearsal : Type 0
EveryRehearsal = (script : List ℕ) (items : List Item) (bytes : List ℕ) → Rehearsal script items bytes
