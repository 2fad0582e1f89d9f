-- The numbers that a rehearsal prints for an event (rule S9).
use Rattle.std.specs.Prelude.{Bool, List, [], ◌∷◌, ℕ}
use Rattle.std.proofs.Math.Option.{Option, none, some}
use Rattle.base.specs.Choice.{choose}
use Rattle.base.specs.Limits.{base}
use Rattle.node.specs.Answers.{outcome_number, barrier_number}
use Rattle.node.specs.Calls.{send, take, idle, frame_in}
use Rattle.node.specs.Barrier.{barrier}
use Rattle.node.specs.declared.Node.{Node}
use Rattle.events.specs.Board.{Load, work, frame, Item, Board, Event, sends, idles, calls, delivers, loses}
use Rattle.events.specs.Board.{oldest, step}

abbrev pub bit : Bool → ℕ
bit b = choose b 1 0

abbrev pub line : ℕ → ℕ → Node → List ℕ
line a answer n = a ∷ answer ∷ n.phase ∷ n.pass ∷ n.dim ∷ bit n.flag ∷ bit n.busy ∷ []

abbrev pub load_answer : Board → ℕ → ℕ → Load → ℕ
load_answer w a b (work kind phase) = outcome_number (take base (w.nodes b) kind a phase).answer
load_answer w a b (frame bytes) = outcome_number (frame_in base (w.nodes b) bytes).answer

-- a delivery with nothing on the link is 16 (rule S8)
abbrev pub delivery_answer : Board → ℕ → ℕ → Option Item → ℕ
delivery_answer w a b none = 16
delivery_answer w a b (some m) = load_answer w a b m.load

abbrev pub printed : ℕ → Board → Event → List ℕ
printed P w (sends kind a b) =
    line a (outcome_number (send base (w.nodes a) b).answer) ((step base P w (sends kind a b)).nodes a)
printed P w (idles a) = line a (outcome_number (idle base (w.nodes a)).answer) ((step base P w (idles a)).nodes a)
printed P w (calls a room) =
    line a (barrier_number (barrier base (w.nodes a) room).answer) ((step base P w (calls a room)).nodes a)
printed P w (delivers a b) =
    line b (delivery_answer w a b (oldest a b w.items)) ((step base P w (delivers a b)).nodes b)
printed P w (loses j) = []

abbrev pub lines : ℕ → Board → List Event → List (List ℕ)
lines P w [] = []
lines P w (e ∷ es) = printed P w e ∷ lines P (step base P w e) es
