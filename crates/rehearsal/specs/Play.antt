-- A script played from its first line to its end or to the line that stops it (rule S4).
use Rattle.std.specs.Prelude.{List, [], ◌++◌, ℕ, zero, suc, ◌+◌, ltb, leb, eqb, length}
use Rattle.base.specs.Choice.{choose, both, either}
use Rattle.base.specs.Refusal.{number}
use Rattle.base.specs.declared.Refusal.{Refusal}
use Rattle.script.specs.Script.{line_at}
use Rattle.line_forms.specs.declared.Line.{Line}
use Rattle.line_forms.specs.declared.Line.TheVariants.{Nodes, Sends, Delivers, Idles, Calls, Bad}
use Rattle.board_states.specs.States.{node_at, opening}
use Rattle.turns.specs.Events.{Turn, send_turn, idle_turn, call_turn, deliver_turn}
use Rattle.text.specs.Text.{header, turn_text, stop_text}
use Rattle.items.specs.declared.Item.{Item}
use Rattle.board_states.specs.declared.Stage.{Stage}

-- what is printed, and what the lent memory holds at the end
pub record Played : Type 0 where
  pub text : List ℕ
  pub items : List Item
  pub bytes : List ℕ

abbrev pub ended : List ℕ → List Item → List ℕ → Played
ended text items bytes = record { text = text; items = items; bytes = bytes }

-- a text before what is played on
abbrev pub printed_before : List ℕ → Played → Played
printed_before text p = record { text = text ++ p.text; items = p.items; bytes = p.bytes }

-- what a line does: an event, or a stop
pub data Act : Type 0 where
  event : Turn → Act
  stop : Act

-- a number that is no node of the board stops the play
abbrev pub act_of : Stage → List Item → List ℕ → Line → Act
act_of st items bytes (Nodes P) = stop
act_of st items bytes (Sends kind a b) =
    choose (both (ltb a st.size) (ltb b st.size)) (event (send_turn st items bytes kind a b)) stop
act_of st items bytes (Delivers a b) =
    choose (both (ltb a st.size) (ltb b st.size)) (event (deliver_turn st items bytes a b)) stop
act_of st items bytes (Idles a) = choose (ltb a st.size) (event (idle_turn st items bytes a)) stop
act_of st items bytes (Calls a) = choose (ltb a st.size) (event (call_turn st items bytes a)) stop
act_of st items bytes Bad = stop

-- a stop is printed in place of an event, and nothing follows
abbrev pub stopped : ℕ → ℕ → List Item → List ℕ → Played
stopped why line items bytes = ended (stop_text why line) items bytes

-- the lines of a script from a place on, at most so many
unfoldable pub play_from : List ℕ → ℕ → ℕ → ℕ → Stage → List Item → List ℕ → Played
play_from script zero at line st items bytes = ended [] items bytes
play_from script (suc most) at line st items bytes =
    let p = line_at script at in
    let rest : Played =
    elim (act_of st items bytes p.line) [
      | event t ↦
          printed_before (turn_text t.actor t.answer (node_at t.stage t.actor))
          (play_from script most p.next (line + 1) t.stage t.items t.bytes)
      | stop ↦ stopped (number Refusal.Script) line items bytes
    ] in
    choose (leb (length script) at) (ended [] items bytes) rest

-- the first line says nodes P, for a board of 1 to 16
abbrev pub play_opened : List ℕ → ℕ → List Item → List ℕ → Line → Played
play_opened script next items bytes (Nodes P) =
    choose (either (eqb P 0) (ltb 16 P)) (stopped (number Refusal.Board) 1 items bytes)
    (play_from script (length script) next 2 (opening P) items bytes)
play_opened script next items bytes (Sends kind a b) = stopped (number Refusal.Script) 1 items bytes
play_opened script next items bytes (Delivers a b) = stopped (number Refusal.Script) 1 items bytes
play_opened script next items bytes (Idles a) = stopped (number Refusal.Script) 1 items bytes
play_opened script next items bytes (Calls a) = stopped (number Refusal.Script) 1 items bytes
play_opened script next items bytes Bad = stopped (number Refusal.Script) 1 items bytes

-- the header stands first, also before a stop at line 0, of a script that is too long
unfoldable pub play : List ℕ → List Item → List ℕ → Played
play script items bytes =
    let first = line_at script 0 in
    printed_before header
    (choose (ltb 4096 (length script)) (stopped (number Refusal.Script) 0 items bytes)
    (play_opened script first.next items bytes first.line))
