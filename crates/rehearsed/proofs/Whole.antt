-- Every rehearsal is a run, and the claim about runs holds of it (rule S11).
use mathlib.Core.Path.{◌≡◌, refl, sym, ap, ◌∙◌, subst}
use mathlib.Core.Bool.{Bool, true, false}
use mathlib.Core.List.{List, [], ◌∷◌, ◌++◌, append_assoc}
use Prim.Native.Nat.{ℕ, zero, suc, ◌+◌, ◌≤◌}
use native.Mathlib.Omega.{arith}
use lib.Dec.{ltb, leb, eqb}
use lib.ListN.{length}
use Rattle.base.specs.Choice.{choose, either}
use Rattle.base.specs.Refusal.{number}
use Rattle.base.specs.declared.Refusal.{Refusal}
use Rattle.base.proofs.Laws.{cases}
use Rattle.events.specs.Board.{Board}
use Rattle.script.specs.Script.{line_at}
use Rattle.line_forms.specs.declared.Line.{Line}
use Rattle.line_forms.specs.declared.Line.TheVariants.{Nodes, Sends, Delivers, Idles, Calls, Bad}
use Rattle.script.specs.declared.Parsed.{Parsed}
use Rattle.items.specs.declared.Item.{Item}
use Rattle.board_states.specs.States.{node_at, opening}
use Rattle.board_states.specs.declared.Stage.{Stage}
use Rattle.turns.specs.Events.{Turn, turn_of}
use Rattle.text.specs.Text.{header, turn_text, stop_text}
use Rattle.opening.proofs.Sizes.{size_good, size_some}
use Rattle.rehearsal.specs.Play.{Played, Act, event, stop, act_of, ended, stopped, printed_before, play_from, play_opened}
use Rattle.rehearsal.specs.Play.{play}
use Rattle.rehearsed.specs.Run.{Told, told_of, told_from, told, text_of, Closing, Rehearsal, EveryRehearsal}
use Rattle.rehearsed.proofs.Same.{Same}
use Rattle.line_forms.proofs.Named.{is_event}
use Rattle.rehearsed.proofs.Events.{Ran, Prints, plays, prints_one, is_run_lem}

-- ---- what is printed

-- a text is that of the events and what closes it
record Texted (ts : List Told) (text : List ℕ) : Type 0 where
  closing : List ℕ
  closes : Closing closing
  is : text ≡ text_of ts ++ closing

-- one line more
text_one : (l : Line) (t : Turn) (rest : List Told) (text : List ℕ) → Texted rest text
    → Texted (told_of l t ∷ rest) (turn_text t.actor t.answer (node_at t.stage t.actor) ++ text)
text_one l t rest text x =
    let this = turn_text t.actor t.answer (node_at t.stage t.actor) in
    record {
      closing = x.closing;
      closes = x.closes;
      is = ap (λ r. this ++ r) x.is ∙ sym (append_assoc this (text_of rest) x.closing);
    }

module _ (script : List ℕ) (most count : ℕ) (p : Parsed) where
  -- the events and the play after a line has been read
  abbrev pub told_by : Act → List Told
  told_by x =
      elim x [
        | event t ↦ told_of p.line t ∷ told_from script most p.next t.stage t.items t.bytes
        | stop ↦ []
      ]

  abbrev played_by : List Item → List ℕ → Act → Played
  played_by items bytes x =
      elim x [
        | event t ↦
            printed_before (turn_text t.actor t.answer (node_at t.stage t.actor))
            (play_from script most p.next (count + 1) t.stage t.items t.bytes)
        | stop ↦ stopped (number Refusal.Script) count items bytes
      ]

  by_act : (items : List Item) (bytes : List ℕ) (t : Bool) (x : Act)
      → ((t : Turn) → Texted (told_from script most p.next t.stage t.items t.bytes)
      (play_from script most p.next (count + 1) t.stage t.items t.bytes).text)
      → Texted (choose t [] (told_by x)) (choose t (ended [] items bytes) (played_by items bytes x)).text
  by_act items bytes true x f = record { closing = []; closes = Closing.ended; is = refl }
  by_act items bytes false (event t) f = text_one p.line t _ _ (f t)
  by_act items bytes false stop f =
      record { closing = stop_text 17 count; closes = Closing.stopped 17 count; is = refl }

texted : (script : List ℕ) (most at count : ℕ) (st : Stage) (items : List Item) (bytes : List ℕ)
    → Texted (told_from script most at st items bytes) (play_from script most at count st items bytes).text
unfolding told_from play_from
texted script zero at count st items bytes = record { closing = []; closes = Closing.ended; is = refl }
texted script (suc most) at count st items bytes =
    let p = line_at script at in
    by_act script most count p items bytes (leb (length script) at) (act_of st items bytes p.line)
    (λ t. texted script most p.next (count + 1) t.stage t.items t.bytes)

-- ---- the events

-- what a line does: its turn is played where it is an event of the board, else the play stops
act_is : (st : Stage) (items : List Item) (bytes : List ℕ) (l : Line)
    → choose (is_event st.size l) (event (turn_of st items bytes l)) stop ≡ act_of st items bytes l
act_is st items bytes (Nodes P) = refl
act_is st items bytes (Sends kind a b) = refl
act_is st items bytes (Delivers a b) = refl
act_is st items bytes (Idles a) = refl
act_is st items bytes (Calls a) = refl
act_is st items bytes Bad = refl

prints : (P : ℕ) → 1 ≤ P → P ≤ 16 → (script : List ℕ) (most at : ℕ) (st : Stage) (items : List Item) (bytes : List ℕ)
    (w : Board) → Same P st items bytes w → Ran P w → Prints P w (told_from script most at st items bytes)
unfolding told_from
prints P one few script zero at st items bytes w s r = refl
prints P one few script (suc most) at st items bytes w s r =
    let p = line_at script at in
    let t = turn_of st items bytes p.line in
    let rest = told_from script most p.next t.stage t.items t.bytes in
    cases (Prints P w) (leb (length script) at) _ _ (λ e. refl)
    (λ e.
    subst (λ x. Prints P w (told_by script most 0 p x)) (act_is st items bytes p.line)
    (cases (λ x. Prints P w (told_by script most 0 p x)) (is_event st.size p.line) (event t) stop
    (λ h.
    prints_one P one few w p.line t rest r (plays P one few st items bytes w s r p.line h)
    (prints P one few script most p.next t.stage t.items t.bytes))
    (λ h. refl)))

-- ---- every script

module _ (script : List ℕ) (items : List Item) (bytes : List ℕ) where
  -- how a play opens: it stops at once, or a board of 1 to 16 nodes is played
  data Opening : Played → Type 0 where
    shut : (why line : ℕ) → line ≤ 1 → Opening (stopped why line items bytes)
    opens : (P : ℕ) → 1 ≤ P → P ≤ 16 → (line_at script 0).line ≡ Nodes P
        → Opening (play_from script (length script) (line_at script 0).next 2 (opening P) items bytes)

  by_line : (l : Line) → (line_at script 0).line ≡ l → Opening (play_opened script (line_at script 0).next items bytes l)
  by_line (Nodes P) e =
      cases Opening (either (eqb P 0) (ltb 16 P)) _ _ (λ t. shut 1 1 (omega arith))
      (λ t. opens P (size_some P t) (size_good P t) e)
  by_line (Sends kind a b) e = shut 17 1 (omega arith)
  by_line (Delivers a b) e = shut 17 1 (omega arith)
  by_line (Idles a) e = shut 17 1 (omega arith)
  by_line (Calls a) e = shut 17 1 (omega arith)
  by_line Bad e = shut 17 1 (omega arith)

  open_is : Opening (choose (ltb 4096 (length script)) (stopped 17 0 items bytes)
      (play_opened script (line_at script 0).next items bytes (line_at script 0).line))
  open_is =
      cases Opening (ltb 4096 (length script)) _ _ (λ e. shut 17 0 (omega arith)) (λ e. by_line (line_at script 0).line refl)

  by_opening : {p : Played} → Opening p → (play script items bytes).text ≡ header ++ p.text
      → Rehearsal script items bytes
  by_opening (shut why line h) e = Rehearsal.shut why line h e
  by_opening (opens P one few l) e =
      let t = texted script (length script) (line_at script 0).next 2 (opening P) items bytes in
      Rehearsal.opens P one few l t.closing t.closes (e ∙ ap (λ r. header ++ r) t.is)
      (is_run_lem P one few items bytes (told script P items bytes)
      (prints P one few script (length script) (line_at script 0).next (opening P) items bytes))

pub every_rehearsal : EveryRehearsal
unfolding play
every_rehearsal script items bytes = by_opening script items bytes (open_is script items bytes) refl
