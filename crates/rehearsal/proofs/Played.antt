-- The rest of a play, line by line: what the loop of `play_script` keeps.
use mathlib.Core.Path.{◌≡◌, refl, sym, ap, subst, ◌∙◌}
use mathlib.Core.Bool.{Bool, true, false}
use mathlib.Core.List.{List, [], ◌++◌, append_assoc, append-nil}
use Prim.Native.Nat.{ℕ, zero, suc, ◌+◌, ◌≤◌, ◌<◌}
use native.Mathlib.Omega.{arith}
use lib.Dec.{ltb, eqb}
use lib.ListN.{length}
use borrow.Author.Tests.{le-leb, lt-leb, ltb-false}
use Rattle.base.specs.Choice.{choose, both, either}
use Rattle.base.proofs.Laws.{choose_yes, choose_no, cases}
use Rattle.script.specs.Script.{line_at}
use Rattle.line_forms.specs.declared.Line.{Line}
use Rattle.line_forms.specs.declared.Line.TheVariants.{Nodes, Sends, Delivers, Idles, Calls, Bad}
use Rattle.script.specs.declared.Parsed.{Parsed}
use Rattle.script.proofs.Answers.{next_on}
use Rattle.items.specs.declared.Item.{Item}
use Rattle.under_way.specs.Frames.{room_for}
use Rattle.board_states.specs.States.{node_at, opening}
use Rattle.turns.specs.Events.{Turn, turn_of}
use Rattle.board_states.specs.declared.Stage.{Stage}
use Rattle.stage.specs.declared.Acted.{Acted}
use Rattle.text.specs.Text.{header, turn_text, stop_text}
use Rattle.printing.proofs.Putting.{Written, then, said}
use Rattle.rehearsal.specs.Play.{Played, Act, event, stop, ended, printed_before, act_of, stopped, play_from}
use Rattle.rehearsal.specs.Play.{play_opened, play}
use Rattle.opening_parts.specs.Texts.{opening_text}
use Rattle.opening_parts.proofs.Texts.{opening_stop}
use Rattle.opening.specs.Opens.{shut, opened_by, opened}
use Rattle.lines.specs.Told.{taken, stops, told_at}
use Rattle.lines.specs.Printed.{line_text}
use Rattle.line_step.specs.Steps.{stepped, stepped_bytes, stepped_items}
use Rattle.line_turns.proofs.Turned.{Near, near, turn_after, still, step_turns, step_keeps}
use Rattle.opening.specs.declared.Opened.{Opened}
use Rattle.opening.proofs.Sizes.{size_good, size_some}

-- ---- Texts one after another

pub printed_twice : (t u : List ℕ) (p : Played) → printed_before t (printed_before u p) ≡ printed_before (t ++ u) p
printed_twice t u p = λ i. record { text = sym (append_assoc t u p.text) i; items = p.items; bytes = p.bytes }

printed_end : (t : List ℕ) (items : List Item) (bytes : List ℕ)
    → printed_before t (ended [] items bytes) ≡ ended t items bytes
printed_end t items bytes = λ i. record { text = append-nil t i; items = items; bytes = bytes }

-- ---- Lines of a script

-- at the end nothing is left
pub no_more : (script : List ℕ) (j at count : ℕ) (st : Stage) (items : List Item) (bytes : List ℕ) → length script ≤ at
    → play_from script j at count st items bytes ≡ ended [] items bytes
unfolding play_from
no_more script zero at count st items bytes h = refl
no_more script (suc j) at count st items bytes h = choose_yes _ _ (le-leb (length script) at h)

-- ---- A line as the player takes it

module _ (st : Stage) (items : List Item) (bytes : List ℕ) (within : st.under ≤ room_for (length items) bytes)
    (small : st.size ≤ 16) where
  -- what a line does, read either way
  abbrev read : (Turn → Played) → Played → Act → Played
  read E S act =
      elim act [
        | event t ↦ E t
        | stop ↦ S
      ]

  module _ (some : 0 < st.size) (E : Turn → Played) (S : Played) where
    by_test : (t : Bool) (l : Line) → stops l ≡ false → (t ≡ true → Near l)
        → read E S (choose t (event (turn_of st items bytes l)) stop)
        ≡ choose (stops (choose t l Bad)) S (E (turn_after st items bytes (choose t l Bad)))
    by_test true l e h =
        sym (ap E (step_turns st items bytes within some small l (h refl)))
        ∙ sym (choose_no S (E (turn_after st items bytes l)) e)
    by_test false l e h = refl

    acts : (raw : Line) → read E S (act_of st items bytes raw)
        ≡ choose (stops (taken st.size raw)) S (E (turn_after st items bytes (taken st.size raw)))
    acts (Nodes P) = refl
    acts (Sends kind a b) = by_test (both (ltb a st.size) (ltb b st.size)) (Sends kind a b) refl (λ e. tt)
    acts (Delivers a b) =
        by_test (both (ltb a st.size) (ltb b st.size)) (Delivers a b) refl
        (λ e. near st.size (omega (arith, small)) (Delivers a b) e)
    acts (Idles a) = by_test (ltb a st.size) (Idles a) refl (λ e. tt)
    acts (Calls a) = by_test (ltb a st.size) (Calls a) refl (λ e. tt)
    acts Bad = refl

  -- so a line is played as the player plays it
  pub play_line : 0 < st.size → (script : List ℕ) (j at count : ℕ) → at < length script
      → let told = told_at script at st.size in
      let r = stepped st items bytes told.line in
      play_from script (suc j) at count st items bytes
      ≡ printed_before (line_text told.line r count)
      (play_from script j told.next (count + 1) r.stage (stepped_items st.under r items)
      (stepped_bytes st items bytes told.line))
  unfolding play_from told_at
  play_line h script j at count below =
      choose_no _ _ (lt-leb (length script) at below) ∙ acts h E S p.line ∙ go (stops l) refl
    where
      p : Parsed
      p = line_at script at

      l : Line
      l = taken st.size p.line

      r : Acted
      r = stepped st items bytes l

      S : Played
      S = stopped 17 count items bytes

      E : Turn → Played
      E t =
          printed_before (turn_text t.actor t.answer (node_at t.stage t.actor))
          (play_from script j p.next (count + 1) t.stage t.items t.bytes)

      go : (t : Bool) → stops l ≡ t
          → choose t S (E (turn_after st items bytes l))
          ≡ printed_before (choose t (stop_text 17 count) (turn_text r.actor r.answer
          (node_at r.stage r.actor)))
          (play_from script j (choose t (length script) p.next) (count + 1) r.stage
          (stepped_items st.under r items) (stepped_bytes st items bytes l))
      go true e =
          sym
          (ap (printed_before (stop_text 17 count))
          (ap (λ (t : Turn). play_from script j (length script) (count + 1) t.stage t.items t.bytes)
          (still st items bytes within l e)
          ∙ no_more script j (length script) (count + 1) st items bytes (omega arith))
          ∙ printed_end (stop_text 17 count) items bytes)
      go false e = refl

-- the next line begins after this one
pub told_on : (script : List ℕ) (at size : ℕ) → at < length script → at < (told_at script at size).next
unfolding told_at
told_on script at size h =
    cases (λ (n : ℕ). at < n) (stops (taken size (line_at script at).line)) _ _ (λ e. h) (λ e. next_on script at h)

-- ---- The loop of the player

module _ (script : List ℕ) (items : List Item) (bytes out : List ℕ) where
  abbrev pub goal : Played
  goal = play script items bytes

  -- what holds while a line is to come: the script is short, and so the line's number is
  abbrev Live : ℕ → ℕ → Stage → Type 0
  Live at count st = (length script ≤ 4096) × ((count ≤ at + 1) × (0 < st.size))

  -- at the loop's head, with at most j lines to come: zs, bs and us are lent memory, of which us holds the text t so
  -- far
  pub record Inv (j at count : ℕ) (st : Stage) (zs : List Item) (bs us : List ℕ) (printed : ℕ) : Type 0 where
    pub enough : length script ≤ at + j
    pub live : at < length script → Live at count st
    pub small : st.size ≤ 16
    pub within : st.under ≤ room_for (length zs) bs
    pub text : List ℕ
    pub written : Written out 0 text us printed
    pub rest : printed_before text (play_from script j at count st zs bs) ≡ goal

  -- so it is, with as many lines to come as need be
  abbrev pub Kept : ℕ → ℕ → Stage → List Item → List ℕ → List ℕ → ℕ → Type 0
  Kept at count st zs bs us printed = (j : ℕ) × Inv j at count st zs bs us printed

  -- a line is played
  again : (j at count : ℕ) (st : Stage) (zs : List Item) (bs us : List ℕ) (printed : ℕ)
      → Inv (suc j) at count st zs bs us printed → at < length script
      → (told : Parsed) → told ≡ told_at script at st.size → (r : Acted) → r ≡ stepped st zs bs told.line
      → (zs' : List Item) → length zs' ≡ length zs → zs' ≡ stepped_items st.under r zs → (bs' : List ℕ)
      → length bs' ≡ length bs → bs' ≡ stepped_bytes st zs bs told.line
      → (us' : List ℕ) (printed' : ℕ) → Written us printed (line_text told.line r count) us' printed'
      → Inv j told.next (count + 1) r.stage zs' bs' us' printed'
  again j at count st zs bs us printed inv below told told_is r r-is zs' l-items zs-is bs' l-bytes bs-is us' printed' w
      =
      record {
        enough = omega (arith, next, inv.enough);
        live = λ h. (live.0, (omega (arith, next, live.1.0), omega (arith, keeps.0, live.1.1)));
        small = omega (arith, keeps.0, inv.small);
        within = keeps.1;
        text = inv.text ++ line_text told.line r count;
        written = then out us us' inv.text (line_text told.line r count) 0 printed printed' inv.written w;
        rest =
            sym (printed_twice inv.text (line_text told.line r count) _)
            ∙ ap (printed_before inv.text)
            (played ∙ sym (play_line st zs bs inv.within inv.small live.1.1 script j at count below))
            ∙ inv.rest;
      }
    where
      live : Live at count st
      live = inv.live below

      next : at < told.next
      next = subst (λ (p : Parsed). at < p.next) (sym told_is) (told_on script at st.size below)

      keeps : (r.stage.size ≡ st.size) × (r.stage.under ≤ room_for (length zs') bs')
      keeps = step_keeps st zs bs inv.within told.line r r-is zs' l-items bs' l-bytes

      -- what the calls answered is what the definitions say
      r_said : r ≡ stepped st zs bs (told_at script at st.size).line
      r_said = r-is ∙ ap (λ (p : Parsed). stepped st zs bs p.line) told_is

      zs_said : zs' ≡ stepped_items st.under (stepped st zs bs (told_at script at st.size).line) zs
      zs_said = zs-is ∙ ap (λ (a : Acted). stepped_items st.under a zs) r_said

      bs_said : bs' ≡ stepped_bytes st zs bs (told_at script at st.size).line
      bs_said = bs-is ∙ ap (λ (p : Parsed). stepped_bytes st zs bs p.line) told_is

      played : printed_before (line_text told.line r count) (play_from script j told.next (count + 1) r.stage zs'
          bs')
          ≡ printed_before (line_text (told_at script at st.size).line
          (stepped st zs bs (told_at script at st.size).line) count)
          (play_from script j (told_at script at st.size).next (count + 1)
          (stepped st zs bs (told_at script at st.size).line).stage
          (stepped_items st.under (stepped st zs bs (told_at script at st.size).line) zs)
          (stepped_bytes st zs bs (told_at script at st.size).line))
      played = λ i.
          printed_before (line_text (told_is i).line (r_said i) count)
          (play_from script j (told_is i).next (count + 1) (r_said i).stage (zs_said i) (bs_said i))

  pub goes_on : (at count : ℕ) (st : Stage) (zs : List Item) (bs us : List ℕ) (printed : ℕ)
      → Kept at count st zs bs us printed → at < length script
      → (told : Parsed) → told ≡ told_at script at st.size → (r : Acted) → r ≡ stepped st zs bs told.line
      → (zs' : List Item) → length zs' ≡ length zs → zs' ≡ stepped_items st.under r zs → (bs' : List ℕ)
      → length bs' ≡ length bs → bs' ≡ stepped_bytes st zs bs told.line
      → (us' : List ℕ) (printed' : ℕ) → Written us printed (line_text told.line r count) us' printed'
      → Kept told.next (count + 1) r.stage zs' bs' us' printed'
  goes_on at count st zs bs us printed kept below told told_is r r-is zs' l-items zs-is bs' l-bytes bs-is us' printed' w =
      go kept.0 kept.1
    where
      go : (j : ℕ) → Inv j at count st zs bs us printed → Kept told.next (count + 1) r.stage zs' bs' us' printed'
      go zero inv = absurd (omega (arith, below, inv.enough))
      go (suc j) inv = (
        j,
        again j at count st zs bs us printed inv below told told_is r r-is zs' l-items zs-is bs' l-bytes bs-is us'
            printed' w,
      )

  -- the end
  finish : (j at count : ℕ) (st : Stage) (zs : List Item) (bs us : List ℕ) (printed : ℕ)
      → Inv j at count st zs bs us printed → length script ≤ at
      → (zs ≡ goal.items) × ((bs ≡ goal.bytes) × Written out 0 goal.text us printed)
  finish j at count st zs bs us printed inv h = (
    ap (λ (p : Played). p.items) e,
    (
      ap (λ (p : Played). p.bytes) e,
      said out us inv.text goal.text 0 printed
          (ap (λ (p : Played). p.text) e) inv.written,
    ),
  )
    where
      e : ended inv.text zs bs ≡ goal
      e =
          sym (printed_end inv.text zs bs) ∙ ap (printed_before inv.text)
          (sym (no_more script j at count st zs bs h)) ∙ inv.rest

  pub finished : (at count : ℕ) (st : Stage) (zs : List Item) (bs us : List ℕ) (printed : ℕ)
      → Kept at count st zs bs us printed → length script ≤ at
      → (zs ≡ goal.items) × ((bs ≡ goal.bytes) × Written out 0 goal.text us printed)
  finished at count st zs bs us printed kept h = finish kept.0 at count st zs bs us printed kept.1 h

  -- how the script opens
  abbrev Opens : Opened → Type 0
  Opens o =
      (o.at < length script → Live o.at 2 o.stage) × ((o.stage.size ≤ 16) × (o.stage.under ≡ 0))

  shut_opens : (why line : ℕ) → Opens (shut (length script) why line)
  shut_opens why line = ((λ h. absurd (omega (arith, h))), (omega arith, refl))

  opens : Opens (opened script)
  unfolding opened
  opens =
      cases Opens (ltb 4096 (length script)) _ _ (λ e. shut_opens 17 0)
      (λ e. by_line (line_at script 0).line (ltb-false 4096 (length script) e))
    where
      by_line : (l : Line) → length script ≤ 4096 → Opens (opened_by (length script) (line_at script 0).next l)
      by_line (Nodes P) short =
          cases Opens (either (eqb P 0) (ltb 16 P)) _ _ (λ e. shut_opens 1 1)
          (λ e. (
            (λ h. let n = next_on script 0 (omega (arith, h)) in (short, (omega (arith, n), size_some P e))),
            (size_good P e, refl),
          ))
      by_line (Sends kind a b) short = shut_opens 17 1
      by_line (Delivers a b) short = shut_opens 17 1
      by_line (Idles a) short = shut_opens 17 1
      by_line (Calls a) short = shut_opens 17 1
      by_line Bad short = shut_opens 17 1

  -- what is played from there
  abbrev From : Opened → Played
  From o = printed_before (opening_text o.why o.line) (play_from script (length script) o.at 2 o.stage items
      bytes)

  shut_from : (why line : ℕ) → (why ≡ 0 → ⊥) → From (shut (length script) why line) ≡ printed_before header
      (stopped why line items bytes)
  shut_from why line e =
      ap (printed_before (opening_text why line)) (no_more script (length script) (length script) 2 (opening 0) items
      bytes (omega arith))
      ∙ printed_end (opening_text why line) items bytes
      ∙ ap (λ (t : List ℕ). ended t items bytes) (sym (opening_stop why line e))

  from : From (opened script) ≡ goal
  unfolding opened play opening_text
  from = go (ltb 4096 (length script))
    where
      by_size : (P : ℕ) (t : Bool)
          → From (choose t (shut (length script) 1 1) (record {
            stage = opening P;
            at = (line_at script 0).next;
            why =
                0;
            line = 0;
          }))
          ≡ printed_before header (choose t (stopped 1 1 items bytes)
          (play_from script (length script) (line_at script 0).next 2 (opening P) items bytes))
      by_size P true = shut_from 1 1 (λ e. omega (arith, e))
      by_size P false = refl

      by_line : (l : Line) → From (opened_by (length script) (line_at script 0).next l) ≡ printed_before header
          (play_opened script (line_at script 0).next items bytes l)
      by_line (Nodes P) = by_size P (either (eqb P 0) (ltb 16 P))
      by_line (Sends kind a b) = shut_from 17 1 (λ e. omega (arith, e))
      by_line (Delivers a b) = shut_from 17 1 (λ e. omega (arith, e))
      by_line (Idles a) = shut_from 17 1 (λ e. omega (arith, e))
      by_line (Calls a) = shut_from 17 1 (λ e. omega (arith, e))
      by_line Bad = shut_from 17 1 (λ e. omega (arith, e))

      go : (t : Bool)
          → From (choose t (shut (length script) 17 0) (opened_by (length script) (line_at script 0).next
          (line_at script 0).line))
          ≡ printed_before header (choose t (stopped 17 0 items bytes)
          (play_opened script (line_at script 0).next items bytes (line_at script 0).line))
      go true = shut_from 17 0 (λ e. omega (arith, e))
      go false = by_line (line_at script 0).line

  -- the start
  pub start : (o : Opened) → o ≡ opened script → (us : List ℕ) (printed : ℕ)
      → Written out 0 (opening_text o.why o.line) us printed
      → Kept o.at 2 o.stage items bytes us printed
  start o o_is us printed w = (
    length script,
    record {
      enough = omega arith;
      live = ok.0;
      small = ok.1.0;
      within = omega (arith, ok.1.1);
      text = opening_text o.why o.line;
      written = w;
      rest = ap From o_is ∙ from;
    },
  )
    where
      ok : Opens o
      ok = subst Opens (sym o_is) opens
