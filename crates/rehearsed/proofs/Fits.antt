-- The text of every rehearsal fits: a line played has two bytes or more, and a line printed has at most 29.
use mathlib.Core.Path.{◌≡◌, refl, ap, ◌∙◌}
use mathlib.Core.Logic.{◌⊎◌, inl, inr}
use mathlib.Core.Bool.{Bool, true, false}
use mathlib.Core.List.{List, [], ◌∷◌, ◌++◌}
use Prim.Native.Nat.{ℕ, zero, suc, ◌+◌, ◌-◌, ◌*◌, ◌≤◌, ◌<◌, min}
use native.Mathlib.Decide.{ℕ_discrete, dec_lt}
use native.Mathlib.Omega.{arith}
use lib.Dec.{ltb, leb}
use lib.ListN.{length, take, drop, length-append, length-drop}
use lib.Seq.{take_all, take-append_seam}
use borrow.Author.Tests.{lt-ltb}
use Rattle.base.specs.Choice.{choose}
use Rattle.base.proofs.Laws.{choose_yes, cases}
use Rattle.line_forms.specs.Forms.{before}
use Rattle.script.specs.Script.{line_of, line_at}
use Rattle.line_forms.specs.declared.Line.TheVariants.{Bad}
use Rattle.script.specs.declared.Parsed.{Parsed}
use Rattle.script.proofs.Answers.{line_one, at_newline, at_end}
use Rattle.items.specs.declared.Item.{Item}
use Rattle.board_states.specs.States.{opening}
use Rattle.board_states.specs.declared.Stage.{Stage}
use Rattle.printing.specs.Put.{digits, put, ends}
use Rattle.text.specs.Text.{header, row_text, stop_text}
use Rattle.turns.specs.Events.{Turn}
use Rattle.rehearsal.specs.Play.{Played, Act, event, stop, act_of, play}
use Rattle.rehearsed.specs.Run.{Told, told_from, told, text_of, Closing, Rehearsal}
use Rattle.rehearsed.specs.Fits.{HasRoom, EveryTextFits}
use Rattle.rehearsed.proofs.Whole.{told_by, every_rehearsal}

-- ---- a line printed

either_few : (t : Bool) (a b : List ℕ) → length a ≤ 4 → length b ≤ 4 → length (choose t a b) ≤ 4
either_few true a b h k = h
either_few false a b h k = k

digits_few : (x : ℕ) → length (digits x) ≤ 4
unfolding digits
digits_few x =
    either_few (ltb x 10) _ _ (omega arith)
    (either_few (ltb x 100) _ _ (omega arith) (either_few (ltb x 1000) _ _ (omega arith) (omega arith)))

-- a number and a blank before so many bytes
field_few : (x : ℕ) (l : List ℕ) (most : ℕ) → length l ≤ most → length (digits x ++ (32 ∷ l)) ≤ 5 + most
field_few x l most h = omega (arith, length-append (digits x) (32 ∷ l), digits_few x)

row_few : (actor answer phase pass dim : ℕ) (flag busy : Bool)
    → length (row_text actor answer phase pass dim flag busy) ≤ 29
unfolding row_text
row_few actor answer phase pass dim flag busy =
    field_few actor _ 24
    (field_few answer _ 19 (field_few phase _ 14 (field_few pass _ 9 (field_few dim _ 4 (omega arith)))))

stop_few : (why line : ℕ) → length (stop_text why line) ≤ 23
unfolding stop_text
stop_few why line =
    rw (length-append (digits why), length-append (digits line)) (omega (arith, digits_few why, digits_few line))

text_few : (ts : List Told) → length (text_of ts) ≤ 29 * length ts
text_few [] = omega arith
text_few (t ∷ ts) =
    let n = t.node in
    let row = row_text t.actor t.answer n.phase n.pass n.dim n.flag n.busy in
    omega (
      arith,
      length-append row (text_of ts),
      row_few t.actor t.answer n.phase n.pass n.dim n.flag n.busy,
      text_few ts,
    )

closing_few : {text : List ℕ} → Closing text → length text ≤ 23
closing_few Closing.ended = omega arith
closing_few (Closing.stopped why line) = stop_few why line

-- ---- a line played

-- a line of the stated form has a byte before its newline
line_long : (script : List ℕ) (at : ℕ) → ((line_at script at).line ≡ Bad)
    ⊎ ((at + 2 ≤ (line_at script at).next) × ((line_at script at).next ≤ length script))
line_long script at = go (dec_lt n (length rest)) (ℕ_discrete n 0)
  where
    rest : List ℕ
    rest = drop at script

    n : ℕ
    n = before 10 rest

    go : Dec (n < length rest) → Dec (n ≡ 0) → ((line_at script at).line ≡ Bad)
        ⊎ ((at + 2 ≤ (line_at script at).next) × ((line_at script at).next ≤ length script))
    go (no h) d = inl (ap (λ (p : Parsed). p.line) (at_end script at rest refl n refl (omega arith)))
    go (yes h) (yes z) =
        inl (ap (λ (p : Parsed). p.line) (at_newline script at rest refl n refl h)
        ∙ ap (λ k. line_of (take k rest)) z ∙ line_one [] (omega arith))
    go (yes h) (no z) =
        let next = ap (λ (p : Parsed). p.next) (at_newline script at rest refl n refl h) in
        inr (omega (arith, next), omega (arith, next, length-drop at script))

module _ (script : List ℕ) (most at : ℕ) (p : Parsed) where
  few_by : (x : Act) → (x ≡ stop) ⊎ ((at + 2 ≤ p.next) × (p.next ≤ length script))
      → ((t : Turn) → 2 * length (told_from script most p.next t.stage t.items t.bytes)
      ≤ length script - p.next)
      → 2 * length (told_by script most 0 p x) ≤ length script - at
  few_by stop h f = omega arith
  few_by (event t) (inl e) f = let z : ◌≡◌ {A = ℕ} 0 1 = cc in absurd (omega arith)
  few_by (event t) (inr h) f = omega (arith, f t)

told_few : (script : List ℕ) (most at : ℕ) (st : Stage) (items : List Item) (bytes : List ℕ)
    → 2 * length (told_from script most at st items bytes) ≤ length script - at
unfolding told_from
told_few script zero at st items bytes = omega arith
told_few script (suc most) at st items bytes =
    let p = line_at script at in
    cases (λ ts. 2 * length ts ≤ length script - at) (leb (length script) at) [] _ (λ e. omega arith)
    (λ e.
    few_by script most at p (act_of st items bytes p.line) (stops (line_long script at))
    (λ t. told_few script most p.next t.stage t.items t.bytes))
  where
    stops : ((line_at script at).line ≡ Bad)
        ⊎ ((at + 2 ≤ (line_at script at).next) × ((line_at script at).next ≤ length script))
        → (act_of st items bytes (line_at script at).line ≡ stop)
        ⊎ ((at + 2 ≤ (line_at script at).next) × ((line_at script at).next ≤ length script))
    stops (inl e) = inl (ap (act_of st items bytes) e)
    stops (inr h) = inr h

-- ---- the whole text

module _ (script : List ℕ) (items : List Item) (bytes : List ℕ) where
  abbrev text : List ℕ
  text = (play script items bytes).text

  -- a script too long is not played
  too_long : 4096 < length script → text ≡ header ++ stop_text 17 0
  unfolding play
  too_long h = ap (λ (p : Played). header ++ p.text) (choose_yes _ _ (lt-ltb 4096 (length script) h))

  stop_fits : (why line : ℕ) → text ≡ header ++ stop_text why line → HasRoom text
  stop_fits why line e = omega (arith, ap length e, stop_few why line)

  rehearsal_fits : length script ≤ 4096 → Rehearsal script items bytes → HasRoom text
  rehearsal_fits h (Rehearsal.shut why line l e) = stop_fits why line e
  rehearsal_fits h (Rehearsal.opens P one few l closing c e r) =
      let ts = told script P items bytes in
      omega (
        arith,
        ap length e,
        length-append (text_of ts) closing,
        text_few ts,
        closing_few c,
        told_few script (length script) (line_at script 0).next (opening P) items bytes,
      )

  fits : HasRoom text
  fits = go (dec_lt 4096 (length script))
    where
      go : Dec (4096 < length script) → HasRoom text
      go (yes h) = stop_fits 17 0 (too_long h)
      go (no h) = rehearsal_fits (omega arith) (every_rehearsal script items bytes)

-- what has room is put whole
put_whole : (out text : List ℕ) → length text ≤ length out → take (ends out 0 text) (put out 0 text) ≡ text
unfolding put
put_whole out text h =
    let all : min (0 + length text) (length out) ≡ length text = omega arith in
    rw (all, take_all (length out - 0) text (omega arith)) (take-append_seam text _)

pub every_text_fits : EveryTextFits
every_text_fits =
    record {
      fits = fits;
      whole =
          λ script items bytes out e.
          put_whole out (play script items bytes).text (omega (arith, e, fits script items bytes));
    }
