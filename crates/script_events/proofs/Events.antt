-- The events of a script line by line, and the parts of a printed line.
use mathlib.Core.Path.{◌≡◌, refl, sym, ap, ◌∙◌}
use mathlib.Core.Bool.{Bool, true, false}
use Rattle.std.proofs.Common.{Option, Some, None, unwrap_or}
use Rattle.base.specs.Choice.{choose}
use mathlib.Core.List.{List, [], ◌++◌}
use Prim.Native.Nat.{ℕ, zero, suc, ◌+◌, ◌-◌, ◌≤◌, ◌<◌}
use native.Mathlib.Decide.{dec_lt}
use native.Mathlib.Omega.{arith}
use borrow.Author.Tests.{ltb-true, lt-ltb, le-ltb, le-leb, lt-leb}
use lib.Dec.{ltb}
use lib.ListN.{length, take, drop, length-drop}
use Rattle.base.proofs.Laws.{choose_yes, choose_no, cases}
use Rattle.line_parts.specs.Parts.{is_number, value_after}
use Rattle.printing.specs.Put.{put, ends}
use Rattle.printing.proofs.Putting.{Written, then, put_none}
use Rattle.line_forms.specs.Forms.{before}
use Rattle.script.specs.Script.{line_at}
use Rattle.script.specs.declared.Parsed.{Parsed}
use Rattle.script.proofs.Answers.{next_on}
use Rattle.event_bytes.specs.Bytes.{event_bytes}
use Rattle.script_events.specs.Events.{answer_of, line_from, next_from, stop_at, events_from}

-- ---- A printed text

-- how many bytes are left from a place on
pub left : (text : List ℕ) (at : ℕ) (rest : List ℕ) → rest ≡ drop at text → length rest ≡ length text - at
left text at rest e = ap length e ∙ length-drop at text

next_within : (text : List ℕ) (at : ℕ) → next_from text at ≤ length text
next_within text at =
    cases (λ n. n ≤ length text) (ltb (at + before 10 (drop at text)) (length text)) _ _
    (λ e. omega (arith, ltb-true (at + before 10 (drop at text)) (length text) e)) (λ e. omega arith)

module _ (text : List ℕ) (at : ℕ) (rest : List ℕ) (e : rest ≡ drop at text) (n : ℕ) (p : n ≡ before 10 rest) where
  pub next_there : n < length rest → at + n + 1 ≡ next_from text at
  next_there h = rw (← e, ← p, lt-ltb (at + n) (length text) (omega (arith, left text at rest e)))

  pub next_none : length rest ≤ n → length text ≡ next_from text at
  next_none h = rw (← e, ← p, le-ltb (at + n) (length text) (omega (arith, left text at rest e)))

-- where a text says why the play stopped, by where its second line begins
pub stop_there : (text : List ℕ) (at : ℕ) → at ≡ next_from text 0 → (rest : List ℕ) → rest ≡ drop at text
    → (n : ℕ) → (n ≡ before 115 rest) × (n ≤ length rest) → (at + n ≡ stop_at text) × (at + n ≤ length text)
unfolding stop_at
stop_there text at e rest f n p =
    let h : at ≤ length text = rw e (next_within text 0) in
    (rw (← e, ← f, p.0), omega (arith, left text at rest f))

module _
    (line rest part : List ℕ)
    (e : rest ≡ drop (before 32 line + 1) line)
    (f : part ≡ take (before 32 rest) rest)
  where
    pub told : (r : Option ℕ) → r ≡ choose (is_number part) (Some (value_after 0 part)) None
        → unwrap_or r 0 ≡ answer_of line
    unfolding answer_of
    told r q = rw (q, ← e, ← f) (go (is_number part) (value_after 0 part))
      where
        go : (t : Bool) (v : ℕ) → unwrap_or (choose t (Some v) None) 0 ≡ choose t v 0
        go true v = refl
        go false v = refl

-- ---- All events

pub less : (script : List ℕ) (at : ℕ) (p : Parsed) → at < length script → p ≡ line_at script at
    → length script - p.next < length script - at
less script at p h e = let n = next_on script at h in rw e (omega arith)

module _ (script text : List ℕ) where
  -- nothing is left at the end
  pub no_more : (most at from : ℕ) → length script ≤ at → events_from script text most at from ≡ []
  unfolding events_from
  no_more zero at from h = refl
  no_more (suc most) at from h = choose_yes _ _ (le-leb _ _ h)

  -- the event of a line, and what the lines after it say
  abbrev Then : (most at from : ℕ) → List ℕ
  Then most at from =
      event_bytes (line_at script at).line (answer_of (line_from text from))
      ++ events_from script text most (line_at script at).next (next_from text from)

  one_more : (most at from : ℕ) → at < length script → events_from script text (suc most) at from ≡ Then most at from
  unfolding events_from
  one_more most at from h = choose_no _ _ (lt-leb _ _ h)

  -- as many lines as there are bytes are enough
  enough : (most at from : ℕ) → length script ≤ at + most
      → events_from script text (suc most) at from ≡ events_from script text most at from
  enough zero at from h = no_more 1 at from (omega arith) ∙ sym (no_more 0 at from (omega arith))
  enough (suc most) at from h =
      go
      (λ n. ap (λ l. event_bytes (line_at script at).line (answer_of (line_from text from)) ++ l)
      (enough most (line_at script at).next (next_from text from) n))
      (dec_lt at (length script))
    where
      go : (length script ≤ (line_at script at).next + most → Then (suc most) at from ≡ Then most at from) →
          Dec (at < length script)
          → events_from script text (suc (suc most)) at from ≡ events_from script text (suc most) at from
      go e (yes z) =
          let n = next_on script at z in one_more (suc most) at from z ∙ e (omega arith) ∙ sym (one_more most at from z)
      go e (no z) = no_more (suc (suc most)) at from (omega arith) ∙ sym (no_more (suc most) at from (omega arith))

  pub event_then : (at from : ℕ) → at < length script
      → events_from script text (length script) at from ≡ Then (length script) at from
  event_then at from h =
      sym (enough (length script) at from (omega arith)) ∙ one_more (length script) at from h

  -- one turn: the event of the line at a place is put
  pub turn : (out now now' all : List ℕ) (end end' at from : ℕ) (p : Parsed) (answer next : ℕ) → at < length script
      → p ≡ line_at script at → answer ≡ answer_of (line_from text from) → next ≡ next_from text from
      → Written out 0 all (put now end (events_from script text (length script) at from))
      (ends now end (events_from script text (length script) at from))
      → Written now end (event_bytes p.line answer) now' end'
      → Written out 0 all (put now' end' (events_from script text (length script) p.next next))
      (ends now' end' (events_from script text (length script) p.next next))
  turn out now now' all end end' at from p answer next h e f g i w =
      let rest = events_from script text (length script) p.next next in
      let d : events_from script text (length script) at from ≡ event_bytes p.line answer ++ rest =
      rw (e, f, g) (event_then at from h) in
      let t = then now now' (put now' end' rest) (event_bytes p.line answer) rest end end' _ w (refl, refl) in
      (t.0 ∙ sym (ap (put now end) d) ∙ i.0, t.1 ∙ sym (ap (ends now end) d) ∙ i.1)

  pub last : (out now all : List ℕ) (end at from : ℕ) → length script ≤ at → end ≤ length now
      → Written out 0 all (put now end (events_from script text (length script) at from))
      (ends now end (events_from script text (length script) at from))
      → Written out 0 all now end
  last out now all end at from h l i =
      let n = no_more (length script) at from h in
      let e : end ≡ ends now end [] = omega arith in (
        sym (put_none now end) ∙ sym (ap (put now end) n) ∙ i.0,
        e ∙ sym (ap (ends now end) n) ∙ i.1,
      )
