-- `put_event` puts `event_bytes`.
use borrow.Author.Rules.{rules}
use mathlib.Core.Path.{◌≡◌, sym, ap}
use Prim.Native.Nat.{ℕ}
use Rattle.line_forms.specs.declared.Line.{Line}
use Rattle.printing.proofs.Putting.{said}
use Rattle.event_bytes.specs.Bytes.{event_bytes}
use Rattle.event_bytes.proofs.Tags.{no_event}
use Rattle.event_bytes.proofs.put_event.Statement.{statement}
use Rattle.event_bytes.proofs.put_event.Tie as tie

-- the bytes of the event of a line that is of a kind
known : (line kind : Line) (answer : ℕ) → line ≡ kind → event_bytes kind answer ≡ event_bytes line answer
known line kind answer e = ap (λ l. event_bytes l answer) (sym e)

returns : tie.Need-returns-in-Sends
unfolding event_bytes
returns c =
    let p = c in
    let l = p in
    said _ _ _ _ _ _
    (rw l.letter_of.ensures (known _ _ _ l.in-Sends.is)) p.put_four.ensures

returns_2 : tie.Need-returns-in-Delivers
unfolding event_bytes
returns_2 c =
    let p = c in
    said _ _ _ _ _ _ (known _ _ _ p.in-Delivers.is) p.put_four-in-Delivers.ensures

returns_3 : tie.Need-returns-in-Idles
unfolding event_bytes
returns_3 c =
    let p = c in
    said _ _ _ _ _ _ (known _ _ _ p.in-Idles.is) p.put_four-in-Idles.ensures

returns-4 : tie.Need-returns-in-Calls
unfolding event_bytes
returns-4 c =
    let p = c in
    said _ _ _ _ _ _ (known _ _ _ p.in-Calls.is) p.put_four-in-Calls.ensures

returns_5 : tie.Need-returns-in_default
returns_5 c =
    let m = c.in_default in
    said _ _ _ _ _ _ (sym (no_event c.args.line _ m.not-Sends m.not-Delivers m.not-Idles m.not-Calls))
    c.put_bytes.ensures

pub put_event_spec : {M : Type 1} → statement M
put_event_spec =
    tie.close
    (tie.spec (λ c. search rules) (λ c κs. search rules) (λ c κs. search rules) (λ c. search rules)
    (λ c κs. search rules) (λ c. search rules) (λ c κs. search rules) (λ c. search rules) (λ c κs. search rules)
    (λ c κs. search rules) (λ c. search rules) returns (λ c. search rules) returns_2
    (λ c. search rules) returns_3 (λ c. search rules) returns-4 (λ c. search rules) returns_5)
