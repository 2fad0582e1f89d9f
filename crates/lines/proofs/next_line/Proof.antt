-- `next_line` is `told_at`: a line that stops the play, and one that does not.
use mathlib.Core.Path.{sym, ap, ◌∙◌}
use borrow.Author.Rules.{rules}
use lib.ListN.{length}
use Rattle.base.proofs.Laws.{choose_yes, choose_no}
use Rattle.script.specs.Script.{line_at}
use Rattle.lines.specs.Told.{taken, stops, told_at}
use Rattle.lines.proofs.next_line.Statement.{statement}
use Rattle.lines.proofs.next_line.Tie as tie

returns : tie.Need-returns-then-is_stop
unfolding told_at
returns c =
    let w = c in
    let s = w.args in
    let t = w.taken_by-line.ensures ∙ ap (λ p. taken s.size p.line) w.line_at-p.ensures in
    let n = sym (choose_yes (length s.script.now) (line_at s.script.now s.at).next
    (ap stops (sym t) ∙ sym c.is_stop.ensures ∙ c.if-is_stop.true)) in
    λ i. record { line = t i; next = n i }

returns_2 : tie.Need-returns
unfolding told_at
returns_2 c =
    let w = c in
    let s = w.args in
    let t = w.taken_by-line.ensures ∙ ap (λ p. taken s.size p.line) w.line_at-p.ensures in
    let n = ap (λ p. p.next) w.line_at-p.ensures ∙ sym
    (choose_no (length s.script.now) (line_at s.script.now s.at).next
    (ap stops (sym t) ∙ sym c.is_stop.ensures ∙ c.if-is_stop.false)) in
    λ i. record { line = t i; next = n i }

pub next_line_spec : {M : Type 1} → statement M
next_line_spec =
    tie.close (tie.spec (λ c κs. search rules) (λ c κs. search rules) (λ c κs. search rules) returns returns_2)
