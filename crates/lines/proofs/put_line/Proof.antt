-- `put_line` puts the line of a stop, or that of an event.
use mathlib.Core.Path.{sym, ap, ◌∙◌}
use borrow.Author.Rules.{rules}
use Rattle.base.proofs.Laws.{choose_yes, choose_no}
use Rattle.turn_text.specs.Shown.{shown_text}
use Rattle.printing.proofs.Putting.{said}
use Rattle.lines.proofs.put_line.Statement.{statement}
use Rattle.lines.proofs.put_line.Tie as tie

returns : tie.Need-returns-then-is_stop
returns c =
    let s = c in
    let t = s in
    said _ _ _ _ _ _ (sym (choose_yes _ _ (sym t.is_stop.ensures ∙ t.if-is_stop.true))) s.put_stop.ensures

returns_2 : tie.Need-returns
returns_2 c =
    let s = c in
    let n = s in
    let t = n in
    said _ _ _ _ _ _ (ap (shown_text _ _) n.acting-n.ensures ∙ sym
    (choose_no _ _ (sym t.is_stop.ensures ∙ t.if-is_stop.false)))
    s.put_turn.ensures

pub put_line_spec : {M : Type 1} → statement M
put_line_spec =
    tie.close
    (tie.spec (λ c κs. search rules) (λ c κs. search rules) (λ c. search rules) returns (λ c κs. search rules)
    (λ c κs. search rules) (λ c. search rules) returns_2)
