-- `line_at` is `line_at`.
use mathlib.Core.Path.{sym, ap, ◌∙◌}
use Prim.Native.Nat.{◌+◌}
use Rattle.line_forms.specs.declared.Line.{Line}
use Rattle.script.specs.declared.Parsed.{Parsed}
use Rattle.script.proofs.Answers.{after, at_newline, at_end, at_past}
use Rattle.script.proofs.line_at.Goals as goal

pub returns-then-n-rest : goal.returns-then-n-rest
returns-then-n-rest c =
    let x = c.args in
    let made : Line → Parsed = λ l. record { line = l; next = x.at + c.find-n.result + 1 } in
    let w = at_newline x.text.now x.at _ (after x.at x.text.now) _ c.find-n.ensures.0 in
    ap made c.line_of.ensures ∙ sym (w c.if-n-rest.true)

pub returns-else-n-rest : goal.returns-else-n-rest
returns-else-n-rest c =
    let x = c.args in
    sym (at_end x.text.now x.at _ (after x.at x.text.now) _ c.find-n.ensures.0 c.if-n-rest.false)

pub returns-else-at-text : goal.returns-else-at-text
returns-else-at-text c = let x = c.args in sym (at_past x.text.now x.at c.if-at-text.false)
