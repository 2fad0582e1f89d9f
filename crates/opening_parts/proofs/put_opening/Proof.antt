-- `put_opening` puts the header, and the line of a stop where there is one.
use borrow.Author.Rules.{rules}
use Rattle.printing.proofs.Putting.{then, said}
use Rattle.opening_parts.proofs.Texts.{opening_none, opening_stop}
use Rattle.opening_parts.proofs.put_opening.Statement.{statement}
use Rattle.opening_parts.proofs.put_opening.Tie as tie

returns : tie.Need-returns-then-why-eq0
returns c =
    let h = c in
    said _ _ _ _ _ _ (opening_none _ h.args.line c.if-why-eq0.true) h.put_header-at.ensures

returns_2 : tie.Need-returns
returns_2 c =
    let s = c in
    let t = s in
    let h = t in
    said _ _ _ _ _ _ (opening_stop _ h.args.line t.if-why-eq0.false)
    (then _ _ _ _ _ _ _ _ h.put_header-at.ensures s.put_stop.ensures)

pub put_opening_spec : {M : Type 1} → statement M
put_opening_spec =
    tie.close
    (tie.spec (λ c κs. search rules) (λ c. search rules) returns (λ c κs. search rules) (λ c. search rules) returns_2)
