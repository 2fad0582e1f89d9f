-- `put_stop` puts the line of a stop, piece after piece.
use borrow.Author.Rules.{rules}
use Rattle.printing.proofs.Putting.{then, said}
use Rattle.text.proofs.Lines.{stop_text_lem}
use Rattle.text.proofs.put_stop.Statement.{statement}
use Rattle.text.proofs.put_stop.Tie as tie

returns : tie.Need-returns
returns c =
    let end = c in
    let line = end in
    let middle = line in
    let why = middle in
    let stop = why in
    let two = then _ _ _ _ _ _ _ _ stop.put_bytes-a.ensures why.put_digits-b.ensures in
    let three = then _ _ _ _ _ _ _ _ two middle.put_bytes-c.ensures in
    let four = then _ _ _ _ _ _ _ _ three line.put_digits-d.ensures in
    said _ _ _ _ _ _ (stop_text_lem _ _) (then _ _ _ _ _ _ _ _ four end.put_byte.ensures)

pub put_stop_spec : {M : Type 1} → statement M
put_stop_spec =
    tie.close
    (tie.spec (λ c κs. search rules) (λ c κs. search rules) (λ c κs. search rules) (λ c κs. search rules)
    (λ c κs. search rules) (λ c. search rules) returns)
