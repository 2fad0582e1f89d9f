-- `put_turn` puts the line of an event, field after field.
use borrow.Author.Rules.{rules}
use Rattle.printing.proofs.Putting.{then, said}
use Rattle.turn_text.proofs.Row.{row_text_lem}
use Rattle.turn_text.proofs.put_turn.Statement.{statement}
use Rattle.turn_text.proofs.put_turn.Tie as tie

returns : tie.Need-returns
returns c =
    let bits = c in
    let dim = bits in
    let pass = dim in
    let phase = pass in
    let answer = phase in
    let actor = answer in
    let two = then _ _ _ _ _ _ _ _ actor.put_field-a.ensures answer.put_field-b.ensures in
    let three = then _ _ _ _ _ _ _ _ two phase.put_field-c.ensures in
    let four = then _ _ _ _ _ _ _ _ three pass.put_field-d.ensures in
    let five = then _ _ _ _ _ _ _ _ four dim.put_field-e.ensures in
    said _ _ _ _ _ _
    (row_text_lem _ _ _ _ _ _ _)
    (then _ _ _ _ _ _ _ _ five bits.put_bits.ensures)

pub put_turn_spec : {M : Type 1} → statement M
put_turn_spec =
    tie.close
    (tie.spec (λ c κs. search rules) (λ c κs. search rules) (λ c κs. search rules) (λ c κs. search rules)
    (λ c κs. search rules) (λ c κs. search rules) (λ c. search rules) returns)
