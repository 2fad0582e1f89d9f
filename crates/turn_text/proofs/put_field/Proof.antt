-- `put_field` puts the digits of a number, then a blank.
use borrow.Author.Rules.{rules}
use mathlib.Core.List.{[], ◌∷◌}
use Rattle.printing.specs.Put.{digits}
use Rattle.printing.proofs.Putting.{then}
use Rattle.turn_text.proofs.put_field.Statement.{statement}
use Rattle.turn_text.proofs.put_field.Tie as tie

returns : tie.Need-returns
returns c =
    let blank = c in
    let number = blank in
    then _ _ _ (digits _) (32 ∷ []) _ _ _ number.put_digits-next.ensures blank.put_byte.ensures

pub put_field_spec : {M : Type 1} → statement M
put_field_spec =
    tie.close
    (tie.spec (λ c κs. search rules) (λ c κs. search rules) (λ c. search rules) returns)
