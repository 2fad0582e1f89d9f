-- `put_digits` puts the digits of a number, by how many zeros stand before them.
use Rattle.std.proofs.Common.{◌≡◌, ◌-◌, ◌∙◌, ap, arith, take, drop, [], ◌∷◌}
use Rattle.printing.specs.Put.{digits, put, ends}
use Rattle.digits.proofs.Digits.{digits_one, digits_two, digits_three, digits_four}
use Rattle.digits.proofs.put_digits.Goals as goal
use Rattle.digits.proofs.put_digits.Goals.{in-0-to-9, in-10-to-99, in-100-to-999, in_default}

pub returns : goal.returns
returns c =
    let z = c.if-x-lt10.zeros in
    let four = c.digit.result ∷ c.digit-2.result ∷ c.digit-3.result ∷ c.digit-4.result ∷ [] in
    -- what follows the zeros
    let left : take (4 - z) (drop z four) ≡ digits c.args.x =
    elim c.if-x-lt10.branch [
      | in-0-to-9 w ↦ rw w.zeros-is (digits_one _ _ c.digit-4.ensures (omega arith))
      | in-10-to-99 w ↦ rw w.zeros-is (digits_two _ _ _ c.digit-3.ensures c.digit-4.ensures (omega arith) (omega arith))
      | in-100-to-999 w ↦
          rw w.zeros-is
          (digits_three _ _ _ _ c.digit-2.ensures c.digit-3.ensures c.digit-4.ensures (omega arith) (omega arith))
      | in_default w ↦
          rw w.zeros-is
          (digits_four _ _ _ _ _ c.digit.ensures c.digit-2.ensures c.digit-3.ensures c.digit-4.ensures (omega arith))
    ] in
    record {
      memory = c.put_bytes.ensures.memory ∙ ap (put c.args.out.now c.args.at) left;
      place = c.put_bytes.ensures.place ∙ ap (ends c.args.out.now c.args.at) left;
    }
