-- `put_sums`: the sums sent, then the sums taken with both totals.
use borrow.Author.Rules.{rules}
use mathlib.Core.Path.{ap, ◌∙◌}
use Prim.Native.Nat.{◌+◌, ◌-◌, ◌*◌}
use Rattle.wire.specs.Wire.{put_numbers}
use Rattle.due_frame.specs.Frames.{taken_part}
use Rattle.due_frame.proofs.put_sums.Statement.{statement}
use Rattle.due_frame.proofs.put_sums.Tie as tie

returns : tie.Need-returns
returns c =
    let t = c in
    let m = t in
    let a = m.args in
    t.put_numbers-2.ensures
    ∙ ap (λ l. put_numbers l (4 + 4 * (a.p - a.k)) (taken_part a.sums.now a.p a.k)) m.put_numbers.ensures

pub put_sums_spec : {M : Type 1} → statement M
put_sums_spec =
    tie.close
    (tie.spec (λ c. search rules) (λ c. search rules) (λ c. search rules) (λ c. search rules) (λ c κs. search rules)
    (λ c. search rules) (λ c. search rules) (λ c. search rules) (λ c. search rules) (λ c. search rules)
    (λ c. search rules) (λ c. search rules) (λ c. search rules) (λ c. search rules) (λ c. search rules)
    (λ c. search rules) (λ c κs. search rules) (λ c. search rules) returns)
