use borrow.Author.Rules.{rules}
use native.Mathlib.Omega.{arith}
use mathlib.Core.Path.{◌≡◌, ap}
use Prim.Native.Nat.{suc, ◌-◌, ◌*◌}
use Rattle.base.specs.Limits.{base, last_of}
use Rattle.base.proofs.Limits.{mul_low}
use Rattle.base.proofs.Bounds.taken_limit.Statement.{statement}
use Rattle.base.proofs.Bounds.taken_limit.Tie as tie

mul-result : tie.Need-overflow_mul-result
mul-result c =
    let x = c.last.result in
    let b = c.args.self in
    omega (arith, mul_low x base.nodes b.sends base.sends (search rules) (search rules))

returns : tie.Need-returns
returns c =
    let b = c.args.self in
    let e : c.last.result ≡ suc (last_of b) - 1 = omega (arith, c.last.ensures.0) in
    ap (λ n. n * b.sends) e

pub taken_limit_spec : {M : Type 1} → statement M
taken_limit_spec = tie.close (tie.spec (λ c. search rules) (λ c. search rules) mul-result returns)
