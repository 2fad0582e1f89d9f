-- `state_words` is `state_words`, by its closed form; for a number of a byte no product or sum is too large.
use borrow.Author.Rules.{rules}
use mathlib.Core.Path.{sym}
use Prim.Native.Nat.{◌+◌}
use native.Mathlib.Omega.{arith}
use Rattle.base.proofs.Limits.{mul_low}
use Rattle.layout.proofs.Offsets.{words_closed}
use Rattle.layout.proofs.state_words.Statement.{statement}
use Rattle.layout.proofs.state_words.Tie as tie

mul-result : tie.Need-overflow_mul-result
mul-result c = let p = c.args.p in omega (arith, mul_low p 255 (p + 9) 264 (search rules) (search rules))

add-result-2 : tie.Need-overflow_add-result-2
add-result-2 c = let p = c.args.p in omega (arith, mul_low p 255 (p + 9) 264 (search rules) (search rules))

returns : tie.Need-returns
returns c = sym (words_closed c.args.p)

pub state_words_spec : {M : Type 1} → statement M
state_words_spec = tie.close (tie.spec (λ c. search rules) mul-result add-result-2 returns)
