-- `first_at` is `at_first` by its closed form, where the board has the dimension; 0 elsewhere.
use borrow.Author.Rules.{rules}
use mathlib.Core.Path.{sym, ◌∙◌}
use Prim.Native.Nat.{ℕ, ◌+◌, ◌*◌, ◌-◌, ◌≤◌, ◌<◌}
use native.Mathlib.Omega.{arith}
use borrow.Author.Tests.{lt-leb, le-leb}
use Rattle.base.proofs.Laws.{choose_yes, choose_no}
use Rattle.base.proofs.Limits.{mul_low}
use Rattle.layout.proofs.Offsets.{first_closed}
use Rattle.layout.proofs.first_at.Statement.{statement}
use Rattle.layout.proofs.first_at.Tie as tie

-- for numbers of a byte the product is far below 2 ^ 32
product_low : (p k : ℕ) → p < 256 → k ≤ p → k * (2 * p + 7 - k) ≤ 255 * 517
product_low p k l h = mul_low k 255 (2 * p + 7 - k) 517 (omega arith) (omega arith)

returns : tie.Need-returns-then-p-k
returns c = sym (choose_no _ 0 (lt-leb c.args.k c.args.p (search rules)))

mul-result-3 : tie.Need-overflow_mul-result-3
mul-result-3 c =
    let a = c.args in omega (arith, product_low a.p a.k (search rules) (search rules))

add-result-3 : tie.Need-overflow_add-result-3
add-result-3 c =
    let a = c.args in omega (arith, product_low a.p a.k (search rules) (search rules))

returns_2 : tie.Need-returns
returns_2 c =
    let p = c.args.p in
    let k = c.args.k in
    let h : k ≤ p = search rules in
    sym (choose_yes _ 0 (le-leb k p h) ∙ first_closed p k h)

pub first_at_spec : {M : Type 1} → statement M
first_at_spec =
    tie.close
    (tie.spec returns (λ c. search rules) (λ c. search rules) (λ c. search rules) (λ c. search rules) (λ c. search rules)
    mul-result-3 add-result-3 returns_2)
