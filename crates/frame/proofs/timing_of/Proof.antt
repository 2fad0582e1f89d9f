-- `timing_of` is `timing`: the wrapped difference is the difference modulo 256.
use Rattle.std.proofs.Common.{◌≡◌, ℕ, ◌+◌, ◌%◌, ◌<◌, arith, rules, eq-eqb, ne_eqb}
use Rattle.frame.specs.Timing.{difference, timing}
use Rattle.frame.proofs.timing_of.Statement.{statement}
use Rattle.frame.proofs.timing_of.Tie as tie

wrapped : (f n d : ℕ) → f < 256 → n < 256 → d < 256 → (d + n) % 256 ≡ f → difference f n ≡ d
wrapped f n d hf hn hd e = omega arith

known : (c : tie.After-wrapping_sub_u8-d)
    → difference c.args.other c.args.node ≡ c.wrapping_sub_u8-d.result
known c = wrapped _ _ _ (search rules) (search rules) (search rules) c.wrapping_sub_u8-d.ensures

returns : tie.Need-returns-in-0
unfolding timing
returns c = simp (known c.before, eq-eqb _ _ c.in-0.is)

returns_2 : tie.Need-returns-in-1
unfolding timing
returns_2 c = simp (known c.before, c.in-1.is)

returns_3 : tie.Need-returns-in-255
unfolding timing
returns_3 c = simp (known c.before, c.in-255.is)

returns-4 : tie.Need-returns-in-2-to-254
unfolding timing
returns-4 c =
    let rest = c.in-2-to-254.in-2-to-254-own.rest in
    simp (known c.before, ne_eqb _ _ rest.1, ne_eqb _ _ rest.0.1, ne_eqb _ _ rest.0.0.1)

pub timing_of_spec : {M : Type 1} → statement M
timing_of_spec = tie.close (tie.spec (λ c κs. search rules) returns returns_2 returns_3 returns-4)
