-- `next_from` is `next_from`.
use borrow.Author.Rules.{rules}
use native.Mathlib.Omega.{arith}
use Rattle.script_events.proofs.Events.{left, next_there, next_none}
use Rattle.script_events.proofs.next_from.Statement.{statement}
use Rattle.script_events.proofs.next_from.Tie as tie

add-result : tie.Need-overflow_add-result
add-result c =
    let f = c in
    omega (arith, left f.args.text.now f.args.at _ f.from-rest.ensures)

add-result-2 : tie.Need-overflow_add-result-then-n-rest
add-result-2 c =
    let f = c in
    omega (arith, left f.args.text.now f.args.at _ f.from-rest.ensures)

returns : tie.Need-returns-then-n-rest
returns c =
    let f = c in
    next_there _ _ _ f.from-rest.ensures _ f.find-n.ensures.0 c.if-n-rest.true

returns_2 : tie.Need-returns
returns_2 c =
    let f = c in
    next_none _ _ _ f.from-rest.ensures _ f.find-n.ensures.0 c.if-n-rest.false

pub next_from_spec : {M : Type 1} → statement M
next_from_spec =
    tie.close
    (tie.spec (λ c κs. search rules) (λ c κs. search rules) add-result add-result-2 returns returns_2)
