-- `put_first`: the head, the tallies sent, the tallies taken, both totals.
use borrow.Author.Rules.{rules}
use native.Mathlib.Omega.{arith}
use Rattle.fields.proofs.Bytes.{first_no, first_yes}
use Rattle.fields.proofs.put_first.Statement.{statement}
use Rattle.fields.proofs.put_first.Tie as tie

returns : tie.Need-returns-then-buf-length
returns c =
    let s = c in
    let x = s.args in
    first_no x.fields.now x.buf.now s.requires.0 x.p s.requires.1 s.requires.2 (omega (arith, c.if-buf-length.true))

returns_2 : tie.Need-returns
returns_2 c =
    let t = c in
    let u = t in
    let v = u in
    let h = v in
    let e = h in
    let s = e in
    let x = s.args in
    first_yes x.fields.now x.buf.now s.requires.0 x.p s.requires.1 s.requires.2 _ _ _ _ (omega (arith, e.if-buf-length.false))
    h.put_head.ensures v.put_between.ensures u.put_between-2.ensures t.put_between-3.ensures

pub put_first_spec : {M : Type 1} → statement M
put_first_spec =
    tie.close
    (tie.spec (λ c. search rules) (λ c. search rules) (λ c. search rules) (λ c. search rules) (λ c. search rules) (λ c. search rules) returns (λ c. search rules) (λ c κs. search rules) (λ c. search rules) (λ c. search rules) (λ c κs. search rules) (λ c. search rules) (λ c. search rules) (λ c. search rules) (λ c κs. search rules) (λ c. search rules) (λ c. search rules) (λ c κs. search rules) (λ c. search rules) returns_2)
