-- `put_second`: the head, T, total sent.
use borrow.Author.Rules.{rules}
use native.Mathlib.Omega.{arith}
use Rattle.fields.proofs.Bytes.{second_no, second_yes}
use Rattle.fields.proofs.put_second.Statement.{statement}
use Rattle.fields.proofs.put_second.Tie as tie

returns : tie.Need-returns-then-buf-lt12
returns c =
    let s = c in
    second_no s.args.fields.now s.args.buf.now s.requires.0 (omega (arith, c.if-buf-lt12.true))

returns_2 : tie.Need-returns
returns_2 c =
    let t = c in
    let v = t in
    let h = v in
    let e = h in
    let s = e in
    second_yes s.args.fields.now s.args.buf.now s.requires.0 _ _ _ (omega (arith, e.if-buf-lt12.false)) h.put_head.ensures
    v.put_between.ensures t.put_between-2.ensures

pub put_second_spec : {M : Type 1} → statement M
put_second_spec =
    tie.close
    (tie.spec returns (λ c κs. search rules) (λ c κs. search rules) (λ c κs. search rules) (λ c. search rules) returns_2)
