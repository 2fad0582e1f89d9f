-- `get_second`: T and total sent.
use borrow.Author.Rules.{rules}
use native.Mathlib.Omega.{arith}
use Rattle.fields_read.proofs.Rows.{head_known, agreed_known, second_put_lem}
use Rattle.fields_read.proofs.get_second.Statement.{statement}
use Rattle.fields_read.proofs.get_second.Tie as tie

part-copy-numbers-end : tie.Need-slice_bounds-copy_numbers-end
part-copy-numbers-end c =
    let s = c in
    omega (arith, (head_known s.args.bytes.now s.args.fields.now s.requires.0).0)

part-copy-numbers-end-3 : tie.Need-slice_bounds-copy_numbers-end-3
part-copy-numbers-end-3 c =
    let g = c in
    let s = g in
    omega (
      arith,
      agreed_known s.args.bytes.now s.args.fields.now s.requires.0 s.requires.1 _ g.copy_numbers.ensures,
    )

returns : tie.Need-returns
returns c =
    let t = c in
    let g = t in
    let s = g in
    second_put_lem s.args.bytes.now s.args.fields.now s.requires.0 s.requires.1 _ g.copy_numbers.ensures _
    t.copy_numbers-2.ensures

pub get_second_spec : {M : Type 1} → statement M
get_second_spec =
    tie.close
    (tie.spec (λ c. search rules) (λ c. search rules) part-copy-numbers-end (λ c κs. search rules) (λ c. search rules)
    (λ c. search rules) (λ c. search rules) (λ c. search rules) (λ c. search rules) part-copy-numbers-end-3
    (λ c κs. search rules) (λ c. search rules) returns)
