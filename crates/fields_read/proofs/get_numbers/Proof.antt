-- `get_numbers`: the numbers of the pass that the bytes name.
use borrow.Author.Rules.{rules}
use mathlib.Core.Path.{sym, ap, ◌∙◌}
use Rattle.wire_read.proofs.Within.{fields_first, fields_second}
use Rattle.field_words.specs.Words.{field_words}
use Rattle.fields_read.specs.Pieces.{dims_by}
use Rattle.fields_read.proofs.get_numbers.Statement.{statement}
use Rattle.fields_read.proofs.get_numbers.Tie as tie

returns : tie.Need-returns-then-bytes-eq1
returns c =
    let g = c in
    let t = g in
    let bs = t.args.bytes.now in
    g.get_first.ensures ∙ ap field_words (sym (fields_first (dims_by bs) bs t.if-bytes-eq1.true))

returns_2 : tie.Need-returns
returns_2 c =
    let g = c in
    let t = g in
    let bs = t.args.bytes.now in
    g.get_second.ensures ∙ ap field_words (sym (fields_second (dims_by bs) bs t.if-bytes-eq1.false))

pub get_numbers_spec : {M : Type 1} → statement M
get_numbers_spec =
    tie.close
    (tie.spec (λ c. search rules) (λ c κs. search rules) (λ c. search rules) returns (λ c κs. search rules)
    (λ c. search rules) returns_2)
