-- `one_number` is `one_number`.
use borrow.Author.Rules.{rules}
use mathlib.Core.Path.{◌≡◌, sym, ap, ◌∙◌}
use mathlib.Core.Bool.{true}
use Rattle.line_forms.specs.declared.Line.TheVariants.{Nodes, Idles, Calls}
use Rattle.line_parts.specs.Parts.{is_number, value_after}
use Rattle.line_forms.proofs.Numbers.{number_none, number_is, one_bad}
use Rattle.line_forms.proofs.one_number.Statement.{statement}
use Rattle.line_forms.proofs.one_number.Tie as tie

returns : tie.Need-returns-in_default
returns c =
    let n = c in
    let x = n.args in
    let e = number_none x.first.now _ n.number_of.ensures c.in_default.is in
    sym (one_bad x.word.now x.first.now e)

-- the number read
known : (c : tie.In-Some)
    → let s = c.args.first.now in
    (is_number s ≡ true) × (c.in-Some.x ≡ value_after 0 s)
known c =
    let n = c in
    number_is n.args.first.now _ n.number_of.ensures _ c.in-Some.is

returns_2 : tie.Need-returns-then-is_nodes
returns_2 c =
    let k = known c.before.before in
    rw (sym c.is_nodes.ensures ∙ c.if-is_nodes.true, k.0) (ap Nodes k.1)

returns_3 : tie.Need-returns-then-is_letter
returns_3 c =
    let n = c in
    let k = known n.before.before.before.before in
    rw (
      sym n.is_nodes.ensures ∙ n.if-is_nodes.false,
      sym c.is_letter.ensures ∙ c.if-is_letter.true,
      k.0,
    )
    (ap Idles k.1)

returns-4 : tie.Need-returns-then-is_letter-2
returns-4 c =
    let i = c in
    let n = i in
    let k = known n.before.before.before.before.before.before in
    rw (
      sym n.is_nodes.ensures ∙ n.if-is_nodes.false,
      sym i.is_letter.ensures ∙ i.if-is_letter.false,
      sym c.is_letter-2.ensures ∙ c.if-is_letter-2.true,
      k.0,
    )
    (ap Calls k.1)

returns_5 : tie.Need-returns
returns_5 c =
    let i = c in
    let n = i in
    rw (
      sym n.is_nodes.ensures ∙ n.if-is_nodes.false,
      sym i.is_letter.ensures ∙ i.if-is_letter.false,
      sym c.is_letter-2.ensures ∙ c.if-is_letter-2.false,
    )

pub one_number_spec : {M : Type 1} → statement M
one_number_spec =
    tie.close
    (tie.spec (λ c κs. search rules) (λ c. search rules) (λ c. search rules) returns (λ c κs. search rules) returns_2
    (λ c κs. search rules) returns_3 (λ c κs. search rules) returns-4 returns_5)
