-- `two_numbers` is `two_numbers`.
use borrow.Author.Rules.{rules}
use mathlib.Core.Path.{◌≡◌, sym, ap₂, ◌∙◌}
use mathlib.Core.Bool.{true}
use Rattle.base.specs.declared.Kind.TheVariants.{Job, Note}
use Rattle.line_forms.specs.declared.Line.TheVariants.{Sends, Delivers}
use Rattle.line_parts.specs.Parts.{is_number, value_after}
use Rattle.line_forms.proofs.Numbers.{number_none, number_is, two_bad}
use Rattle.line_forms.proofs.two_numbers.Statement.{statement}
use Rattle.line_forms.proofs.two_numbers.Tie as tie

returns : tie.Need-returns-in_default
returns c =
    let n = c in
    let x = n.args in
    let e = number_none x.first.now _ n.number_of.ensures c.in_default.is in
    sym (two_bad x.word.now x.first.now x.second.now (rw e))

-- the first number read
first : (c : tie.In-Some)
    → let s = c.args.first.now in
    (is_number s ≡ true) × (c.in-Some.x ≡ value_after 0 s)
first c =
    let n = c in
    number_is n.args.first.now _ n.number_of.ensures _ c.in-Some.is

returns_2 : tie.Need-returns-in_default-number_of
returns_2 c =
    let n = c in
    let x = n.args in
    let e = number_none x.second.now _ n.number_of-2.ensures c.in_default-number_of.is in
    sym (two_bad x.word.now x.first.now x.second.now (rw ((first n.before.before).0, e)))

-- the second number read
second : (c : tie.In-Some-number_of)
    → let n = c in
    let s = n.args.second.now in
    (is_number s ≡ true) × (c.in-Some-number_of.y ≡ value_after 0 s)
second c =
    let n = c in
    let x = n.args in
    number_is x.second.now _ n.number_of-2.ensures _ c.in-Some-number_of.is

returns_3 : tie.Need-returns-then-is_letter
returns_3 c =
    let y = second c.before.before in
    let x = first c.before.before.before.before in
    rw (sym c.is_letter.ensures ∙ c.if-is_letter.true, x.0, y.0) (ap₂ (Sends Job) x.1 y.1)

returns-4 : tie.Need-returns-then-is_letter-2
returns-4 c =
    let s = c in
    let y = second s.before.before.before.before in
    let x = first s.before.before.before.before.before.before in
    rw (
      sym s.is_letter.ensures ∙ s.if-is_letter.false,
      sym c.is_letter-2.ensures ∙ c.if-is_letter-2.true,
      x.0,
      y.0,
    )
    (ap₂ (Sends Note) x.1 y.1)

returns_5 : tie.Need-returns-then-is_letter-3
returns_5 c =
    let t = c in
    let s = t in
    let y = second s.before.before.before.before.before.before in
    let x = first s.before.before.before.before.before.before.before.before in
    rw (
      sym s.is_letter.ensures ∙ s.if-is_letter.false,
      sym t.is_letter-2.ensures ∙ t.if-is_letter-2.false,
      sym c.is_letter-3.ensures ∙ c.if-is_letter-3.true,
      x.0,
      y.0,
    )
    (ap₂ Delivers x.1 y.1)

returns-6 : tie.Need-returns
returns-6 c =
    let t = c in
    let s = t in
    rw (
      sym s.is_letter.ensures ∙ s.if-is_letter.false,
      sym t.is_letter-2.ensures ∙ t.if-is_letter-2.false,
      sym c.is_letter-3.ensures ∙ c.if-is_letter-3.false,
    )

pub two_numbers_spec : {M : Type 1} → statement M
two_numbers_spec =
    tie.close
    (tie.spec (λ c κs. search rules) (λ c. search rules) (λ c. search rules) returns (λ c κs. search rules)
    (λ c. search rules) (λ c. search rules) returns_2 (λ c κs. search rules) returns_3 (λ c κs. search rules) returns-4
    (λ c κs. search rules) returns_5 returns-6)
