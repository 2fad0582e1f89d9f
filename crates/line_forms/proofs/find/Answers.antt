-- `find` is `before`, which is where the byte is found, or the length.
use Rattle.std.proofs.Common.{rules, tests, ◌∙◌, ◌≡◌, ap, length, eqb, unwrap_or}
use Rattle.std.proofs.lemmas.Iterator.{YieldsList-from_slice}
use Rattle.std.proofs.lemmas.Iterator.Search.{position_from_yields_List}
use Rattle.line_forms.specs.Forms.{before}
use Rattle.line_forms.proofs.Walks.{before_within, found}
use Rattle.line_forms.proofs.find.Goals as goal

pub returns : goal.returns
returns c =
    let s = c.args.s.now in
    let byte = c.args.byte in
    let p =
    position_from_yields_List (λ x. eqb x byte) _ _ c.position.result c.position.ensures.ran (YieldsList-from_slice s cc)
    (λ x b q k. search (rules, tests)) in
    let e : c.unwrap_or.result ≡ before byte s = c.unwrap_or.ensures ∙ ap (λ o. unwrap_or o (length s)) p ∙ found byte s in
    (e, rw e (before_within byte s))
