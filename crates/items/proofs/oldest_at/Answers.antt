-- `oldest_at` is `oldest_within`: where the search finds an item on the link, or as many as are looked at.
use Rattle.std.proofs.Common.{rules, tests, ◌∙◌, ap, take, unwrap_or, arith}
use Rattle.std.proofs.lemmas.Iterator.{YieldsList-from_slice}
use Rattle.std.proofs.lemmas.Iterator.Search.{position_from_yields_List}
use Rattle.items.specs.Places.{on_link, place_from}
use Rattle.items.proofs.Lists.{found}
use Rattle.items.proofs.oldest_at.Goals as goal

pub returns : goal.returns
returns c =
    let ys = c.args.items.now in
    let a = c.args.from in
    let b = c.args.to in
    let p =
    position_from_yields_List (λ it. on_link it a b) _ _ c.position.result c.position.ensures.ran
    (YieldsList-from_slice (take c.min-most.result ys) (search rules))
    (λ x b q k. search (rules, tests)) in
    c.unwrap_or.ensures ∙ ap (λ o. unwrap_or o c.min-most.result) p ∙ found a b ys c.min-most.result (omega (arith, c.min-most.ensures))
    ∙ ap (λ n. place_from ys a b 0 n) c.min-most.ensures
