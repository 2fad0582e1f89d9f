-- `all_digits` is `all_digits`: the test of each byte, joined.
use Rattle.std.proofs.Common.{rules, tests, ◌∙◌}
use Rattle.std.specs.Char.{is_ascii_digit}
use Rattle.std.proofs.lemmas.Iterator.{YieldsList-from_slice}
use Rattle.std.proofs.lemmas.Iterator.Search.{all_from_yields_List}
use Rattle.line_parts.proofs.Walks.{all_same}
use Rattle.line_parts.proofs.all_digits.Goals as goal

pub returns : goal.returns
returns c =
    let xs = c.args.s.now in
    all_from_yields_List is_ascii_digit _ _ _ c.all.ensures.ran (YieldsList-from_slice xs cc) (λ x b q k. search (rules, tests))
    ∙ all_same xs
