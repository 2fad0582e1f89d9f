-- `put_zeros` fills the words between two places.
use Rattle.std.proofs.Common.{arith, ◌≡◌, ◌+◌, ◌-◌, length, take, drop, replicate}
use mathlib.Core.Path.{ap, ◌∙◌}
use mathlib.Core.List.{◌++◌}
use lib.Seq.{drop-drop, length-take-le}
use lib.ListN.{length-drop}
use Rattle.fresh_words.proofs.Zeros.{zeros_are}
use Rattle.fresh_words.proofs.put_zeros.Goals as goal

pub returns : goal.returns
returns c =
    let a = c.args in
    let ws = a.state.now in
    let n : length (take (a.end - a.from) (drop a.from ws)) ≡ a.end - a.from =
    length-take-le (a.end - a.from) (drop a.from ws) (omega (arith, length-drop a.from ws)) in
    let z : a.from + (a.end - a.from) ≡ a.end = omega arith in
    let d : drop (a.end - a.from) (drop a.from ws) ≡ drop a.end ws = drop-drop (a.end - a.from) a.from ws ∙ ap (λ m. drop m ws) z in
    let e = c.fill.ensures.after (λ y h. h) ∙ ap (λ m. replicate m 0) n ∙ zeros_are 0 (a.end - a.from) in
    rw (e, d)
