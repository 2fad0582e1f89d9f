-- `place_in` is `place_in`: the tests are those of the places, in another order.
use Rattle.std.proofs.Common.{arith, ◌+◌, ◌<◌}
use mathlib.Core.Path.{sym, ap, ◌∙◌}
use Rattle.tree.specs.Tree.{left_size, right_size, hermit}
use Rattle.tree.specs.Lookups.{nodes_of}
use Rattle.tree.proofs.Places.{place_alone, place_even, place_hermit, place_messenger, place_plain}
use Rattle.lookups.proofs.place_in.Goals as goal

pub returns-then-right-eq0 : goal.returns-then-right-eq0
returns-then-right-eq0 c = sym (place_alone _ _ (omega arith))

pub returns-then-left-right : goal.returns-then-left-right
returns-then-left-right c = rw c.across_from-other.ensures (sym (place_even _ _ (omega arith) (omega arith)))

pub returns-then-node-last : goal.returns-then-node-last
returns-then-node-last c =
    let r = nodes_of c.args.r in
    let u : (0 < right_size r) × (right_size r < left_size r) = omega arith in
    sym (place_hermit _ _ u.0 u.1 (omega arith) ∙ ap hermit (omega arith))

pub returns-then-node-next : goal.returns-then-node-next
returns-then-node-next c =
    let r = nodes_of c.args.r in
    let u : (0 < right_size r) × (right_size r < left_size r) = omega arith in
    let m = c.middle-last.ensures.0 in
    rw (c.across_from-other.ensures, m) (sym (place_messenger _ _ u.0 u.1 (omega arith)))

pub returns : goal.returns
returns c =
    let r = nodes_of c.args.r in
    let u : (0 < right_size r) × (right_size r < left_size r) = omega arith in
    let m = sym c.middle-last.ensures.0 in
    let plain = place_plain _ _ u.0 u.1 (λ e. c.if-node-last.false (e ∙ m))
    (λ e. c.if-node-next.false (e ∙ ap (λ x. x + 1) m)) in
    rw c.across_from-other.ensures (sym plain)
