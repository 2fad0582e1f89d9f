-- `judge`: the largest excess, and shell k by itself.
use borrow.Author.Tests.{lt-ltb, le-ltb, le-leb, leb-true}
use mathlib.Core.Path.{◌≡◌, sym, ◌∙◌, subst}
use mathlib.Core.Bool.{false}
use native.Mathlib.Omega.{arith}
use Prim.Native.Nat.{ℕ, ◌+◌, ◌-◌}
use lib.Dec.{ltb, leb}
use lib.ListN.{length}
use Rattle.base.specs.Choice.{both}
use Rattle.base.specs.Limits.{limits_of, field_limit}
use Rattle.base.proofs.Laws.{both_true}
use Rattle.layout.specs.Places.{mark_words}
use Rattle.layout.specs.Held.{word, first_from, sum_of}
use Rattle.stored.specs.Held.{low_after}
use Rattle.look.specs.Pieces.{Weighed, TotalsAdded}
use Rattle.look.proofs.Judging.{all_at_most, ok_is, clause_is, total_is}
use Rattle.look.proofs.judge.Goals as goal
use Rattle.look.proofs.judge.Goals.{then-most-lt2, else-most-lt2, then-sent-limit, else-sent-limit}

pub returns : goal.returns
returns c =
    let a = c.args in
    let L = limits_of a.b in
    let ws = a.s.now in
    let sums = a.sums.now in
    let p = a.p in
    let k = a.k in
    let x = first_from ws p k 0 in
    let own = sum_of p sums in
    let most = c.larger-most.result in
    let t = c.add_totals-totals.result in
    let framed = c.requires.0 in
    let stored = c.requires.1 in
    let limit_is : c.field_limit-limit.result ≡ field_limit L = c.field_limit-limit.ensures in
    let totals = subst (λ n. TotalsAdded n own x t) limit_is c.add_totals-totals.ensures in
    let shells = subst (λ n. Weighed n p k own x c.weigh.result) limit_is c.weigh.ensures in
    let weighed : (n : ℕ) → leb most n ≡ all_at_most (field_limit L) p k own x n =
    λ n. c.larger-most.ensures n ∙ (λ i. both (totals.excess n i) (shells n i)) in
    let none : most ≡ 0 → t.excess ≡ 0 =
    λ e.
    let q = both_true (leb t.excess 0) (leb c.weigh.result 0) (sym (c.larger-most.ensures 0) ∙ le-leb most 0 (omega arith)) in
    let z = leb-true t.excess 0 q.0 in omega arith in
    let i : most ≡ 0 → t.issued.0 ≡ _ = λ e. totals.issued (none e) in
    let r : most ≡ 0 → t.received.0 ≡ _ = λ e. totals.received (none e) in
    let sent_low = leb (word ws mark_words) c.field_limit-limit.result in
    let taken_low = leb (word ws (mark_words + (p - k))) c.field_limit-limit.result in
    let judged : both (ltb most 2) (both sent_low taken_low) ≡ low_after (field_limit L) ws 0 (length ws) =
    (λ j. both (ltb most 2) (both (leb (word ws mark_words) (limit_is j)) (leb (word ws (mark_words + (p - k))) (limit_is j))))
    ∙ ok_is L ws sums p k framed stored most weighed in
    -- the tests in their order
    let tested : c.if-sent-limit.ok ≡ both (ltb most 2) (both sent_low taken_low) =
    elim c.if-sent-limit.branch [
      | then-sent-limit v ↦ rw (v.ok-is, lt-ltb most 2 v.if-sent-limit.true.0, le-leb _ _ v.if-sent-limit.true.1)
      | else-sent-limit v ↦ elim c.if-most-lt2.branch [
        | then-most-lt2 w ↦
            let o : c.if-sent-limit.ok ≡ false = cc in let e : sent_low ≡ false = cc in
            rw (o, lt-ltb most 2 w.if-most-lt2.true, e)
        | else-most-lt2 w ↦ let o : c.if-sent-limit.ok ≡ false = cc in rw (o, le-ltb most 2 w.if-most-lt2.false)
      ]
    ] in
    record {
      ok = tested ∙ judged;
      clause = c.clause_by.ensures ∙ clause_is L ws sums p k framed stored most weighed t.issued.0 t.received.0 i r;
      total = λ e. total_is L ws sums p k framed stored most weighed t.issued.0 t.received.0 i r (sym c.clause_by.ensures ∙ e);
    }
