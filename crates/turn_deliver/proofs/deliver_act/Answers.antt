-- `deliver_act` does what a line of a delivery does.
use native.Mathlib.Omega.{arith}
use mathlib.Core.Path.{◌≡◌, refl, sym, ap, ◌∙◌}
use Prim.Native.Nat.{◌/◌, ◌≤◌}
use lib.ListN.{length}
use borrow.Author.Tests.{lt-ltb, le-leb, eqb-true, eqb-false}
use Rattle.base.proofs.Laws.{choose_yes, both_make}
use Rattle.node.specs.Answers.{outcome_number}
use Rattle.state_calls.specs.On.{replied}
use Rattle.under_way.specs.Frames.{place_size}
use Rattle.answers.proofs.Laws.{outcome_by_words}
use Rattle.stage.specs.Board.{quiet}
use Rattle.turn_deliver.proofs.Known.{one_off, deliver_none, deliver_early, deliver_off, there_known}
use Rattle.turn_deliver.proofs.deliver_act.Goals as goal

pub returns-then-not-is_there : goal.returns-then-not-is_there
returns-then-not-is_there c =
    let x = c.args in
    let e = sym (c.is_there.ensures x.bytes.now refl) ∙ c.if-not-is_there.true in
    let d = deliver_none x.st x.headers x.bytes.now x.at x.it x.a x.b e in
    record { answer = c.refused.ensures ∙ sym d.0; memory = sym d.1 }

pub returns-then-is_early : goal.returns-then-is_early
returns-then-is_early c =
    let x = c.args in
    let there = sym (c.is_there.ensures x.bytes.now refl) ∙ c.if-not-is_there.false in
    let d =
    deliver_early x.st x.headers x.bytes.now x.at x.it x.a x.b (replied c.item_call-r.result) there
    (sym c.item_call-r.ensures) (eqb-true _ _ (sym c.is_early.ensures ∙ c.if-is_early.true)) in
    record { answer = c.refused-then-is_early.ensures ∙ sym d.0; memory = sym d.1 }

pub returns : goal.returns
returns c =
    let x = c.args in
    let there = sym (c.is_there.ensures x.bytes.now refl) ∙ c.if-not-is_there.false in
    let k = there_known x.st x.headers x.bytes.now x.at x.it there in
    let l : x.st.under ≤ length x.bytes.now / place_size = omega arith in
    let said = c.number_of.ensures ∙ ap outcome_number (outcome_by_words c.item_call-r.result.answer) in
    let d =
    deliver_off x.st x.headers x.bytes.now x.at x.it x.a x.b (replied c.item_call-r.result) there
    (sym c.item_call-r.ensures) (eqb-false _ _ (sym c.is_early.ensures ∙ c.if-is_early.false)) in
    record {
      answer =
          one_off x.st x.headers x.bytes.now _ x.b _ x.at _
          (c.quiet-acted.ensures
          ∙ (λ i. quiet x.st x.headers (c.with_state-after.ensures i) x.b (said i)))
          ∙ sym d.0;
      memory =
          c.close_gap.ensures
          ∙ choose_yes _ _ (both_make (lt-ltb _ _ k.0) (le-leb _ _ l))
          ∙ sym d.1;
    }
