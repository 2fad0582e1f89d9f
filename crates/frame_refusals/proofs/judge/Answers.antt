-- `judge` is `judged`.
use borrow.Author.Rules.{rules}
use native.Mathlib.Omega.{arith}
use mathlib.Core.Path.{◌≡◌, sym, ap, ◌∙◌}
use mathlib.Core.List.{List}
use Prim.Native.Nat.{ℕ}
use Rattle.std.specs.Prelude.{⊤}
use Rattle.std.proofs.Common.{Err}
use Rattle.base.specs.Limits.{Limits, limits_of}
use Rattle.base.specs.Refusal.{Answered, found}
use Rattle.node.specs.Answers.{outcome_of}
use Rattle.frame_refusals.proofs.Judging.{head_there, judged_unread, judged_own, judged_unawaited, judged_timed}
use Rattle.frame_refusals.proofs.judge.Goals as goal
use Rattle.frame_refusals.proofs.judge.Goals.{Start}

-- what is handed
module _ (s : Start) where
  abbrev L : Limits
  L = limits_of s.args.b

  abbrev bs : List ℕ
  bs = s.args.bytes.now

taken : {r : Answered ⊤} {u : ⊤} → found u ≡ r → r ≡ found tt
taken {r} {u} e = sym e

pub returns-in_err-checked : goal.returns-in_err-checked
returns-in_err-checked c =
    let told : c.from_residual.result ≡ Err c.in_err-checked.field-0.0 = search rules in
    ap outcome_of told ∙ judged_unread _ _ _ _ _ _ (sym c.in_err-checked.ensures)

pub bounds-bytes-3 : goal.bounds-bytes-3
bounds-bytes-3 c =
    let s = (goal.at.bounds-bytes-3 c).Start in
    omega (arith, head_there (L s) s.args.nodes (bs s) (taken c.in_ok-checked.ensures))

pub returns-then-sender-number : goal.returns-then-sender-number
returns-then-sender-number c = judged_own _ _ _ _ _ (taken c.in_ok-checked.ensures) c.if-sender-number.true

pub bounds-bytes-2 : goal.bounds-bytes-2
bounds-bytes-2 c =
    let s = (goal.at.bounds-bytes-2 c).Start in
    omega (arith, head_there (L s) s.args.nodes (bs s) (taken c.in_ok-checked.ensures))

pub returns-then-not-is_awaited : goal.returns-then-not-is_awaited
returns-then-not-is_awaited c =
    judged_unawaited _ _ _ _ _ (taken c.in_ok-checked.ensures) c.if-sender-number.false
    (sym c.is_awaited.ensures ∙ c.if-not-is_awaited.true)

pub bounds-bytes-1 : goal.bounds-bytes-1
bounds-bytes-1 c =
    let s = (goal.at.bounds-bytes-1 c).Start in
    omega (arith, head_there (L s) s.args.nodes (bs s) (taken c.in_ok-checked.ensures))

pub returns-in-Now : goal.returns-in-Now
returns-in-Now c =
    judged_timed _ _ _ _ _ (taken c.in_ok-checked.ensures) c.if-sender-number.false
    (sym c.is_awaited.ensures ∙ c.if-not-is_awaited.false) _ (sym c.timing_of.ensures ∙ c.in-Now.is)

pub returns-in-Early : goal.returns-in-Early
returns-in-Early c =
    judged_timed _ _ _ _ _ (taken c.in_ok-checked.ensures) c.if-sender-number.false
    (sym c.is_awaited.ensures ∙ c.if-not-is_awaited.false) _ (sym c.timing_of.ensures ∙ c.in-Early.is)

pub returns-in-Late : goal.returns-in-Late
returns-in-Late c =
    judged_timed _ _ _ _ _ (taken c.in_ok-checked.ensures) c.if-sender-number.false
    (sym c.is_awaited.ensures ∙ c.if-not-is_awaited.false) _ (sym c.timing_of.ensures ∙ c.in-Late.is)

pub returns-in-Foreign : goal.returns-in-Foreign
returns-in-Foreign c =
    judged_timed _ _ _ _ _ (taken c.in_ok-checked.ensures) c.if-sender-number.false
    (sym c.is_awaited.ensures ∙ c.if-not-is_awaited.false) _ (sym c.timing_of.ensures ∙ c.in-Foreign.is)
