-- `checked` answers as the reader does: each test is the definition's, in its order.
use Rattle.std.proofs.Common.{rules, arith, ◌≡◌, ℕ, ◌+◌, ◌*◌, ◌≤◌, Bool, false, List, leb, get_or, Err}
use mathlib.Core.Path.{sym, ap, ◌∙◌}
use Rattle.base.specs.Choice.{every}
use Rattle.base.specs.Limits.{Limits, Fits, field_limit, limits_of, width}
use Rattle.base.specs.Refusal.{answered, refused, found}
use Rattle.base.proofs.Limits.{fits_of}
use Rattle.tree.specs.Tree.{dimension}
use Rattle.tree.specs.Lookups.{bad_board, dimension_lookup}
use Rattle.tree.proofs.Lookups.{dimension_refused, dimension_found}
use Rattle.frame.specs.Frame.{bad_step, frame_length, number_at, numbers_ok, fields_of, answer_of}
use Rattle.frame.proofs.RoundTripChecks.{step_known}
use Rattle.frame.proofs.Answers.{read_board, read_short, read_step, read_length, read_numbers, read_stranger}
use Rattle.frame.proofs.Answers.{read_found}
use Rattle.wire_read.proofs.Within.{few, within}
use Rattle.wire_read.proofs.checked.Goals as goal

-- what the tests passed so far say of the bytes
module _ (L : Limits) (P p : ℕ) (bs : List ℕ) (d : found p ≡ dimension_lookup L P) where
  good : bad_board L P ≡ false
  good = (dimension_found L P p (sym d)).0

  dims : p ≡ dimension P
  dims = (dimension_found L P p (sym d)).1

  narrow : Fits L → p ≤ width
  narrow fit = few L fit P p good dims

  module _ (pass k : ℕ) (one : pass ≡ get_or bs 0 0) (two : k ≡ get_or bs 2 0) where
    stepped : (t : Bool) → t ≡ bad_step p pass k → bad_step p (get_or bs 0 0) (get_or bs 2 0) ≡ t
    stepped t e = sym (e ∙ (λ i. bad_step p (one i) (two i)))

    stated : (n : ℕ) → 4 + 4 * n ≡ frame_length p pass k → 4 + 4 * n ≡ frame_length p (get_or bs 0 0) (get_or bs 2 0)
    stated n e = e ∙ (λ i. frame_length p (one i) (two i))

    counted : Fits L → false ≡ bad_step p pass k → (n : ℕ) → 4 + 4 * n ≡ frame_length p pass k → (limit : ℕ)
        → limit ≡ field_limit L
        → (t : Bool) → t ≡ every 0 n (λ i. leb (number_at bs i) limit) → numbers_ok L p (fields_of p bs) ≡ t
    counted fit s n e limit l t q =
        within L p bs n (narrow fit) (stepped false s) (stated n e)
        ∙ sym (q ∙ ap (λ x. every 0 n (λ i. leb (number_at bs i) x)) l)

pub returns-in_err-p : goal.returns-in_err-p
returns-in_err-p c =
    let passed : c.from_residual.result ≡ Err c.in_err-p.field-0.0 = search rules in
    let x = c.args in
    let b = dimension_refused _ _ _ (sym c.in_err-p.ensures) in
    ap answered passed ∙ ap refused b.1 ∙ ap answer_of (sym (read_board (limits_of x.b) x.nodes x.bytes.now b.0))

pub returns-then-bytes-lt4 : goal.returns-then-bytes-lt4
returns-then-bytes-lt4 c =
    let x = c.args in
    let L = limits_of x.b in
    let d = c.in_ok-p.ensures in
    let p = c.in_ok-p.p in
    let bs = x.bytes.now in
    ap answer_of (sym (read_short L x.nodes bs p (good L _ p bs d) (dims L _ p bs d) c.if-bytes-lt4.true))

pub returns-then-step_bad : goal.returns-then-step_bad
returns-then-step_bad c =
    let x = c.args in
    let L = limits_of x.b in
    let d = c.in_ok-p.ensures in
    let p = c.in_ok-p.p in
    let bs = x.bytes.now in
    let s = stepped L _ p bs d _ _ c.wide-pass.ensures.0 c.wide-k.ensures.0 _ c.if-step_bad.ensures in
    ap answer_of (sym (read_step L x.nodes bs p (good L _ p bs d) (dims L _ p bs d) c.if-bytes-lt4.false s))

pub count_of-count-requires : goal.count_of-count-requires
count_of-count-requires c =
    let x = c.args in
    let p = c.in_ok-p.p in
    let s = step_known p c.wide-pass.result c.wide-k.result (sym c.if-step_bad.ensures) in
    (omega (arith, s.1), narrow (limits_of x.b) _ p x.bytes.now c.in_ok-p.ensures (fits_of x.b (search rules)))

pub returns-then-bytes-count : goal.returns-then-bytes-count
returns-then-bytes-count c =
    let x = c.args in
    let L = limits_of x.b in
    let d = c.in_ok-p.ensures in
    let p = c.in_ok-p.p in
    let bs = x.bytes.now in
    let s = stepped L _ p bs d _ _ c.wide-pass.ensures.0 c.wide-k.ensures.0 _ c.if-step_bad.ensures in
    let l = stated L _ p bs d _ _ c.wide-pass.ensures.0 c.wide-k.ensures.0 _ c.count_of-count.ensures.0 in
    ap answer_of
    (sym
    (read_length L x.nodes bs p (good L _ p bs d) (dims L _ p bs d) c.if-bytes-lt4.false s
    (λ e. c.if-bytes-count.true (e ∙ sym l))))

pub returns-then-not-numbers_within : goal.returns-then-not-numbers_within
returns-then-not-numbers_within c =
    let x = c.args in
    let L = limits_of x.b in
    let d = c.in_ok-p.ensures in
    let p = c.in_ok-p.p in
    let bs = x.bytes.now in
    let one = c.wide-pass.ensures.0 in
    let two = c.wide-k.ensures.0 in
    let n = c.count_of-count.ensures.0 in
    let s = stepped L _ p bs d _ _ one two _ c.if-step_bad.ensures in
    let l = stated L _ p bs d _ _ one two _ n in
    let fit = fits_of x.b (search rules) in
    let q = counted L _ p bs d _ _ one two fit c.if-step_bad.ensures _ n _ c.field_limit.ensures _ c.if-not-numbers_within.ensures in
    ap answer_of
    (sym
    (read_numbers L x.nodes bs p (good L _ p bs d) (dims L _ p bs d) c.if-bytes-lt4.false s (c.if-bytes-count.false ∙ l) q))

pub returns-then-nodes-wide : goal.returns-then-nodes-wide
returns-then-nodes-wide c =
    let x = c.args in
    let L = limits_of x.b in
    let d = c.in_ok-p.ensures in
    let p = c.in_ok-p.p in
    let bs = x.bytes.now in
    let one = c.wide-pass.ensures.0 in
    let two = c.wide-k.ensures.0 in
    let n = c.count_of-count.ensures.0 in
    let s = stepped L _ p bs d _ _ one two _ c.if-step_bad.ensures in
    let l = stated L _ p bs d _ _ one two _ n in
    let fit = fits_of x.b (search rules) in
    let q = counted L _ p bs d _ _ one two fit c.if-step_bad.ensures _ n _ c.field_limit.ensures _ c.if-not-numbers_within.ensures in
    ap answer_of
    (sym
    (read_stranger L x.nodes bs p (good L _ p bs d) (dims L _ p bs d) c.if-bytes-lt4.false s (c.if-bytes-count.false ∙ l) q
    (rw c.wide.ensures.0 at c.if-nodes-wide.true)))

pub returns : goal.returns
returns c =
    let x = c.args in
    let L = limits_of x.b in
    let d = c.in_ok-p.ensures in
    let p = c.in_ok-p.p in
    let bs = x.bytes.now in
    let one = c.wide-pass.ensures.0 in
    let two = c.wide-k.ensures.0 in
    let n = c.count_of-count.ensures.0 in
    let s = stepped L _ p bs d _ _ one two _ c.if-step_bad.ensures in
    let l = stated L _ p bs d _ _ one two _ n in
    let fit = fits_of x.b (search rules) in
    let q = counted L _ p bs d _ _ one two fit c.if-step_bad.ensures _ n _ c.field_limit.ensures _ c.if-not-numbers_within.ensures in
    ap answer_of
    (sym
    (read_found L x.nodes bs p (good L _ p bs d) (dims L _ p bs d) c.if-bytes-lt4.false s (c.if-bytes-count.false ∙ l) q
    (rw c.wide.ensures.0 at c.if-nodes-wide.false)))
