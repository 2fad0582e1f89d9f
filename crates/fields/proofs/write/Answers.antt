-- `write` answers `write_on` and leaves `written_on`: what is asked is tested, then the frame of the pass that the words name
-- is put.
use Rattle.std.proofs.Common.{rules, arith, ◌≡◌, Err}
use mathlib.Core.Path.{sym, ap, ◌∙◌}
use Rattle.base.specs.Limits.{limits_of}
use Rattle.base.specs.Refusal.{answered}
use Rattle.base.proofs.Limits.{fits_of}
use Rattle.fields.proofs.Bytes.{wrote_refused, tested_low, wrote_first, wrote_second}
use Rattle.fields.proofs.write.Goals as goal

pub returns-in_err-p : goal.returns-in_err-p
returns-in_err-p c =
    let x = c.args in
    let e : c.from_residual.result ≡ Err c.in_err-p.field-0.0 = search rules in
    let w = wrote_refused (limits_of x.b) x.nodes x.fields.now x.buf.now _ (sym c.in_err-p.ensures) in
    record { answer = ap answered e ∙ w.0; buffer = w.1 }

pub put_first-requires : goal.put_first-requires
put_first-requires c =
    let x = c.args in
    let fit = fits_of x.b (search rules) in
    let l = tested_low (limits_of x.b) x.nodes x.fields.now x.buf.now _ (sym c.in_ok-p.ensures) fit in
    (search rules, omega (arith, l.0), l.1, l.2, l.3)

pub returns-then-fields-eq1 : goal.returns-then-fields-eq1
returns-then-fields-eq1 c =
    let x = c.args in
    let fit = fits_of x.b (search rules) in
    let put = c.put_first.ensures in
    let w =
    wrote_first (limits_of x.b) x.nodes x.fields.now x.buf.now _ (sym c.in_ok-p.ensures) (search rules) fit _ _
    c.if-fields-eq1.true (put.answer, put.memory) in
    record { answer = w.0; buffer = w.1 }

pub put_second-requires : goal.put_second-requires
put_second-requires c =
    let x = c.args in
    let fit = fits_of x.b (search rules) in
    let l = tested_low (limits_of x.b) x.nodes x.fields.now x.buf.now _ (sym c.in_ok-p.ensures) fit in
    (search rules, omega (arith, l.0, l.1), l.2, l.3)

pub returns : goal.returns
returns c =
    let x = c.args in
    let fit = fits_of x.b (search rules) in
    let put = c.put_second.ensures in
    let w =
    wrote_second (limits_of x.b) x.nodes x.fields.now x.buf.now _ (sym c.in_ok-p.ensures) (search rules) fit _ _
    c.if-fields-eq1.false (put.answer, put.memory) in
    record { answer = w.0; buffer = w.1 }
