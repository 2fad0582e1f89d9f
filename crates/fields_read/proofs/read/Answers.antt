-- `read` answers as the reader does, and puts the words of the fields that it finds.
use Rattle.std.proofs.Common.{rules, arith, ◌≡◌, Err}
use mathlib.Core.Path.{sym, ap, ◌∙◌}
use Rattle.base.specs.Limits.{limits_of}
use Rattle.base.specs.Refusal.{answered}
use Rattle.base.proofs.Limits.{fits_of}
use Rattle.frame.specs.Frame.{read_frame}
use Rattle.fields_read.proofs.Reading.{not_read, is_read, frame_long, dims_low}
use Rattle.fields_read.proofs.read.Goals as goal

pub returns-in_err-checked : goal.returns-in_err-checked
returns-in_err-checked c =
    let x = c.args in
    let e : c.from_residual.result ≡ Err c.in_err-checked.field-0.0 = search rules in
    let w = not_read (read_frame (limits_of x.b) x.nodes x.bytes.now) _ _ (sym c.in_err-checked.ensures) in
    record { answer = ap answered e ∙ w.0; memory = w.1 }

pub get_head-requires : goal.get_head-requires
get_head-requires c =
    let x = c.args in
    omega (arith, frame_long (limits_of x.b) x.nodes x.bytes.now (sym c.in_ok-checked.ensures))

pub get_numbers-requires : goal.get_numbers-requires
get_numbers-requires c =
    let x = c.args in
    let good = sym c.in_ok-checked.ensures in (
      c.get_head.ensures,
      frame_long (limits_of x.b) x.nodes x.bytes.now good,
      dims_low (limits_of x.b) x.nodes x.bytes.now good (fits_of x.b (search rules)),
    )

pub returns : goal.returns
returns c =
    let x = c.args in
    let w = is_read (limits_of x.b) x.nodes x.bytes.now (sym c.in_ok-checked.ensures) _ _ c.get_numbers.ensures in
    record { answer = w.0; memory = w.1 }
