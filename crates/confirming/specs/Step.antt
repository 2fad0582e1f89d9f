-- What the walk has after a step of pass 2.
use Rattle.std.specs.Prelude.{Bool, true, false, ℕ, suc, ◌+◌, ltb, eqb}
use Rattle.base.specs.Choice.{choose, both}
use Rattle.base.specs.Limits.{Limits, field_limit}
use Rattle.frame.specs.Frame.{sent_number}
use Rattle.node.specs.Agree.{first_failing, no_clause}
use Rattle.pass_two.specs.Tried.{second_tests}
use Rattle.pass_two.specs.declared.Confirmed.{Confirmed}
use Rattle.scan_tests.specs.Tests.{may_confirm}
use Rattle.scanned.specs.declared.Walked.{Walked}
use Rattle.scanned.specs.declared.Past.{Past}

abbrev pub tested : Walked → Bool → Walked
tested w ok = record { ok = ok; issued = w.issued; clause = w.clause; received = w.received }

-- before the position: by the first clause that fails, `no_clause` where none does; the frame's total sent is added
abbrev pub added : Walked → ℕ → ℕ → Walked
added w more c =
    choose (eqb c no_clause)
    (record { ok = true; issued = sent_number (w.issued.0 + more); clause = w.clause; received = w.received })
    (tested w false)

-- elsewhere the frame's words may be stored, and where the step is looked at its first clause that fails is kept; there are p
-- dimensions, and k is one
unfoldable pub confirm_step : Limits → Confirmed → ℕ → ℕ → Bool → Past → Walked → ℕ → Walked
confirm_step L x p k awaits past w agreed =
    let c = first_failing (second_tests L (eqb (suc k) p) w.issued.0 agreed x) in
    choose (both awaits (ltb k past.seconds)) (added w x.issued.0 c)
    (record {
      ok = may_confirm x.mark x.agreed x.issued.0 awaits (field_limit L);
      issued = w.issued;
      clause = choose (both awaits (eqb k past.confirm)) c w.clause;
      received = w.received;
    })
