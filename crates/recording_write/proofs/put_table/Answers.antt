-- The number for where a section's body begins has room, and after each turn one section more is put.
use native.Mathlib.Omega.{arith}
use Rattle.recording_write.proofs.Turns.{none_put, next_body, one_more}
use Rattle.recording_write.proofs.put_table.Goals as goal

pub loop-n-init : goal.loop-n-init
loop-n-init c = none_put _ _ _ c.requires.0

pub overflow_mul-start-in-loop-n : goal.overflow_mul-start-in-loop-n
overflow_mul-start-in-loop-n c =
    omega (arith, next_body _ _ _ _ _ _ _ c.loop-n.invariant c.loop-n-test.true c.requires.2)

pub overflow_add-start-in-loop-n : goal.overflow_add-start-in-loop-n
overflow_add-start-in-loop-n c =
    omega (arith, next_body _ _ _ _ _ _ _ c.loop-n.invariant c.loop-n-test.true c.requires.2)

pub loop-n-preserved : goal.loop-n-preserved
loop-n-preserved c =
    let first = c.put_number-next.ensures in
    let second = c.put_number-next-in-loop-n.ensures in
    one_more _ _ _ _ _ _ _ c.loop-n.invariant _ _ _ _ c.loop-n-test.true (first.memory, first.place)
    (second.memory, second.place)
