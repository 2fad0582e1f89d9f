-- Each turn plays an event, as `Played.antt` says.
use Rattle.std.proofs.Common.{arith}
use Rattle.replays.proofs.Played.{start, again, few, limit_most, finish}
use Rattle.replays.proofs.play_again.Goals as goal

pub loop-i-init : goal.loop-i-init
loop-i-init c =
    start c.args.recording.now c.args.items.now c.args.bytes.now c.start_of-o.result c.start_of-o.ensures

pub overflow_add-i : goal.overflow_add-i
overflow_add-i c =
    omega (
      arith,
      few c.args.recording.now c.args.items.now c.args.bytes.now c.loop-i.i c.loop-i.most c.loop-i.st
          c.loop-i.items c.loop-i.bytes c.loop-i.invariant c.loop-i-test.true,
    )

pub loop-i-smaller : goal.loop-i-smaller
loop-i-smaller c =
    let most =
    limit_most c.args.recording.now c.args.items.now c.args.bytes.now c.loop-i.i c.step-r.result.answer c.loop-i.most
    (omega (arith, c.loop-i-test.true)) in
    omega (arith, most, c.limit_of-most.ensures, c.loop-i-test.true)

pub loop-i-preserved : goal.loop-i-preserved
loop-i-preserved c =
    again c.args.recording.now c.args.items.now c.args.bytes.now c.loop-i.i c.loop-i.most c.loop-i.st c.loop-i.items
    c.loop-i.bytes c.loop-i.invariant c.loop-i-test.true c.line_of-line.result c.line_of-line.ensures
    c.step-r.result c.step-r.ensures.answer c.step-r.new.items c.step-r.auto.items c.step-r.ensures.headers
    c.step-r.new.bytes c.step-r.auto.bytes c.step-r.ensures.frames c.limit_of-most.result c.limit_of-most.ensures

pub returns-clause-answer : goal.returns-clause-answer
returns-clause-answer c =
    (finish c.args.recording.now c.args.items.now c.args.bytes.now c.loop-i.i c.loop-i.most c.loop-i.st c.loop-i.items
    c.loop-i.bytes c.loop-i.invariant c.loop-i-test.false c.start_of-o.result c.start_of-o.ensures c.end_of.result
    c.end_of.ensures).0

pub returns-clause-headers : goal.returns-clause-headers
returns-clause-headers c =
    (finish c.args.recording.now c.args.items.now c.args.bytes.now c.loop-i.i c.loop-i.most c.loop-i.st c.loop-i.items
    c.loop-i.bytes c.loop-i.invariant c.loop-i-test.false c.start_of-o.result c.start_of-o.ensures c.end_of.result
    c.end_of.ensures).1.0

pub returns-clause-frames : goal.returns-clause-frames
returns-clause-frames c =
    (finish c.args.recording.now c.args.items.now c.args.bytes.now c.loop-i.i c.loop-i.most c.loop-i.st c.loop-i.items
    c.loop-i.bytes c.loop-i.invariant c.loop-i-test.false c.start_of-o.result c.start_of-o.ensures c.end_of.result
    c.end_of.ensures).1.1
