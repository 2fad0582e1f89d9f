-- Each turn plays a line, as `Played.antt` says.
use Rattle.std.proofs.Common.{◌<◌, subst, sym, arith}
use Rattle.script.specs.declared.Parsed.{Parsed}
use Rattle.rehearsal.proofs.Played.{start, goes_on, finished, told_on}
use Rattle.rehearsal.proofs.play_script.Goals as goal

pub loop-at-init : goal.loop-at-init
loop-at-init c =
    start c.args.script.now c.args.items.now c.args.bytes.now c.args.out.now c.open_script-o.result
    c.open_script-o.ensures c.put_opening-printed.new.out c.put_opening-printed.result
    (c.put_opening-printed.ensures.memory, c.put_opening-printed.ensures.place)

pub overflow_add-count : goal.overflow_add-count
overflow_add-count c =
    let live = c.loop-at.invariant.1.live c.loop-at-test.true in omega (arith, live.0, live.1.0, c.loop-at-test.true)

pub loop-at-smaller : goal.loop-at-smaller
loop-at-smaller c =
    let on =
    subst (λ (p : Parsed). c.loop-at.at < p.next) (sym c.next_line-told.ensures)
    (told_on c.args.script.now c.loop-at.at c.loop-at.st.size c.loop-at-test.true) in
    omega (arith, on, c.loop-at-test.true)

pub loop-at-preserved : goal.loop-at-preserved
loop-at-preserved c =
    goes_on c.args.script.now c.args.items.now c.args.bytes.now c.args.out.now c.loop-at.at c.loop-at.count
    c.loop-at.st c.loop-at.items c.loop-at.bytes c.loop-at.out c.loop-at.printed c.loop-at.invariant
    c.loop-at-test.true c.next_line-told.result c.next_line-told.ensures c.step-r.result c.step-r.ensures.answer
    c.step-r.new.items c.step-r.auto.items c.step-r.ensures.headers c.step-r.new.bytes c.step-r.auto.bytes
    c.step-r.ensures.frames c.put_line-printed.new.out c.put_line-printed.result
    (c.put_line-printed.ensures.memory, c.put_line-printed.ensures.place)

pub returns-clause-headers : goal.returns-clause-headers
returns-clause-headers c =
    (finished c.args.script.now c.args.items.now c.args.bytes.now c.args.out.now _ _ _ _ _ _ _ c.loop-at.invariant
    c.loop-at-test.false).0

pub returns-clause-frames : goal.returns-clause-frames
returns-clause-frames c =
    (finished c.args.script.now c.args.items.now c.args.bytes.now c.args.out.now _ _ _ _ _ _ _ c.loop-at.invariant
    c.loop-at-test.false).1.0

pub returns-clause-printed : goal.returns-clause-printed
returns-clause-printed c =
    (finished c.args.script.now c.args.items.now c.args.bytes.now c.args.out.now _ _ _ _ _ _ _ c.loop-at.invariant
    c.loop-at-test.false).1.1.0

pub returns-clause-count : goal.returns-clause-count
returns-clause-count c =
    (finished c.args.script.now c.args.items.now c.args.bytes.now c.args.out.now _ _ _ _ _ _ _ c.loop-at.invariant
    c.loop-at-test.false).1.1.1
