-- Each turn puts the count of one section; together they are those of all.
use Rattle.std.proofs.Common.{◌≡◌, ◌≤◌, ◌∙◌, sym, ap, arith, length, take}
use lib.Seq.{length-take-le}
use Rattle.base.specs.Choice.{list}
use Rattle.base.proofs.Laws.{length_list}
use Rattle.printing.specs.Put.{put}
use Rattle.printing.proofs.Putting.{put_none, put_next, put_front}
use Rattle.recorder.specs.Recorded.{size_of, counts_for}
use Rattle.recorder.proofs.put_counts.Goals as goal

pub loop-i-init : goal.loop-i-init
loop-i-init c = sym (put_none _ 0)

pub loop-i-preserved : goal.loop-i-preserved
loop-i-preserved c =
    let l = take c.sections_for-n.result c.args.counts.now in
    rw (c.loop-i.invariant, c.size_of.ensures) (put_next l c.loop-i.i (size_of c.args.events))

pub returns-clause-memory : goal.returns-clause-memory
unfolding counts_for
returns-clause-memory c =
    let n = c.sections_for-n.result in
    let f = size_of c.args.events in
    let room : n ≤ length c.args.counts.now = omega (arith, c.requires, c.sections_for-n.ensures) in
    let e : c.loop-i.i ≡ n = omega (arith, length-take-le n c.args.counts.now room) in
    rw (c.loop-i.invariant, e)
    (put_front c.args.counts.now (list 0 n f) n room (length_list 0 n f)
    ∙ ap (λ k. put c.args.counts.now 0 (list 0 k f)) c.sections_for-n.ensures)
