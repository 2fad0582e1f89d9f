-- Each turn puts the count of one section; together they are those of all.
use Rattle.std.proofs.Common.{◌≡◌, sym, arith, take}
use lib.Seq.{length-take-le}
use Rattle.base.specs.Choice.{list}
use Rattle.base.proofs.Laws.{length_list}
use Rattle.printing.proofs.Putting.{put_none, put_next, put_front}
use Rattle.recording.specs.Recording.{count_at}
use Rattle.recording_read.proofs.put_counts.Goals as goal

pub loop-i-init : goal.loop-i-init
loop-i-init c = sym (put_none _ 0)

pub loop-i-preserved : goal.loop-i-preserved
loop-i-preserved c =
    let l = take c.args.sections c.args.counts.now in
    rw (c.loop-i.invariant, c.number_at.ensures.0) (put_next l c.loop-i.i (count_at c.args.bytes.now))

pub returns : goal.returns
returns c =
    let n = c.args.sections in
    let f = count_at c.args.bytes.now in
    let e : c.loop-i.i ≡ n = omega (arith, length-take-le n c.args.counts.now c.requires.0) in
    rw (c.loop-i.invariant, e) (put_front c.args.counts.now (list 0 n f) n c.requires.0 (length_list 0 n f))
