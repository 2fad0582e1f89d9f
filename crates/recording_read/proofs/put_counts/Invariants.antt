-- `put_counts`: before the count of section i is put, those before it are.
use Rattle.std.proofs.Common.{◌≡◌}
use Rattle.base.specs.Choice.{list}
use Rattle.printing.specs.Put.{put}
use Rattle.recording.specs.Recording.{count_at}
use Rattle.recording_read.proofs.put_counts.Given as goal

abbrev pub invariant-loop-i : goal.invariant-loop-i
invariant-loop-i l = l.count-items ≡ put l.initial.count-items 0 (list 0 l.i (count_at l.bytes))
