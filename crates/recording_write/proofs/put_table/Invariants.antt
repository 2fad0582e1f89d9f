-- `put_table`: before a section is put, those before it are, and its body begins where theirs end.
use Rattle.recording_write.proofs.Turns.{Put}
use Rattle.recording_write.proofs.put_table.Given as goal

abbrev pub invariant-loop-n : goal.invariant-loop-n
invariant-loop-n l = Put l.fn.buf l.at l.counts l.buf l.next l.start l.n-index
