-- `put_bytes`: before byte i is put, those before it are.
use Rattle.std.proofs.Common.{◌≡◌, take}
use Rattle.printing.proofs.put_bytes.Given as goal

abbrev pub invariant-loop-i : goal.invariant-loop-i
invariant-loop-i l = take l.i l.place-items ≡ take l.i l.s
