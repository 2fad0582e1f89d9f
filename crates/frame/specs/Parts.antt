-- Definitions that laws and the contracts of private functions cite: a buffer that is being written, and the tests of a
-- frame's tallies.
use Rattle.std.specs.Prelude.{ℕ, ◌+◌, Bool, List, ◌++◌, length, take, drop, ◌==◌}
use Rattle.base.specs.Choice.{both}
use Rattle.base.specs.Limits.{Limits}
use Rattle.frame.specs.Frame.{sent_at, taken_at, has_shell, number_ok}
use Rattle.frame.specs.declared.Frame.{Frame}

-- l with bs from `at` on
unfoldable pub pasted : List ℕ → ℕ → List ℕ → List ℕ
pasted l at bs = take at l ++ bs ++ drop (at + length bs) l

-- a frame of this pass and dimension has tallies of shell m
abbrev pub has_tallies : ℕ → ℕ → ℕ → ℕ → Bool
has_tallies p pass k m = both (pass == 1) (has_shell p k m)

-- the tallies of shell m are those that the frame may have
unfoldable pub shell_ok : Limits → ℕ → Frame → ℕ → Bool
shell_ok L p f m =
    let has = has_tallies p f.pass f.dim m in
    both (number_ok L has (sent_at f.sent m)) (number_ok L has (taken_at f.taken m))
