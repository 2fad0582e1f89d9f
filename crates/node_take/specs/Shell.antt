-- The shell in which a message to or from another node is counted.
use Rattle.std.specs.Prelude.{ℕ}
use Rattle.base.specs.Refusal.{Answered, refused, found}

-- by the distance looked up; 0 where there is none
abbrev pub shell_of : Answered ℕ → ℕ
shell_of (refused x) = 0
shell_of (found m) = m
