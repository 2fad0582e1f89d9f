-- Definitions that only the contracts of private functions cite: the words of a state after a message is taken.
use Rattle.std.specs.Prelude.{List, ℕ, ◌+◌, set}
use Rattle.base.specs.declared.Kind.{Kind}
use Rattle.base.specs.declared.Kind.TheVariants.{Job, Note}
use Rattle.layout.specs.Places.{at_busy, at_pass, at_dim, at_flag, at_agreed}
use Rattle.layout.specs.Held.{word}

-- one more in the tally at a place; at (1, 0, 1), T 0
abbrev pub counted_words : List ℕ → ℕ → List ℕ
counted_words ws at = set (set (set (set (set ws at (word ws at + 1)) at_pass 1) at_dim 0) at_flag 1) at_agreed 0

-- a job makes the node busy
abbrev pub woken_words : Kind → List ℕ → List ℕ
woken_words Job ws = set ws at_busy 1
woken_words Note ws = ws
