-- The barrier call on words: its answer, the words and the lent bytes after it; 13 where the words hold no state.
use Rattle.std.specs.Prelude.{List, ℕ}
use Rattle.base.specs.Choice.{choose}
use Rattle.base.specs.Limits.{Limits}
use Rattle.base.specs.Refusal.{number}
use Rattle.base.specs.declared.Refusal.{Refusal}
use Rattle.node.specs.Answers.{Barrier, barred}
use Rattle.node.specs.Barrier.{barrier, barrier_bytes}
use Rattle.layout.specs.Held.{unpacked, is_ready, holding}

abbrev pub barrier_on : Limits → ℕ → List ℕ → ℕ → Barrier
barrier_on L room ws bytes =
    choose (is_ready L room ws) (barrier L (unpacked ws) bytes).answer (barred (number Refusal.State))

abbrev pub barrier_words : Limits → ℕ → List ℕ → ℕ → List ℕ
barrier_words L room ws bytes = choose (is_ready L room ws) (holding ws (barrier L (unpacked ws) bytes).node) ws

abbrev pub barrier_lent : Limits → ℕ → List ℕ → List ℕ → List ℕ
barrier_lent L room ws buf = choose (is_ready L room ws) (barrier_bytes L (unpacked ws) buf) buf
