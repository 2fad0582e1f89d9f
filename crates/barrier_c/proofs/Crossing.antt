-- Laws of the barrier call on words: this build's limits, and all that the call leaves in lent memory.
use mathlib.Core.Path.{◌≡◌, ◌∙◌}
use mathlib.Core.List.{List}
use Prim.Native.Nat.{ℕ}
use lib.ListN.{length}
use Rattle.std.specs.Prelude.{Result}
use Rattle.base.specs.Limits.{Limits, base}
use Rattle.base.specs.Refusal.{number}
use Rattle.base.specs.declared.Refusal.{Refusal}
use Rattle.node.specs.Answers.{barrier_number, barrier_of}
use Rattle.node.specs.declared.Step.{Step}
use Rattle.answers.specs.Words.{barrier_by, detail_words}
use Rattle.answers.proofs.Laws.{barrier_by_words}
use Rattle.barrier_c.specs.Exports.{barrier_on, barrier_state, barrier_buffer}

-- what the exported call is to answer and to leave: the number, the words, the bytes, the details
abbrev pub Crossed : List ℕ → List ℕ → List ℕ → ℕ → List ℕ → List ℕ → List ℕ → Type 0
Crossed ws buf ds x state bytes details =
    (x ≡ barrier_number (barrier_on base ws (length buf)))
    × ((state ≡ barrier_state base ws (length buf))
    × ((bytes ≡ barrier_buffer base ws buf) × (details ≡ detail_words ds (barrier_on base ws (length buf)))))

-- what the call below says
abbrev pub Stepped : Limits → List ℕ → List ℕ → Result Step Refusal → List ℕ → List ℕ → Type 0
Stepped L ws buf a state bytes =
    (barrier_of a ≡ barrier_on L ws (length buf))
    × ((state ≡ barrier_state L ws (length buf)) × (bytes ≡ barrier_buffer L ws buf))

pub crossed : (L : Limits) → L ≡ base
    → (ws buf ds : List ℕ) (a : Result Step Refusal) (x : ℕ) (state bytes details : List ℕ) → Stepped L ws buf a state bytes
    → (x ≡ barrier_number (barrier_by number a)) × (details ≡ detail_words ds (barrier_by number a))
    → Crossed ws buf ds x state bytes details
crossed L e ws buf ds a x state bytes details s g =
    let q : Stepped base ws buf a state bytes = rw e at s in
    rw (← (barrier_by_words a ∙ q.0)) (g.0, (q.1.0, (q.1.1, g.1)))
