-- A call on a state's words is the call on that state, with this build's limits.
use mathlib.Core.Path.{◌≡◌}
use mathlib.Core.List.{List}
use Prim.Native.Nat.{ℕ}
use Rattle.base.specs.Limits.{Limits, base}
use Rattle.node.specs.Answers.{Given, Outcome, Barrier}
use Rattle.node.specs.declared.Node.{Node}
use Rattle.on_words.specs.OnWords.{answer_on, words_on, barrier_on, barrier_state, barrier_buffer}
use Rattle.state_calls.specs.On.{Kept, keep, on_state, step_on, step_bytes}

-- words and an answer, put together
kept_same : {A : Type 0} (xs ys : List ℕ) (a b : A) → xs ≡ ys → a ≡ b
    → ◌≡◌ {A = Kept A} (keep (record { words = xs }) a) (keep (record { words = ys }) b)
kept_same xs ys a b p q = λ i. keep (record { words = p i }) (q i)

module _ (L : Limits) (e : L ≡ base) (ws : List ℕ) where
  pub called : (call : Limits → Node → Given Outcome) (after : List ℕ) (o : Outcome)
      → (o ≡ answer_on L (call L) ws) × (after ≡ words_on L (call L) ws)
      → ◌≡◌ {A = Kept Outcome} (keep (record { words = after }) o) (on_state (call base) (record { words = ws }))
  unfolding on_state
  called call after o q = kept_same _ _ _ _ (rw e at q.1) (rw e at q.0)

  pub stepped : (after : List ℕ) (room : ℕ) (o : Barrier) → o ≡ barrier_on L ws room → after ≡ barrier_state L ws room
      → ◌≡◌ {A = Kept Barrier} (keep (record { words = after }) o) (step_on (record { words = ws }) room)
  unfolding step_on
  stepped after room o p q = kept_same _ _ _ _ (rw e at q) (rw e at p)

  pub stepped_bytes_lem : (buf then : List ℕ) → then ≡ barrier_buffer L ws buf → then ≡ step_bytes (record { words = ws }) buf
  unfolding step_bytes
  stepped_bytes_lem buf then q = rw e at q
