-- The words that the calls have for the sums are enough for every board: what a call below says of a state that it has room
-- for, it says of every state.
use mathlib.Core.Path.{◌≡◌, refl, ap, ◌∙◌}
use mathlib.Core.Bool.{Bool, true, false}
use mathlib.Core.List.{List}
use Prim.Native.Nat.{ℕ}
use native.Mathlib.Omega.{arith}
use lib.Dec.{leb}
use lib.ListN.{length}
use borrow.Author.Tests.{le-leb}
use Rattle.std.proofs.Common.{Result}
use Rattle.base.specs.Choice.{choose, both}
use Rattle.base.specs.Limits.{Limits, Fits}
use Rattle.base.specs.declared.Refusal.{Refusal}
use Rattle.node.specs.Answers.{Given, Outcome, barrier_of}
use Rattle.node.specs.declared.Step.{Step}
use Rattle.node.specs.declared.Node.{Node}
use Rattle.layout.specs.Places.{sum_words, most_sums}
use Rattle.layout.specs.Held as held
use Rattle.layout.specs.Held.{dims_of, is_whole, is_ready}
use Rattle.layout.proofs.Whole.{whole, few}
use Rattle.node_barrier.specs.On as below
use Rattle.on_words.specs.OnWords.{answer_on, words_on, barrier_on, barrier_state, barrier_buffer}

module _ (L : Limits) (fit : Fits L) (ws : List ℕ) where
  enough : is_ready L most_sums ws ≡ is_whole L ws
  enough = go (is_whole L ws) refl
    where
      go : (t : Bool) → is_whole L ws ≡ t → both t (leb (sum_words (dims_of ws)) most_sums) ≡ t
      go true e =
          let l = few L fit ws (whole L ws e).board in
          le-leb (sum_words (dims_of ws)) most_sums (omega arith)
      go false e = refl

  always : {A : Type 0} {x : A} (a b : A) → x ≡ choose (is_ready L most_sums ws) a b → x ≡ choose (is_whole L ws) a b
  always a b e = e ∙ ap (λ t. choose t a b) enough

  pub called : (call : Node → Given Outcome) (after : List ℕ) (o : Outcome)
      → record { answer : o ≡ held.answer_on L most_sums call ws; memory : after ≡ held.words_on L most_sums call ws }
      → record { answer : o ≡ answer_on L call ws; memory : after ≡ words_on L call ws }
  called call after o q = record { answer = always _ _ q.answer; memory = always _ _ q.memory }

  module _ (buf : List ℕ) where
    -- the answer, the words and the bytes
    pub stepped : (a : Result Step Refusal) (words after : List ℕ)
        → record {
          answer : barrier_of a ≡ below.barrier_on L most_sums ws (length buf);
          memory : words ≡ below.barrier_words L most_sums ws (length buf);
          buffer : after ≡ below.barrier_lent L most_sums ws buf;
        }
        → record {
          answer : barrier_of a ≡ barrier_on L ws (length buf);
          memory : words ≡ barrier_state L ws (length buf);
          buffer : after ≡ barrier_buffer L ws buf;
        }
    stepped a words after q =
        record { answer = always _ _ q.answer; memory = always _ _ q.memory; buffer = always _ _ q.buffer }
