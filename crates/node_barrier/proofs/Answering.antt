-- What the step on words promises, by the turn of the state that they hold.
use mathlib.Core.Path.{◌≡◌, sym, ap, ◌∙◌}
use mathlib.Core.Bool.{true, false}
use mathlib.Core.List.{List}
use Prim.Native.Nat.{ℕ}
use lib.ListN.{length}
use Rattle.std.proofs.Common.{Result, Err}
use Rattle.base.specs.Limits.{Limits}
use Rattle.base.specs.declared.Refusal.{Refusal}
use Rattle.base.proofs.Laws.{choose_yes, choose_no}
use Rattle.node.specs.Answers.{Given, Barrier, barrier_of}
use Rattle.node.specs.declared.Step.{Step}
use Rattle.layout.specs.Held.{unpacked, is_ready, holding}
use Rattle.node_turn.specs.declared.Turn.{Turn}
use Rattle.node_decide.proofs.Turning.{turned, Turns}
use Rattle.node_barrier.specs.On.{barrier_on, barrier_words, barrier_lent}

module _ (L : Limits) (ws buf : List ℕ) (room : ℕ) where
  -- the answer, the words and the bytes
  abbrev pub On : List ℕ → List ℕ → Result Step Refusal → Type 0
  On words after r =
      record {
        answer : barrier_of r ≡ barrier_on L room ws (length buf);
        memory : words ≡ barrier_words L room ws (length buf);
        buffer : after ≡ barrier_lent L room ws buf;
      }

  pub no_state_lem : is_ready L room ws ≡ false → On ws buf (Err Refusal.State)
  no_state_lem e = record {
    answer = sym (choose_no _ _ e);
    memory = sym (choose_no _ _ e);
    buffer = sym (choose_no _ _ e);
  }

  pub on_state_lem : is_ready L room ws ≡ true → (r : Result Step Refusal) (t : Result Turn Refusal) (words after : List ℕ)
      → barrier_of r ≡ (turned (unpacked ws) t).answer
      → Turns L (unpacked ws) buf after t
      → words ≡ holding ws (turned (unpacked ws) t).node
      → On words after r
  on_state_lem e r t words after q h w = record {
    answer = q ∙ ap (λ (g : Given Barrier). g.answer) h.reply ∙ sym (choose_yes _ _ e);
    memory = w ∙ ap (λ (g : Given Barrier). holding ws g.node) h.reply ∙ sym (choose_yes _ _ e);
    buffer = h.bytes ∙ sym (choose_yes _ _ e);
  }
