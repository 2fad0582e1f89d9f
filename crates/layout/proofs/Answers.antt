-- What a call on words answers and leaves, by what the call on the state that they hold gives.
use mathlib.Core.Path.{◌≡◌, sym, ap, ◌∙◌}
use mathlib.Core.Logic.{◌⊎◌, inl, inr}
use mathlib.Core.Bool.{true, false, not}
use mathlib.Core.List.{List}
use Prim.Native.Nat.{ℕ}
use Rattle.std.proofs.Common.{Result, Err}
use Rattle.base.specs.Limits.{Limits, Fits}
use Rattle.base.specs.declared.Refusal.{Refusal}
use Rattle.base.proofs.Laws.{choose_yes, choose_no, both_true}
use Rattle.node.specs.State.{valid}
use Rattle.node.specs.Answers.{Given, give, Outcome, refused, outcome_of}
use Rattle.node.specs.Calls.{refusal}
use Rattle.node.specs.declared.Accepted.{Accepted}
use Rattle.node.specs.declared.Node.{Node}
use Rattle.layout.specs.Held.{unpacked, is_whole, is_ready, answer_on, words_on}
use Rattle.layout.specs.Pieces.{Answers}
use Rattle.layout.proofs.Becomes.{Becomes, becomes_words, becomes_same}

module _ (L : Limits) (fit : Fits L) (call : Node → Given Outcome) (ws : List ℕ) where
  -- any answer, beside a state that the words become
  pub gives : (r : Result Accepted Refusal) (n : Node) (after : List ℕ) → call (unpacked ws) ≡ give n (outcome_of r) → Becomes L ws after n
      → Answers L call ws after r
  gives r n after g b =
      record {
        on =
            λ room e. (
              sym (choose_yes _ _ e ∙ ap (λ (x : Given Outcome). x.answer) g),
              becomes_words L fit b ∙ sym (choose_yes _ _ e ∙ rw g),
            );
      }

  -- the state stays
  pub stays : (r : Result Accepted Refusal) → is_whole L ws ≡ true → call (unpacked ws) ≡ give (unpacked ws) (outcome_of r)
      → Answers L call ws ws r
  stays r w g = gives r (unpacked ws) ws g (becomes_same L ws w)

  -- no state, or one that does not pass the test: 13, and the words stay
  pub fails : (room : ℕ)
      → (is_ready L room ws ≡ false) ⊎ ((is_ready L room ws ≡ true) × (not (valid L (unpacked ws)) ≡ true))
      → (not (valid L (unpacked ws)) ≡ true → call (unpacked ws) ≡ refusal (unpacked ws) 13)
      → (refused 13 ≡ answer_on L room call ws) × (ws ≡ words_on L room call ws)
  fails room (inl e) f = (sym (choose_no _ _ e), sym (choose_no _ _ e))
  fails room (inr e) f = (stays (Err Refusal.State) (both_true (is_whole L ws) _ e.0).0 (f e.1)).on room e.0
