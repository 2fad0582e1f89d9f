-- An answer told as a number and words is that of the definition.
use mathlib.Core.Path.{◌≡◌, ap, ◌∙◌}
use mathlib.Core.List.{List}
use Prim.Native.Nat.{ℕ}
use Rattle.base.specs.Refusal.{Answered}
use Rattle.lookup_answers.specs.Words.{lookup_number}

module _ {A : Type 0} (words : Answered A → List ℕ → List ℕ) where
  pub told : (a b : Answered A) (x : ℕ) (ws after : List ℕ) → a ≡ b
      → (x ≡ lookup_number a) × (after ≡ words a ws) → (x ≡ lookup_number b) × (after ≡ words b ws)
  told a b x ws after e t = (t.0 ∙ ap lookup_number e, t.1 ∙ ap (λ z. words z ws) e)
