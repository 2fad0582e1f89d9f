-- What is printed first, with a stop and without.
use mathlib.Core.Path.{◌≡◌, sym, ap}
use mathlib.Core.List.{[], ◌++◌}
use Prim.Native.Nat.{ℕ}
use borrow.Author.Tests.{eq-eqb, ne_eqb}
use Rattle.base.proofs.Laws.{choose_yes, choose_no}
use Rattle.text.specs.Text.{header, stop_text}
use Rattle.opening_parts.specs.Texts.{opening_text}

pub opening_none : (why line : ℕ) → why ≡ 0 → header ≡ opening_text why line
unfolding opening_text
opening_none why line e = ap (λ l. header ++ l) (sym (choose_yes [] (stop_text why line) (eq-eqb why 0 e)))

pub opening_stop : (why line : ℕ) → (why ≡ 0 → ⊥) → header ++ stop_text why line ≡ opening_text why line
unfolding opening_text
opening_stop why line e = ap (λ l. header ++ l) (sym (choose_no [] (stop_text why line) (ne_eqb why 0 e)))
