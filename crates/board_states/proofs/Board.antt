-- A state of a board is read at any number: past the array there are words that hold none.
use mathlib.Core.Path.{◌≡◌, refl, sym, ap, ◌∙◌}
use mathlib.Core.Bool.{true, false}
use mathlib.Core.List.{List, [], ◌∷◌}
use Prim.Native.Nat.{ℕ, zero, suc, ◌≤◌, ◌<◌}
use native.Mathlib.Decide.{dec_lt}
use native.Mathlib.Omega.{arith}
use lib.ListN.{length, get_or, get_or-eq_default}
use Rattle.base.specs.Limits.{base}
use Rattle.base.proofs.Laws.{clash}
use Rattle.layout.specs.Held.{is_whole}
use Rattle.states.specs.Words.{no_state}
use Rattle.board_states.specs.States.{state_at}
use Rattle.board_states.specs.declared.Stage.{Stage}

-- within a list the default doesn't matter
pub any_default : {A : Type 0} (l : List A) (i : ℕ) (d e : A) → i < length l → get_or l i d ≡ get_or l i e
any_default [] i d e h = absurd (omega arith)
any_default (x ∷ l) zero d e h = refl
any_default (x ∷ l) (suc i) d e h = any_default l i d e (omega arith)

pub past_all : (st : Stage) (a : ℕ) → length st.states ≤ a → no_state ≡ state_at st a
past_all st a h = sym (get_or-eq_default st.states no_state h)

none_held : is_whole base no_state.words ≡ false
unfolding is_whole
none_held = refl

-- words that hold a state are of the array
pub in_array : (st : Stage) (a : ℕ) → length st.states ≡ 16 → is_whole base (state_at st a).words ≡ true → a < 16
in_array st a l v = go (dec_lt a 16)
  where
    go : Dec (a < 16) → a < 16
    go (yes h) = h
    go (no h) = clash (sym v ∙ ap (λ s. is_whole base s.words) (sym (past_all st a (omega arith))) ∙ none_held)
