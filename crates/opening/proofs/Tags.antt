-- A first line of another kind opens no board.
use mathlib.Core.Path.{◌≡◌, refl}
use Prim.Native.Nat.{ℕ}
use Rattle.line_forms.specs.declared.Line.{Line}
use Rattle.line_forms.specs.declared.Line.TheVariants.{Nodes, Sends, Delivers, Idles, Calls, Bad}
use Rattle.opening.specs.Opens.{shut, opened_by}

pub no_board : (l : Line) (len next : ℕ) → ((P : ℕ) → l ≡ Nodes P → ⊥) → opened_by len next l ≡ shut len 17 1
no_board (Nodes P) len next h = absurd (h P refl)
no_board (Sends kind a b) len next h = refl
no_board (Delivers a b) len next h = refl
no_board (Idles a) len next h = refl
no_board (Calls a) len next h = refl
no_board Bad len next h = refl
