-- What is asked of the words of a frame's fields before they are written, in the order of rule R3 and rule C7.
use Rattle.std.specs.Prelude.{not, List, [], ◌∷◌, ℕ, leb, get_or}
use Rattle.base.specs.Limits.{Limits}
use Rattle.base.specs.Refusal.{Answered, Check, refused, found, when, in_order}
use Rattle.base.specs.declared.Refusal.{Refusal}
use Rattle.tree.specs.Tree.{dimension}
use Rattle.tree.specs.Lookups.{bad_board}
use Rattle.frame.specs.Frame.{bad_step, numbers_ok}
use Rattle.field_words.specs.Words.{at_pass, at_phase, at_dim, at_sender, frame_from}

abbrev pub tests : Limits → ℕ → List ℕ → List Check
tests L P ws =
    let p = dimension P in
    when (bad_board L P) Refusal.Board
    ∷ when (leb 256 (get_or ws at_phase 0)) Refusal.Field
    ∷ when (bad_step p (get_or ws at_pass 0) (get_or ws at_dim 0)) Refusal.Field
    ∷ when (not (numbers_ok L p (frame_from ws))) Refusal.Field
    ∷ when (leb P (get_or ws at_sender 0)) Refusal.Stranger
    ∷ []

-- the dimension of the board where none is met
abbrev pub tested_on : Limits → ℕ → List ℕ → Answered ℕ
tested_on L P ws = in_order refused (tests L P ws) (found (dimension P))
