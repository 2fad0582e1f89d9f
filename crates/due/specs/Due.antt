-- To whom the frame goes that is due by the words of a state.
use Rattle.std.specs.Prelude.{List, [], ◌∷◌, ℕ, leb, eqb, length, Option, Some, None}
use Rattle.base.specs.Choice.{choose, both}
use Rattle.base.specs.Limits.{Limits}
use Rattle.base.specs.Refusal.{Answered, refused, found}
use Rattle.tree.specs.Tree.{Place, sends_to}
use Rattle.tree.specs.Lookups.{place_lookup}
use Rattle.node.specs.Answers.{also}
use Rattle.node.specs.declared.Receivers.{Receivers}
use Rattle.layout.specs.Places.{at_nodes, at_number, at_dim, at_flag, head_words}
use Rattle.layout.specs.Held.{word}

-- where a place was refused there is nobody to send to
abbrev pub to_whom : Answered Place → List ℕ
to_whom (refused x) = []
to_whom (found a) = sends_to a

-- the place of the position
abbrev pub looked_up : Limits → List ℕ → Answered Place
looked_up L ws = place_lookup L (word ws at_nodes) (word ws at_dim) (word ws at_number)

-- nobody with flag 0, or where there is no head
abbrev pub due_to : Limits → List ℕ → List ℕ
due_to L ws =
    choose (both (leb head_words (length ws)) (eqb (word ws at_flag) 1)) (to_whom (looked_up L ws)) []

abbrev pub whom_list : Option Receivers → List ℕ
whom_list None = []
whom_list (Some to) = to.first ∷ also to.extra
