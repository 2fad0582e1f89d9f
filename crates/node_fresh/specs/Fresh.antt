-- A fresh node in lent words.
use Rattle.std.specs.Prelude.{Bool, List, ◌++◌, ℕ, leb, length, drop}
use Rattle.base.specs.Choice.{choose}
use Rattle.base.specs.Limits.{Limits}
use Rattle.base.specs.Refusal.{number}
use Rattle.base.specs.declared.Refusal.{Refusal}
use Rattle.tree.specs.Tree.{dimension}
use Rattle.node.specs.Answers.{Outcome, done, dropped, refused}
use Rattle.node.specs.Calls.{fresh}
use Rattle.node.specs.declared.Node.{Node}
use Rattle.layout.specs.Places.{state_words}
use Rattle.layout.specs.Held.{packed}

-- words that are too few for the board are 13, after the refusals of the call
abbrev pub with_room : Bool → Outcome → Outcome
with_room room done = choose room done (refused (number Refusal.State))
with_room room dropped = dropped
with_room room (refused x) = refused x

unfoldable pub fresh_on : Limits → ℕ → ℕ → List ℕ → Outcome
fresh_on L P a ws = with_room (leb (state_words (dimension P)) (length ws)) (fresh L P a).answer

-- the state is put at the start of the words where the call is done
abbrev pub put_state : ℕ → Node → List ℕ → Outcome → List ℕ
put_state p n ws done = packed n ++ drop (state_words p) ws
put_state p n ws dropped = ws
put_state p n ws (refused x) = ws

unfoldable pub fresh_words : Limits → ℕ → ℕ → List ℕ → List ℕ
fresh_words L P a ws = put_state (dimension P) (fresh L P a).node ws (fresh_on L P a ws)
