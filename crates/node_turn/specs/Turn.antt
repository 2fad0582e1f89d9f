-- The turn of a node: on, or out; the state, the answer and the words after a turn.
use Rattle.std.specs.Prelude.{true, false, List, [], ◌∷◌, ◌++◌, ℕ, suc, ◌+◌, ◌-◌, ◌%◌, ltb, leb, eqb, length, drop, set}
use Rattle.base.specs.Choice.{choose, list}
use Rattle.node.specs.Change.{at, fresh_in}
use Rattle.node.specs.declared.Node.{Node}
use Rattle.node.specs.declared.Step.{Step}
use Rattle.node.specs.declared.Step.TheVariants.{Sends, Waits, Moved, Left}
use Rattle.layout.specs.Places.{at_nodes, at_number, at_phase, at_pass, at_dim, at_flag, at_agreed, state_words, head_words}
use Rattle.layout.specs.Held.{word}
use Rattle.node_turn.specs.declared.Turn.{Turn}
use Rattle.node_turn.specs.declared.Turn.TheVariants.{Sends as SendsTo, Waits as WaitsFor, Moves, Leaves}

-- ---- On

-- of the step in dimension k of p, in a pass, with T as it is agreed and as it becomes
unfoldable pub onward_turn : ℕ → ℕ → ℕ → ℕ → ℕ → Turn
onward_turn p pass k agreed total =
    choose (leb p k) Leaves
    (choose (ltb (suc k) p) (Moves pass (suc k) agreed) (choose (eqb pass 1) (Moves 2 0 total) Leaves))

-- ---- After it

abbrev pub node_after : Node → Turn → Node
node_after n (SendsTo to length) = at n n.pass n.dim false n.agreed
node_after n (WaitsFor clause) = at n n.pass n.dim false n.agreed
node_after n (Moves pass k agreed) = at n pass k true agreed
node_after n Leaves = fresh_in n.nodes n.number ((n.phase + 1) % 256)

abbrev pub answer_of : Turn → Step
answer_of (SendsTo to length) = Sends to length
answer_of (WaitsFor clause) = Waits clause
answer_of (Moves pass k agreed) = Moved
answer_of Leaves = Left

-- the words
abbrev pub positioned : List ℕ → ℕ → ℕ → ℕ → List ℕ
positioned ws pass k agreed = set (set (set (set ws at_pass pass) at_dim k) at_flag 1) at_agreed agreed

abbrev pub freshened : List ℕ → ℕ → List ℕ
freshened ws p =
    choose (leb (state_words p) (length ws))
    ((word ws at_nodes ∷ word ws at_number ∷ ((word ws at_phase + 1) % 256) ∷ 1 ∷ 1 ∷ 0 ∷ 1 ∷ 0 ∷ [])
    ++ (list 0 (state_words p - head_words) (λ i. 0) ++ drop (state_words p) ws))
    ws

abbrev pub words_after : List ℕ → ℕ → Turn → List ℕ
words_after ws p (SendsTo to length) = set ws at_flag 0
words_after ws p (WaitsFor clause) = set ws at_flag 0
words_after ws p (Moves pass k agreed) = positioned ws pass k agreed
words_after ws p Leaves = freshened ws p
