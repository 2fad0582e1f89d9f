-- A note is taken as a job is, but that the node is busy or idle as it was; a job that is taken makes it busy.
use mathlib.Core.Path.{◌≡◌, refl}
use mathlib.Core.Bool.{Bool, true, false}
use mathlib.Core.List.{List, [], ◌∷◌}
use Prim.Native.Nat.{ℕ}
use native.Mathlib.Omega.{arith}
use Rattle.base.specs.Choice.{choose}
use Rattle.base.specs.Limits.{Limits}
use Rattle.base.specs.Refusal.{Check, number, in_order}
use Rattle.base.specs.declared.Kind.TheVariants.{Job, Note}
use Rattle.node.specs.Change.{with_busy}
use Rattle.node.specs.Answers.{Given, give, Outcome, done}
use Rattle.node.specs.Calls.{refusal, take}
use Rattle.node.specs.declared.Node.{Node}
use Rattle.node.proofs.Ways.{TakeWay, take_way, take_checks}

-- the answer of a note's take beside that of a job's
abbrev Alike : Node → Given Outcome → Given Outcome → Type 0
Alike n note job = (note.answer ≡ job.answer) × (note.node ≡ with_busy job.node n.busy)

by_test : (n : Node) (t : Bool) (r x y : Given Outcome) → Alike n r r → Alike n x y
    → Alike n (choose t r x) (choose t r y)
by_test n true r x y p q = p
by_test n false r x y p q = q

-- refusals in one order, and where none is given two states that differ in busy alone
in_order_lem : (n x y : Node) → x ≡ with_busy y n.busy → (cs : List Check)
    → Alike n (in_order (refusal n) cs (give x done)) (in_order (refusal n) cs (give y done))
in_order_lem n x y e [] = (refl, e)
in_order_lem n x y e (c ∷ cs) = by_test n c.met (refusal n (number c.word)) _ _ (refl, refl) (in_order_lem n x y e cs)

pub note_as_job : (L : Limits) (n : Node) (a phase : ℕ) → Alike n (take L n Note a phase) (take L n Job a phase)
unfolding take
note_as_job L n a phase = in_order_lem n _ _ refl (take_checks L n a phase)

pub job_wakes : (L : Limits) (n : Node) (a phase : ℕ) → (take L n Job a phase).answer ≡ done
    → (take L n Job a phase).node.busy ≡ true
job_wakes L n a phase = go (take_way L n Job a phase)
  where
    go : {r : Given Outcome} → TakeWay L n Job a phase r → r.answer ≡ done → r.node.busy ≡ true
    go (TakeWay.refused x s) e = let z : ◌≡◌ {A = ℕ} 0 1 = cc in absurd (omega arith)
    go (TakeWay.done v h o d r) e = refl
