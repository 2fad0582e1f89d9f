-- The calls fresh, send, take, idle and frame in, each with its refusals in the order of rule R3.
use Rattle.std.specs.Prelude.{Bool, true, false, not, List, [], ◌∷◌, ◌++◌, ℕ, ◌+◌, ltb, leb, eqb, set}
use Rattle.std.proofs.Math.Option.{Option, none, some}
use Rattle.base.specs.Choice.{choose}
use Rattle.base.specs.Limits.{Limits, taken_limit}
use Rattle.base.specs.Refusal.{Check, when, in_order}
use Rattle.base.specs.declared.Refusal.{Refusal}
use Rattle.base.specs.declared.Kind.{Kind}
use Rattle.base.specs.declared.Kind.TheVariants.{Job, Note}
use Rattle.tree.specs.Tree.{awaited, distance}
use Rattle.tree.specs.Lookups.{bad_board}
use Rattle.frame.specs.Frame.{sent_number, taken_number, fields_of, read_checks}
use Rattle.frame.specs.Timing.{timing}
use Rattle.frame.specs.declared.Frame.{Frame}
use Rattle.frame.specs.declared.Timing.{Timing}
use Rattle.frame.specs.declared.Timing.TheVariants.{Now, Early, Late, Foreign}
use Rattle.node.specs.Sums.{dims, sent_in, taken_in, all_sent, all_taken, tally}
use Rattle.node.specs.State.{valid}
use Rattle.node.specs.Change.{with_busy, with_sent, with_taken, at, with_first, with_second, fresh_in, no_node}
use Rattle.node.specs.Answers.{Given, give, Outcome, done, dropped, refused}
use Rattle.node.specs.declared.Stored.{Stored}
use Rattle.node.specs.declared.Confirm.{Confirm}
use Rattle.node.specs.declared.Node.{Node}

-- a refused call gives its number and leaves the state (rule R4)
abbrev pub refusal : Node → ℕ → Given Outcome
refusal n x = give n (refused x)

-- state: the first refusal of every call on a node
abbrev pub bad_state : Limits → Node → Check
bad_state L n = when (not (valid L n)) Refusal.State

-- ---- Fresh (rule N4)

unfoldable pub fresh : Limits → ℕ → ℕ → Given Outcome
fresh L P number =
    in_order (refusal no_node) (when (bad_board L P) Refusal.Board ∷ when (leb P number) Refusal.Stranger ∷ [])
    (give (fresh_in P number 0) done)

-- ---- Send (rule N5)

-- one message more to shell m
abbrev pub one_sent : Node → ℕ → Node
one_sent n m = with_sent n (set n.sent m (sent_number (tally n (sent_in m) + 1)))

unfoldable pub send : Limits → Node → ℕ → Given Outcome
send L n b =
    in_order (refusal n)
    (bad_state L n
    ∷ when (leb n.nodes b) Refusal.Stranger
    ∷ when (eqb b n.number) Refusal.Itself
    ∷ when (not n.busy) Refusal.Resting
    ∷ when (leb L.sends (tally n all_sent)) Refusal.SentOut
    ∷ [])
    (give (one_sent n (distance n.nodes n.number b)) done)

-- ---- Take (rule N6)

-- one message more from shell m
abbrev pub one_taken : Node → ℕ → Node
one_taken n m = with_taken n (set n.taken m (taken_number (tally n (taken_in m) + 1)))

-- a job makes the node busy; with a note it is busy or idle as it was
abbrev pub wakes : Kind → Bool → Bool
wakes Job busy = true
wakes Note busy = busy

-- the node will sign in anew with flag 1, so that its new tally goes out
abbrev pub counted : Node → Kind → ℕ → Node
counted n kind m = at (with_busy (one_taken n m) (wakes kind n.busy)) 1 0 true 0

abbrev pub is_early : Timing → Bool
is_early Now = false
is_early Early = true
is_early Late = false
is_early Foreign = false

-- for work late is foreign too (rule R1)
abbrev pub is_foreign_work : Timing → Bool
is_foreign_work Now = false
is_foreign_work Early = false
is_foreign_work Late = true
is_foreign_work Foreign = true

unfoldable pub take : Limits → Node → Kind → ℕ → ℕ → Given Outcome
take L n kind a phase =
    in_order (refusal n)
    (bad_state L n
    ∷ when (leb n.nodes a) Refusal.Stranger
    ∷ when (eqb a n.number) Refusal.Itself
    ∷ when (is_early (timing phase n.phase)) Refusal.Early
    ∷ when (is_foreign_work (timing phase n.phase)) Refusal.Foreign
    ∷ when (leb (taken_limit L) (tally n all_taken)) Refusal.TakenFull
    ∷ [])
    (give (counted n kind (distance n.nodes n.number a)) done)

-- ---- Idle (rule N7)

unfoldable pub idle : Limits → Node → Given Outcome
idle L n = in_order (refusal n) (bad_state L n ∷ []) (give (with_busy n false) done)

-- ---- Frame in (rule N8)

-- steps counted through: pass 1, dimension k is step k; pass 2, dimension k is step p + k
abbrev pub step_number : ℕ → ℕ → ℕ → ℕ
step_number p pass k = choose (eqb pass 1) k (p + k)

abbrev pub first_of : Frame → Stored
first_of f =
    record { present = true; sent = f.sent; taken = f.taken; issued = f.issued; received = f.received }

abbrev pub second_of : Frame → Confirm
second_of f = record { present = true; agreed = f.agreed; issued = f.issued }

-- the frame is stored for its pass and dimension, over an older one
abbrev pub stored : Node → Frame → Node
stored n f =
    choose (eqb f.pass 1) (with_first n (set n.first f.dim (first_of f)))
    (with_second n (set n.second f.dim (second_of f)))

-- a frame of an earlier step takes the position back to that step, with flag 0; back in pass 1 there is no T
unfoldable pub gotten : Node → Frame → Node
gotten n f =
    choose (ltb (step_number (dims n) f.pass f.dim) (step_number (dims n) n.pass n.dim))
    (at (stored n f) f.pass f.dim false (choose (eqb f.pass 1) 0 n.agreed))
    (stored n f)

abbrev pub is_awaited : Option ℕ → ℕ → Bool
is_awaited none a = false
is_awaited (some w) a = eqb w a

-- rule R7: now is stored, early held back by the caller, late dropped without effect, foreign refused
abbrev pub by_timing : Node → Frame → Timing → Given Outcome
by_timing n f Now = give (gotten n f) done
by_timing n f Early = refusal n 7
by_timing n f Late = give n dropped
by_timing n f Foreign = refusal n 8

unfoldable pub frame_in : Limits → Node → List ℕ → Given Outcome
frame_in L n bs =
    let f = fields_of (dims n) bs in
    in_order (refusal n)
    (bad_state L n
    ∷ read_checks L n.nodes bs
    ++ (when (eqb f.sender n.number) Refusal.Itself
    ∷ when (not (is_awaited (awaited n.nodes f.dim n.number) f.sender)) Refusal.Partner
    ∷ []))
    (by_timing n f (timing f.phase n.phase))
