-- The barrier call, one step (rule N9).
use Rattle.std.specs.Prelude.{Bool, true, false, not, List, [], ◌∷◌, ◌++◌, ℕ, suc, ◌+◌, ◌%◌, ltb, eqb, length, drop}
use Rattle.base.specs.Choice.{choose, both, list}
use Rattle.base.specs.Limits.{Limits, width}
use Rattle.base.specs.Refusal.{when, in_order}
use Rattle.base.specs.declared.Refusal.{Refusal}
use Rattle.tree.specs.Tree.{receivers}
use Rattle.frame.specs.Frame.{sent_number, taken_number, has_shell, frame_length, frame_bytes}
use Rattle.frame.specs.declared.Frame.{Frame}
use Rattle.node.specs.Sums.{dims, sent_in, taken_in, all_sent, all_taken, own, own_issued}
use Rattle.node.specs.Agree.{clauses, agrees, first_failing}
use Rattle.node.specs.Change.{at, fresh_in}
use Rattle.node.specs.Answers.{Given, give, Barrier, sent, waits, moved, left, barred}
use Rattle.node.specs.Calls.{bad_state}
use Rattle.node.specs.declared.Node.{Node}

-- ---- The frame for the node's position: its own sums (rule N10)

abbrev pub first_frame : Node → Frame
first_frame n =
    let k = n.dim in
    record {
      pass = 1;
      phase = n.phase;
      dim = k;
      sender = n.number;
      sent = list 0 width (λ m. sent_number (choose (has_shell (dims n) k m) (own n k (sent_in m)) 0));
      taken = list 0 width (λ m. taken_number (choose (has_shell (dims n) k m) (own n k (taken_in m)) 0));
      issued = sent_number (own n k all_sent);
      received = taken_number (own n k all_taken);
      agreed = 0;
    }

abbrev pub second_frame : Node → Frame
second_frame n =
    record {
      pass = 2;
      phase = n.phase;
      dim = n.dim;
      sender = n.number;
      sent = list 0 width (λ m. sent_number 0);
      taken = list 0 width (λ m. taken_number 0);
      issued = sent_number (own_issued n n.dim);
      received = taken_number 0;
      agreed = n.agreed;
    }

unfoldable pub frame_due : Node → Frame
frame_due n = choose (eqb n.pass 1) (first_frame n) (second_frame n)

abbrev pub length_due : Node → ℕ
length_due n = frame_length (dims n) n.pass n.dim

abbrev pub receivers_due : Node → List ℕ
receivers_due n = receivers n.nodes n.dim n.number

abbrev pub is_empty : List ℕ → Bool
is_empty [] = true
is_empty (a ∷ l) = false

-- the frame is yet to be sent, and there is somebody to send it to
abbrev pub is_due : Node → Bool
is_due n = both n.flag (not (is_empty (receivers_due n)))

-- ---- The step

-- rule N10: the frame goes out, and the flag says so
abbrev pub sending : Node → Given Barrier
sending n = give (at n n.pass n.dim false n.agreed) (sent (receivers_due n) (length_due n))

-- rule N13: the next phase, 255 going to 0, and the rest fresh
abbrev pub leaving : Node → Given Barrier
leaving n = give (fresh_in n.nodes n.number ((n.phase + 1) % 256)) left

-- rule N11: to the next dimension; from the last one of pass 1 to pass 2, with T; from the last one of pass 2 it leaves
abbrev pub moving : Node → Given Barrier
moving n =
    choose (ltb (suc n.dim) (dims n)) (give (at n n.pass (suc n.dim) true n.agreed) moved)
    (choose (eqb n.pass 1) (give (at n 2 0 true (own n (dims n) all_taken)) moved) (leaving n))

-- rule N12 and rule N17: nothing but the flag is altered, and the first clause that fails is named
abbrev pub waiting : Limits → Node → Given Barrier
waiting L n =
    give (at n n.pass n.dim false n.agreed) (waits (first_failing (clauses L n n.pass n.dim)))

-- nothing to send: it leaves a board of one node, moves where the step agrees, and else waits
abbrev pub looking : Limits → Node → Given Barrier
looking L n =
    choose (eqb (dims n) 0) (leaving n) (choose (agrees L n n.pass n.dim) (moving n) (waiting L n))

-- with a buffer of so many bytes; the order of refusals is that of rule R3
unfoldable pub barrier : Limits → Node → ℕ → Given Barrier
barrier L n room =
    in_order (λ x. give n (barred x))
    (bad_state L n
    ∷ when n.busy Refusal.Working
    ∷ when (both (is_due n) (ltb room (length_due n))) Refusal.Buffer
    ∷ [])
    (choose (is_due n) (sending n) (looking L n))

-- the lent bytes after the call: a frame that is sent stands at their start and touches its own bytes only (rule F6)
abbrev pub lent_after : Node → List ℕ → Barrier → List ℕ
lent_after n buf (sent to len) = frame_bytes (dims n) (frame_due n) ++ drop len buf
lent_after n buf (waits clause) = buf
lent_after n buf moved = buf
lent_after n buf left = buf
lent_after n buf (barred x) = buf

unfoldable pub barrier_bytes : Limits → Node → List ℕ → List ℕ
barrier_bytes L n buf = lent_after n buf (barrier L n (length buf)).answer
