-- The state that words hold, a state as words, and a call on words.
use Rattle.std.specs.Prelude.{Bool, not, List, [], ◌∷◌, ◌++◌, ℕ, zero, suc, ◌-◌, ltb, leb, eqb, length, get_or, drop}
use Rattle.base.specs.Choice.{choose, both, every, list}
use Rattle.base.specs.Limits.{Limits, width}
use Rattle.base.specs.Refusal.{number}
use Rattle.base.specs.declared.Refusal.{Refusal}
use Rattle.tree.specs.Tree.{dimension}
use Rattle.tree.specs.Lookups.{bad_board}
use Rattle.frame.specs.Frame.{sent_number, taken_number, sent_at, taken_at, has_shell}
use Rattle.node.specs.Sums.{dims, first_at, second_at, Field, sent_in, taken_in, all_sent, all_taken}
use Rattle.node.specs.Change.{no_first, no_second}
use Rattle.node.specs.Answers.{Given, Outcome, refused}
use Rattle.node.specs.declared.Stored.{Stored}
use Rattle.node.specs.declared.Confirm.{Confirm}
use Rattle.node.specs.declared.Node.{Node}
use Rattle.layout.specs.Places.{at_nodes, at_number, at_phase, at_busy, at_pass, at_dim, at_flag, at_agreed, at_sent, at_taken}
use Rattle.layout.specs.Places.{at_first, at_second, state_words, sent_place, taken_place, issued_place, received_place}
use Rattle.layout.specs.Places.{agreed_place, confirmed_place, sum_taken, sum_issued, sum_received, sum_words}

-- a word, 0 past the last
abbrev pub word : List ℕ → ℕ → ℕ
word ws i = get_or ws i 0

abbrev pub bit : Bool → ℕ
bit b = choose b 1 0

-- p, by the word that has the number of nodes
abbrev pub dims_of : List ℕ → ℕ
dims_of ws = dimension (word ws at_nodes)

-- ---- Words as a state

-- the frames whose words begin at a place
abbrev pub first_from : List ℕ → ℕ → ℕ → ℕ → Stored
first_from ws p k at =
    record {
      present = eqb (word ws at) 1;
      sent = list 0 width (λ m. sent_number (choose (has_shell p k m) (word ws (sent_place at k m)) 0));
      taken = list 0 width (λ m. taken_number (choose (has_shell p k m) (word ws (taken_place p at k m)) 0));
      issued = sent_number (word ws (issued_place p at k));
      received = taken_number (word ws (received_place p at k));
    }

abbrev pub second_from : List ℕ → ℕ → Confirm
second_from ws at =
    record {
      present = eqb (word ws at) 1;
      agreed = word ws (agreed_place at);
      issued = sent_number (word ws (confirmed_place at));
    }

-- the frames of dimension k; none past the last dimension
unfoldable pub first_in : List ℕ → ℕ → ℕ → Stored
first_in ws p k = choose (ltb k p) (first_from ws p k (at_first p k)) no_first

unfoldable pub second_in : List ℕ → ℕ → ℕ → Confirm
second_in ws p k = choose (ltb k p) (second_from ws (at_second p k)) no_second

unfoldable pub unpacked : List ℕ → Node
unpacked ws =
    let p = dims_of ws in
    record {
      nodes = word ws at_nodes;
      number = word ws at_number;
      phase = word ws at_phase;
      busy = eqb (word ws at_busy) 1;
      sent = list 0 width (λ m. sent_number (choose (ltb m p) (word ws (at_sent m)) 0));
      taken = list 0 width (λ m. taken_number (choose (ltb m p) (word ws (at_taken p m)) 0));
      pass = word ws at_pass;
      dim = word ws at_dim;
      flag = eqb (word ws at_flag) 1;
      first = list 0 width (first_in ws p);
      second = list 0 width (second_in ws p);
      agreed = word ws at_agreed;
    }

-- the marks of dimension k are 0 or 1
abbrev pub is_marked : List ℕ → ℕ → ℕ → Bool
is_marked ws p k = both (ltb (word ws (at_first p k)) 2) (ltb (word ws (at_second p k)) 2)

-- the words hold a state of a board that the build has: enough of them, each in the range of what it stands for
unfoldable pub is_whole : Limits → List ℕ → Bool
is_whole L ws =
    let p = dims_of ws in
    both (not (bad_board L (word ws at_nodes)))
    (both (leb (state_words p) (length ws))
    (both (ltb (word ws at_phase) 256)
    (both (ltb (word ws at_busy) 2) (both (ltb (word ws at_flag) 2) (every 0 p (is_marked ws p))))))

-- ---- A state as words

abbrev pub head_of : Node → List ℕ
head_of n =
    n.nodes
    ∷ n.number
    ∷ n.phase
    ∷ bit n.busy
    ∷ n.pass
    ∷ n.dim
    ∷ bit n.flag
    ∷ n.agreed
    ∷ []

-- the words of a pass 1 frame of dimension k, and of a pass 2 frame
unfoldable pub first_list : ℕ → ℕ → Stored → List ℕ
first_list p k x =
    bit x.present
    ∷ (list k (p - k) (sent_at x.sent)
    ++ (list k (p - k) (taken_at x.taken) ++ (x.issued.0 ∷ x.received.0 ∷ [])))

unfoldable pub second_list : Confirm → List ℕ
second_list x = bit x.present ∷ x.agreed ∷ x.issued.0 ∷ []

-- g start, g (start + 1), .., count of them, joined
unfoldable pub joined_list : ℕ → ℕ → (ℕ → List ℕ) → List ℕ
joined_list start zero g = []
joined_list start (suc count) g = g start ++ joined_list (suc start) count g

unfoldable pub packed : Node → List ℕ
packed n =
    let p = dims n in
    head_of n
    ++ (list 0 p (sent_at n.sent)
    ++ (list 0 p (taken_at n.taken)
    ++ joined_list 0 p (λ k. first_list p k (first_at n k) ++ second_list (second_at n k))))

-- ---- A call on words

-- the words after those of the state
abbrev pub spare : List ℕ → List ℕ
spare ws = drop (state_words (dims_of ws)) ws

-- the state n in the place of the one that the words hold
abbrev pub holding : List ℕ → Node → List ℕ
holding ws n = packed n ++ spare ws

-- the own sums in words lent for that
abbrev pub sum_of : ℕ → List ℕ → Field → ℕ
sum_of p l (sent_in m) = word l m
sum_of p l (taken_in m) = word l (sum_taken p m)
sum_of p l all_sent = word l (sum_issued p)
sum_of p l all_taken = word l (sum_received p)

-- the words hold a state, and so many words lent for its sums are enough
abbrev pub is_ready : Limits → ℕ → List ℕ → Bool
is_ready L room ws = both (is_whole L ws) (leb (sum_words (dims_of ws)) room)

-- what a call answers, and the words after it: 13 where they hold no state
abbrev pub answer_on : Limits → ℕ → (Node → Given Outcome) → List ℕ → Outcome
answer_on L room call ws = choose (is_ready L room ws) (call (unpacked ws)).answer (refused (number Refusal.State))

abbrev pub words_on : Limits → ℕ → (Node → Given Outcome) → List ℕ → List ℕ
words_on L room call ws = choose (is_ready L room ws) (holding ws (call (unpacked ws)).node) ws
