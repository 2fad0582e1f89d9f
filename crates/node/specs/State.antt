-- The state test (rule R5, by its points): 13 where one of them does not hold.
use Rattle.std.specs.Prelude.{Bool, true, not, [], ◌∷◌, ℕ, ◌-◌, ltb, leb, eqb}
use Rattle.base.specs.Choice.{choose, both, either, every}
use Rattle.base.specs.Limits.{Limits, field_limit, taken_limit, width}
use Rattle.tree.specs.Lookups.{bad_board}
use Rattle.frame.specs.Frame.{has_shell, number_ok}
use Rattle.node.specs.Sums.{dims, first_at, second_at, sent_in, taken_in, all_sent, all_taken, tally, number, own}
use Rattle.node.specs.Agree.{is_alone, agrees, all_hold}
use Rattle.node.specs.declared.Node.{Node}

-- 1: the board, and the own number
unfoldable pub board_ok : Limits → Node → Bool
board_ok L n = both (not (bad_board L n.nodes)) (ltb n.number n.nodes)

-- 2: pass and dimension
unfoldable pub position_ok : Node → Bool
position_ok n =
    choose (eqb (dims n) 0) (both (eqb n.pass 1) (eqb n.dim 0))
    (both (either (eqb n.pass 1) (eqb n.pass 2)) (ltb n.dim (dims n)))

-- 3: the totals of a phase are within the limits, and tallies of shells that the board doesn't have are 0
unfoldable pub tallies_ok : Limits → Node → Bool
tallies_ok L n =
    both (both (leb (tally n all_sent) L.sends) (leb (tally n all_taken) (taken_limit L)))
    (every (dims n) (width - dims n) (λ m. both (eqb (tally n (sent_in m)) 0) (eqb (tally n (taken_in m)) 0)))

-- 4: T is 0 in pass 1, and in pass 2 the total of all nodes, sent and taken being the same by clause 4
unfoldable pub total_ok : Limits → Node → Bool
total_ok L n =
    both (leb n.agreed (field_limit L)) (eqb n.agreed (choose (eqb n.pass 1) 0 (own n (dims n) all_taken)))

-- the node awaits a frame in dimension k
abbrev pub awaits_frame : Node → ℕ → Bool
awaits_frame n k = both (ltb k (dims n)) (not (is_alone n k))

-- 5: a frame is stored only where one is awaited, its numbers are within the limit, and numbers that the place doesn't
-- have are 0: those of other shells, and all where no frame is stored
unfoldable pub first_ok : Limits → Node → ℕ → Bool
first_ok L n k =
    let x = first_at n k in
    both (either (awaits_frame n k) (not x.present))
    (both
    (every 0 width
    (λ m.
    let has = both x.present (has_shell (dims n) k m) in
    both (number_ok L has (number x (sent_in m))) (number_ok L has (number x (taken_in m)))))
    (both (number_ok L x.present (number x all_sent)) (number_ok L x.present (number x all_taken))))

unfoldable pub second_ok : Limits → Node → ℕ → Bool
second_ok L n k =
    let x = second_at n k in
    both (either (awaits_frame n k) (not x.present))
    (both (number_ok L x.present x.agreed) (number_ok L x.present x.issued.0))

-- 6: every step before the position agrees
unfoldable pub passed_ok : Limits → Node → Bool
passed_ok L n =
    choose (eqb n.pass 1) (every 0 n.dim (agrees L n 1))
    (both (every 0 (dims n) (agrees L n 1)) (every 0 n.dim (agrees L n 2)))

-- 7: a busy node is at (1, 0, 1)
unfoldable pub busy_ok : Node → Bool
busy_ok n = choose n.busy (both (eqb n.pass 1) (both (eqb n.dim 0) n.flag)) true

unfoldable pub valid : Limits → Node → Bool
valid L n =
    all_hold
    (board_ok L n
    ∷ position_ok n
    ∷ tallies_ok L n
    ∷ total_ok L n
    ∷ every 0 width (first_ok L n)
    ∷ every 0 width (second_ok L n)
    ∷ passed_ok L n
    ∷ busy_ok n
    ∷ [])
