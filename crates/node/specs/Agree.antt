-- When a step agrees: the clauses (rule N15).
use Rattle.std.specs.Prelude.{Bool, true, false, List, [], ◌∷◌, ℕ, suc, ◌+◌, ◌-◌, leb, eqb}
use Rattle.std.proofs.Math.Option.{Option, none, some}
use Rattle.base.specs.Choice.{choose, both, every}
use Rattle.base.specs.Limits.{Limits, field_limit}
use Rattle.tree.specs.Tree.{awaited}
use Rattle.node.specs.Sums.{dims, first_at, second_at, Field, sent_in, taken_in, all_sent, all_taken, number, own}
use Rattle.node.specs.Sums.{own_issued}
use Rattle.node.specs.declared.Stored.{Stored}
use Rattle.node.specs.declared.Confirm.{Confirm}
use Rattle.node.specs.declared.Node.{Node}

abbrev pub is_none : Option ℕ → Bool
is_none none = true
is_none (some a) = false

-- the node awaits nobody in dimension k
abbrev pub is_alone : Node → ℕ → Bool
is_alone n k = is_none (awaited n.nodes k n.number)

-- clause 3's bound
abbrev pub is_within : Limits → ℕ → Bool
is_within L x = leb x (field_limit L)

-- For each clause from 0 to 6, whether it holds in dimension k of pass 1, by the own sums and the stored frame; 5 and
-- 6 are of pass 2.
unfoldable pub first_clauses : Limits → ℕ → ℕ → (Field → ℕ) → Stored → List Bool
first_clauses L p k own x =
    -- 0: a frame is stored
    x.present
    -- 1: what this side sent the other has taken
    ∷ eqb (own (sent_in k)) (number x (taken_in k))
    -- 2: and the other way
    ∷ eqb (own (taken_in k)) (number x (sent_in k))
    -- 3: with the frame's added, the sums of shells above k and both totals are within the limit
    ∷ both
    (every (suc k) (p - suc k)
    (λ m.
    both (is_within L (own (sent_in m) + number x (sent_in m))) (is_within L (own (taken_in m) + number x (taken_in m)))))
    (both (is_within L (own all_sent + number x all_sent)) (is_within L (own all_taken + number x all_taken)))
    -- 4: in the last dimension as much is taken on the whole board as is sent
    ∷ choose (eqb (suc k) p) (eqb (own all_sent + number x all_sent) (own all_taken + number x all_taken)) true
    ∷ true
    ∷ true
    ∷ []

-- The same for pass 2, by the own sum of total sent, T and the stored frame; 1, 2 and 4 are of pass 1.
unfoldable pub second_clauses : Limits → ℕ → ℕ → ℕ → ℕ → Confirm → List Bool
second_clauses L p k issued agreed x =
    x.present
    ∷ true
    ∷ true
    -- 3: with the frame's added, total sent is within the limit
    ∷ is_within L (issued + x.issued.0)
    ∷ true
    -- 5: the other side has agreed on the same total
    ∷ eqb x.agreed agreed
    -- 6: in the last dimension T is what the whole board has sent
    ∷ choose (eqb (suc k) p) (eqb (issued + x.issued.0) agreed) true
    ∷ []

abbrev pub clauses : Limits → Node → ℕ → ℕ → List Bool
clauses L n pass k =
    choose (eqb pass 1) (first_clauses L (dims n) k (own n k) (first_at n k))
    (second_clauses L (dims n) k (own_issued n k) n.agreed (second_at n k))

abbrev pub all_hold : List Bool → Bool
all_hold [] = true
all_hold (c ∷ cs) = both c (all_hold cs)

-- rule N16: all its clauses hold; a step at which the node is alone has none
unfoldable pub agrees : Limits → Node → ℕ → ℕ → Bool
agrees L n pass k = choose (is_alone n k) true (all_hold (clauses L n pass k))

-- rule N17: the number of the first clause that fails
unfoldable pub first_failing : List Bool → ℕ
first_failing [] = 0
first_failing (c ∷ cs) = choose c (suc (first_failing cs)) 0

-- the number in its place where none fails: a step has the clauses 0 to 6
abbrev pub no_clause : ℕ
no_clause = 7
