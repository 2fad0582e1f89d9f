-- Where the numbers of a state stand in the words that a caller lends. A board of p dimensions has p shells, and a pass 1
-- frame of dimension k has the shells k to p - 1: no other number has a place.
use Rattle.std.specs.Prelude.{ℕ, zero, suc, ◌+◌, ◌*◌, ◌-◌}
use Rattle.base.specs.Limits.{width}

-- ---- The head

abbrev pub at_nodes : ℕ
at_nodes = 0

abbrev pub at_number : ℕ
at_number = 1

abbrev pub at_phase : ℕ
at_phase = 2

abbrev pub at_busy : ℕ
at_busy = 3

abbrev pub at_pass : ℕ
at_pass = 4

abbrev pub at_dim : ℕ
at_dim = 5

abbrev pub at_flag : ℕ
at_flag = 6

abbrev pub at_agreed : ℕ
at_agreed = 7

abbrev pub head_words : ℕ
head_words = 8

-- ---- The tallies of shell m

abbrev pub at_sent : ℕ → ℕ
at_sent m = head_words + m

abbrev pub at_taken : ℕ → ℕ → ℕ
at_taken p m = head_words + p + m

-- ---- The stored frames, dimension by dimension: that of pass 1, then that of pass 2

-- the mark of a frame is first, 1 where one is stored
abbrev pub mark_words : ℕ
mark_words = 1

-- total sent and total taken stand after the numbers by shell, in a frame of pass 1 and among the sums
abbrev pub total_words : ℕ
total_words = 2

-- total taken among these
abbrev pub at_received : ℕ
at_received = 1

-- a mark, sent for each shell, taken for each shell, total sent, total taken
abbrev pub first_words : ℕ → ℕ → ℕ
first_words p k = 2 * (p - k) + 3

-- a mark, T, total sent
abbrev pub second_words : ℕ
second_words = 3

-- both frames of dimension k
abbrev pub step_words : ℕ → ℕ → ℕ
step_words p k = first_words p k + second_words

unfoldable pub at_first : ℕ → ℕ → ℕ
at_first p zero = head_words + 2 * p
at_first p (suc k) = at_first p k + step_words p k

abbrev pub at_second : ℕ → ℕ → ℕ
at_second p k = at_first p k + first_words p k

-- the words of a state
abbrev pub state_words : ℕ → ℕ
state_words p = at_first p p

-- those of a state of `width` dimensions
abbrev pub most_words : ℕ
most_words = 120

-- ---- In a stored frame of dimension k whose words begin at a place

abbrev pub sent_place : ℕ → ℕ → ℕ → ℕ
sent_place at k m = at + mark_words + (m - k)

abbrev pub taken_place : ℕ → ℕ → ℕ → ℕ → ℕ
taken_place p at k m = at + mark_words + (p - k) + (m - k)

abbrev pub issued_place : ℕ → ℕ → ℕ → ℕ
issued_place p at k = at + mark_words + 2 * (p - k)

abbrev pub received_place : ℕ → ℕ → ℕ → ℕ
received_place p at k = at + 2 + 2 * (p - k)

abbrev pub agreed_place : ℕ → ℕ
agreed_place at = at + 1

abbrev pub confirmed_place : ℕ → ℕ
confirmed_place at = at + 2

-- ---- The own sums of a node, which a call gathers in words lent for that: sent and taken for each shell, total sent,
-- total taken

abbrev pub sum_taken : ℕ → ℕ → ℕ
sum_taken p m = p + m

abbrev pub sum_issued : ℕ → ℕ
sum_issued p = 2 * p

abbrev pub sum_received : ℕ → ℕ
sum_received p = 2 * p + 1

abbrev pub sum_words : ℕ → ℕ
sum_words p = 2 * p + 2

-- room for those of every board
abbrev pub most_sums : ℕ
most_sums = sum_words width
