-- Definitions that only the contracts of private functions cite: the tests of the numbers in words.
use Rattle.std.specs.Prelude.{Bool, List, ℕ, leb, eqb, get_or}
use Rattle.base.specs.Choice.{choose, both}
use Rattle.frame.specs.Parts.{has_tallies}
use Rattle.field_words.specs.Words.{at_pass, at_dim, at_issued, at_received, at_agreed, at_sent, at_taken}

-- the most that a number may be: 0 where the frame doesn't have it
abbrev pub most : Bool → ℕ → ℕ
most has limit = choose has limit 0

-- the tallies of shell m
unfoldable pub shell_low : ℕ → ℕ → List ℕ → ℕ → Bool
shell_low limit p ws m =
    let top = most (has_tallies p (get_or ws at_pass 0) (get_or ws at_dim 0) m) limit in
    both (leb (get_or ws (at_sent m) 0) top) (leb (get_or ws (at_taken m) 0) top)

-- the other numbers
unfoldable pub totals_low : ℕ → List ℕ → Bool
totals_low limit ws =
    both (leb (get_or ws at_issued 0) limit)
    (both (leb (get_or ws at_received 0) (most (eqb (get_or ws at_pass 0) 1) limit))
    (leb (get_or ws at_agreed 0) (most (eqb (get_or ws at_pass 0) 2) limit)))
