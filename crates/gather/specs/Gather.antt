-- The own sums in words lent for them, before any frame is added: the tallies and their totals.
use Rattle.std.specs.Prelude.{◌≡◌, Bool, true, false, List, ℕ, ◌+◌, ◌*◌, ◌<◌, leb, length}
use Rattle.base.specs.Choice.{choose, both}
use Rattle.base.specs.Limits.{Limits, taken_limit, width}
use Rattle.frame.specs.Frame.{sent_number, taken_number}
use Rattle.node.specs.Sums.{total}
use Rattle.layout.specs.Places.{head_words, at_sent, at_taken, sum_words, sum_issued, sum_received}
use Rattle.layout.specs.Held.{word}
use Rattle.gather.specs.declared.Tallies.{Tallies}

-- ---- The tallies

abbrev pub sent_total : ℕ → List ℕ → ℕ
sent_total p ws = total (λ m. word ws (at_sent m)) p

abbrev pub taken_total : ℕ → List ℕ → ℕ
taken_total p ws = total (λ m. word ws (at_taken p m)) p

-- words with tallies for p shells, and so many words lent for their sums
abbrev pub has_room : ℕ → ℕ → ℕ → Bool
has_room p words room = both (leb p width) (both (leb (head_words + 2 * p) words) (leb (sum_words p) room))

-- and totals that are within the limits
unfoldable pub tallied : Limits → ℕ → List ℕ → ℕ → Bool
tallied L p ws room =
    both (has_room p (length ws) room) (both (leb (sent_total p ws) L.sends) (leb (taken_total p ws) (taken_limit L)))

abbrev pub no_tallies : Tallies
no_tallies = record { ok = false; sends = sent_number 0; takes = taken_number 0 }

abbrev pub the_tallies : ℕ → List ℕ → Tallies
the_tallies p ws = record { ok = true; sends = sent_number (sent_total p ws); takes = taken_number (taken_total p ws) }

unfoldable pub tallies_of : Limits → ℕ → List ℕ → ℕ → Tallies
tallies_of L p ws room = choose (tallied L p ws room) (the_tallies p ws) no_tallies

-- the sums before any frame is added
pub record Started (p : ℕ) (ws after : List ℕ) : Type 0 where
  pub tallies : (i : ℕ) → i < 2 * p → word after i ≡ word ws (head_words + i)
  pub issued : word after (sum_issued p) ≡ sent_total p ws
  pub received : word after (sum_received p) ≡ taken_total p ws
