-- Definitions that only the contracts of private functions cite: the tallies, copied.
use Rattle.std.specs.Prelude.{◌≡◌, true, List, ℕ, ◌+◌, ◌*◌, ◌<◌, leb, length}
use Rattle.base.specs.Choice.{choose, both}
use Rattle.layout.specs.Places.{head_words}
use Rattle.layout.specs.Held.{word}
use Rattle.gather.specs.Gather.{sent_total, taken_total, the_tallies, no_tallies}
use Rattle.gather.specs.declared.Tallies.{Tallies}

-- the tallies of p shells, copied where their totals are at most these
pub record Copied (p : ℕ) (ws : List ℕ) (sends takes : ℕ) (before after : List ℕ) (r : Tallies) : Type 0 where
  pub answer : r ≡ choose (both (leb (sent_total p ws) sends) (leb (taken_total p ws) takes)) (the_tallies p ws) no_tallies
  pub tallies : r.ok ≡ true → (i : ℕ) → i < 2 * p → word after i ≡ word ws (head_words + i)
  pub length : length after ≡ length before
