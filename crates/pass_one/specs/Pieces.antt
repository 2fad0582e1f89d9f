-- Definitions that only the contracts of private functions cite: the clauses one after the other.
use Rattle.std.specs.Prelude.{◌≡◌, Bool, true, List, ℕ, length}
use Rattle.base.specs.Limits.{Limits}
use Rattle.node.specs.Sums.{Field, sent_in, taken_in, number}
use Rattle.node.specs.Agree.{first_clauses, all_hold}
use Rattle.node.specs.declared.Stored.{Stored}
use Rattle.layout.specs.Held.{sum_of}
use Rattle.adding.specs.Adding.{Added}

-- clauses 0, 1 and 2 hold
pub record Opened (k : ℕ) (own : Field → ℕ) (x : Stored) : Type 0 where
  pub stored : x.present ≡ true
  pub sent : own (sent_in k) ≡ number x (taken_in k)
  pub taken : own (taken_in k) ≡ number x (sent_in k)

-- whether all clauses hold, and the sums with the frame added where they do
pub record Agreed (L : Limits) (p k : ℕ) (x : Stored) (before after : List ℕ) (r : Bool) : Type 0 where
  pub ok : r ≡ all_hold (first_clauses L p k (sum_of p before) x)
  pub sums : r ≡ true → Added p k x before after
  pub length : length after ≡ length before
