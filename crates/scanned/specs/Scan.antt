-- What a call needs to know of the state that it was lent: whether it passes the test, its tallies and its sums, and how the
-- step of its position stands.
use Rattle.std.specs.Prelude.{◌≡◌, Bool, true, false, List, ℕ, suc, ◌<◌}
use Rattle.base.specs.Choice.{choose, both}
use Rattle.base.specs.Limits.{Limits}
use Rattle.frame.specs.Frame.{sent_number, taken_number}
use Rattle.node.specs.Sums.{dims, Field, Has, all_sent, all_taken, tally, own, own_issued}
use Rattle.node.specs.Agree.{is_alone, clauses, first_failing}
use Rattle.node.specs.State.{valid}
use Rattle.node.specs.declared.Node.{Node}
use Rattle.layout.specs.Held.{unpacked, is_ready, sum_of}
use Rattle.walked.specs.Walk.{confirm_reach}
use Rattle.scanned.specs.declared.Scan.{Scan}

-- the words hold a state that passes the test, and so many words lent for its sums are enough
abbrev pub passes : Limits → ℕ → List ℕ → Bool
passes L room ws = both (is_ready L room ws) (valid L (unpacked ws))

-- zeros for words that are no state
abbrev pub no_scan : Scan
no_scan =
    record {
      ok = false;
      dims = 0;
      sends = sent_number 0;
      takes = taken_number 0;
      issued = sent_number 0;
      clause = 0;
      received = taken_number 0;
    }

-- the first clause of the position's step that fails, 7 where none does; a step at which the node is alone has none
abbrev pub clause_here : Limits → Node → ℕ
clause_here L n = choose (is_alone n n.dim) 7 (first_failing (clauses L n n.pass n.dim))

pub record Scanned (L : Limits) (room : ℕ) (looks : Bool) (ws : List ℕ) (r : Scan) : Type 0 where
  pub ok : r.ok ≡ passes L room ws
  pub none : r.ok ≡ false → r ≡ no_scan
  pub sends : r.ok ≡ true → r.sends.0 ≡ tally (unpacked ws) all_sent
  pub takes : r.ok ≡ true → r.takes.0 ≡ tally (unpacked ws) all_taken
  pub issued : r.ok ≡ true → r.issued.0 ≡ own_issued (unpacked ws) (confirm_reach (unpacked ws))
  -- where the board has a step at the position and it is looked at
  pub clause : r.ok ≡ true → looks ≡ true → (unpacked ws).dim < dims (unpacked ws) → r.clause ≡ clause_here L (unpacked ws)
  -- and it agrees in pass 1
  pub received : r.ok ≡ true → looks ≡ true → (unpacked ws).dim < dims (unpacked ws)
      → is_alone (unpacked ws) (unpacked ws).dim ≡ false → (unpacked ws).pass ≡ 1 → r.clause ≡ 7
      → r.received.0 ≡ own (unpacked ws) (suc (unpacked ws).dim) all_taken
  pub dims : r.ok ≡ true → r.dims ≡ dims (unpacked ws)

-- the words lent for the sums hold the own sums for pass 1, dimension k
abbrev pub Gathered : Node → ℕ → List ℕ → Type 0
Gathered n k sums = (f : Field) → Has (dims n) k f → sum_of (dims n) sums f ≡ own n k f
