-- The tallies copied, with their totals after them, are the sums before any frame is added.
use mathlib.Core.Path.{◌≡◌, ◌∙◌}
use mathlib.Core.Bool.{true}
use mathlib.Core.List.{List}
use Prim.Native.Nat.{ℕ, ◌≤◌}
use native.Mathlib.Omega.{arith}
use lib.ListN.{length, set, length-set}
use lib.Seq.{get_or-set_same, get_or-set_other}
use Rattle.layout.specs.Places.{sum_issued, sum_received, sum_words}
use Rattle.gather.specs.Gather.{sent_total, taken_total, Started}
use Rattle.gather.specs.Pieces.{Copied}
use Rattle.gather.specs.declared.Tallies.{Tallies}

module _ (p : ℕ) (ws : List ℕ) (a b : ℕ) (before one : List ℕ) (r : Tallies) (c : Copied p ws a b before one r)
    (wide : sum_words p ≤ length before) where
  abbrev mid : List ℕ
  mid = set one (sum_issued p) r.sends.0

  abbrev after : List ℕ
  after = set mid (sum_received p) r.takes.0

  pub mid_length : length mid ≡ length before
  mid_length = simp length-set c.length

  pub after_length : length after ≡ length before
  after_length = simp length-set c.length

  pub started : r.ok ≡ true → (r.sends.0 ≡ sent_total p ws) × (r.takes.0 ≡ taken_total p ws) → Started p ws after
  started ok are =
      record {
        tallies = λ i h.
            get_or-set_other mid (sum_received p) i r.takes.0 0 (λ z. omega arith)
            ∙ get_or-set_other one (sum_issued p) i r.sends.0 0 (λ z. omega arith)
            ∙ c.tallies ok i h;
        issued =
            get_or-set_other mid (sum_received p) (sum_issued p) r.takes.0 0 (λ z. omega arith)
            ∙ get_or-set_same one (sum_issued p) r.sends.0 0 (omega (arith, c.length))
            ∙ are.0;
        received = get_or-set_same mid (sum_received p) r.takes.0 0 (omega (arith, mid_length)) ∙ are.1;
      }
