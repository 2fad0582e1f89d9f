-- A phase that nobody has done anything in has the invariant.
use mathlib.Core.Path.{◌≡◌, refl, sym, ◌∙◌}
use mathlib.Core.Logic.{inl, inr}
use mathlib.Core.Bool.{true, false}
use mathlib.Core.Option.{none}
use mathlib.Core.List.{[]}
use Prim.Native.Nat.{ℕ, zero-le}
use native.Mathlib.Omega.{arith}
use Rattle.cycle.proofs.Sums.{sum_zero}
use Rattle.cycle.proofs.Tree.{Tree}
use Rattle.cycle.proofs.OnePhase.{State, PhaseBoard}
use Rattle.cycle.proofs.Latest.{Stands}
use Rattle.cycle.proofs.PhaseInvariant.{PhaseInvariant}

abbrev pub fresh : State
fresh = record { busy = true; tallies = λ f. 0; step = 0; flag = true; agreed = 0; stored = λ s. none }

abbrev pub start : PhaseBoard
start =
    record {
      nodes = λ a. fresh;
      items = [];
      senders = [];
      sent_between = λ y z. 0;
      taken_between = λ y z. 0;
      lossy = false;
    }

module _ {P p : ℕ} (tree : Tree P p) (limit : ℕ) where
  pub start_ok : PhaseInvariant tree limit start
  start_ok =
      record {
        nodes_ok = λ a h. record {
          stored_ok = λ s l. tt;
          agreed_is = λ q. absurd (omega arith);
          agrees = λ s l. absurd (omega arith);
          taken_total_lem = sym (sum_zero 0 p);
          sent_total_lem = sym (sum_zero 0 p);
          count_is = refl;
          step_le = zero-le;
        };
        items_ok = tt;
        below = λ i l. absurd (omega arith);
        covers = omega (arith, sum_zero 0 P);
        covers_pairs = λ y z. omega arith;
        balance = λ q. omega (arith, sum_zero 0 P);
        pairs = λ q y z. omega arith;
        sent_shells = λ y h k l. sum_zero (tree.low k y) (tree.size k y) ∙ sym (sum_zero 0 k);
        taken_shells = λ z h k l. sum_zero (tree.low k z) (tree.size k z) ∙ sym (sum_zero 0 k);
        small = zero-le;
        busy_start = λ a q. (refl, refl);
        quiet = λ a h l. absurd (omega arith);
        latest = λ q w c s h l e sd u. none_yet w s sd;
      }
    where
      none_yet : {A : Type 0} (w s : ℕ) → Stands (start.nodes w) s → A
      none_yet w s (inl l) = absurd (omega arith)
      none_yet w s (inr q) = let y : ◌≡◌ {A = ℕ} 0 1 = cc in absurd (omega arith)
