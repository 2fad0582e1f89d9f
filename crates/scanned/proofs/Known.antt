-- What a scan says of the words.
use mathlib.Core.Path.{◌≡◌, refl, sym, ap, ◌∙◌}
use mathlib.Core.Bool.{Bool, true, false, not}
use mathlib.Core.List.{List}
use mathlib.Core.Logic.{◌⊎◌, inl, inr}
use Prim.Native.Nat.{ℕ, suc, ◌<◌}
use borrow.Author.Tests.{not-true, not-false}
use Rattle.base.specs.Choice.{both}
use Rattle.base.specs.Limits.{Limits}
use Rattle.base.proofs.Laws.{both_true}
use Rattle.node.specs.Sums.{dims, all_sent, all_taken, tally, own, own_issued}
use Rattle.node.specs.Agree.{is_alone, no_clause}
use Rattle.node.specs.State.{valid}
use Rattle.node.proofs.Valid.{Valid, valid_known}
use Rattle.layout.specs.Held.{unpacked, is_ready, is_whole}
use Rattle.walked.specs.Walk.{confirm_reach}
use Rattle.scanned.specs.Scan.{passes, clause_here, Scanned}
use Rattle.scanned.specs.declared.Scan.{Scan}

pub record Known (L : Limits) (room : ℕ) (looks : Bool) (ws : List ℕ) (s : Scan) : Type 0 where
  pub passes : passes L room ws ≡ true
  pub ready : is_ready L room ws ≡ true
  pub whole : is_whole L ws ≡ true
  -- as the first check of a call has it
  pub ok : not (valid L (unpacked ws)) ≡ false
  pub valid : valid L (unpacked ws) ≡ true
  pub state : Valid L (unpacked ws)
  pub sends : s.sends.0 ≡ tally (unpacked ws) all_sent
  pub takes : s.takes.0 ≡ tally (unpacked ws) all_taken
  pub issued : s.issued.0 ≡ own_issued (unpacked ws) (confirm_reach (unpacked ws))
  pub clause : looks ≡ true → (unpacked ws).dim < dims (unpacked ws) → s.clause ≡ clause_here L (unpacked ws)
  pub received : looks ≡ true → (unpacked ws).dim < dims (unpacked ws) → is_alone (unpacked ws) (unpacked ws).dim ≡ false
      → (unpacked ws).pass ≡ 1 → s.clause ≡ no_clause → s.received.0 ≡ own (unpacked ws) (suc (unpacked ws).dim) all_taken
  pub dims : s.dims ≡ dims (unpacked ws)

module _ (L : Limits) (room : ℕ) (looks : Bool) (ws : List ℕ) (s : Scan) (r : Scanned L room looks ws s) where
  -- the words hold no state, or one that does not pass
  pub failed : not s.ok ≡ true
      → (is_ready L room ws ≡ false) ⊎ ((is_ready L room ws ≡ true) × (not (valid L (unpacked ws)) ≡ true))
  failed e = go (is_ready L room ws) refl (sym r.ok ∙ not-true _ e)
    where
      go : (t : Bool) → is_ready L room ws ≡ t → both t (valid L (unpacked ws)) ≡ false
          → (is_ready L room ws ≡ false) ⊎ ((is_ready L room ws ≡ true) × (not (valid L (unpacked ws)) ≡ true))
      go true q f = inr (q, ap not f)
      go false q f = inl q

  pub passed : not s.ok ≡ false → Known L room looks ws s
  passed e =
      let t : s.ok ≡ true = not-false _ e in
      let p : passes L room ws ≡ true = sym r.ok ∙ t in
      let q = both_true (is_ready L room ws) (valid L (unpacked ws)) p in
      let w = both_true (is_whole L ws) _ q.0 in
      record {
        passes = p;
        ready = q.0;
        whole = w.0;
        ok = ap not q.1;
        valid = q.1;
        state = valid_known L (unpacked ws) q.1;
        dims = r.dims t;
        sends = r.sends t;
        takes = r.takes t;
        issued = r.issued t;
        clause = r.clause t;
        received = r.received t;
      }
