-- A step that agrees in the proof agrees in the definitions.
use mathlib.Core.Path.{◌≡◌, refl, sym, ap, ◌∙◌, subst}
use mathlib.Core.Bool.{Bool, true, false}
use mathlib.Core.Option.{Option, none, some}
use Prim.Native.Nat.{ℕ, suc, ◌+◌, ◌-◌, ◌≤◌, ◌<◌}
use native.Mathlib.Omega.{arith}
use Rattle.base.specs.Choice.{choose}
use Rattle.base.specs.Limits.{Limits, field_limit}
use Rattle.base.proofs.Laws.{clash}
use Rattle.tree.specs.Tree.{dimension, awaited}
use Rattle.node.specs.Sums.{Field, sent_in, taken_in, all_sent, all_taken, dims, number, first_at, second_at, own, own_issued}
use Rattle.node.specs.Agree.{is_none, agrees}
use Rattle.node.specs.declared.Node.{Node}
use Rattle.cycle.proofs.Exact.{Entry, sent_to, taken_from, sent_all, taken_all, Entries, own_sums}
use Rattle.cycle.proofs.OnePhase.{State, dim_of, Agrees, Above}
use Rattle.cycle.proofs.AtRest.{dim_first, dim_second}
use Rattle.cycle.proofs.Ledger.{Ledger, Reached}
use Rattle.cycle.proofs.Events.{state_of}
use Rattle.events.proofs.Setting.{Setting, tree, awaited_is}
use Rattle.node.specs.Sums.{Has}
use Rattle.node.proofs.Clauses.{first_step, second_step}
use Rattle.events.proofs.View.{field_of, first_entries, second_entries, view, Alike, Like, slots_first, slots_second}
use Rattle.events.proofs.View.{own_is, issued_is, agree_like}
use Rattle.events.proofs.Sim.{Holds}

alike_sym : (p s : ℕ) (a b : Option Entries) → Alike p s a b → Alike p s b a
alike_sym p s none none h = tt
alike_sym p s none (some y) h = absurd h
alike_sym p s (some x) none h = absurd h
alike_sym p s (some x) (some y) h = λ f q. sym (h f q)

like_sym : (p : ℕ) (v u : State) → Like p v u → Like p u v
like_sym p v u h =
    record {
      busy = sym h.busy;
      tallies = λ f q. sym (h.tallies f q);
      step = sym h.step;
      flag = sym h.flag;
      agreed = sym h.agreed;
      stored = λ s l. alike_sym p s (v.stored s) (u.stored s) (h.stored s l);
    }

slot_yes : (t : Bool) (y x : Entries) → choose t (some y) none ≡ some x → (t ≡ true) × (y ≡ x)
slot_yes true y x e = (refl, cc)
slot_yes false y x e = let z : ◌≡◌ {A = ℕ} 0 1 = cc in absurd (omega arith)

-- a step that agrees in the proof agrees in the definitions
agree_back_first : (L : Limits) (p : ℕ) (n : Node) (k : ℕ) (o : Option ℕ) → dims n ≡ p
    → awaited n.nodes k n.number ≡ o → k < p → Agrees p (field_limit L) (view p n) k o → agrees L n 1 k ≡ true
agree_back_first L p n k o e q l Agrees.alone = first_step L n k (λ a. clash (sym (ap is_none q) ∙ a))
agree_back_first L p n k o e q l (Agrees.second w x m g c3 c5 c6) = absurd (omega arith)
agree_back_first L p n k o e q l (Agrees.first w x m g c1 c2 c3 c4) =
    first_step L n k (λ a.
    record {
      stored = s.0;
      sent = own_is p n k (omega arith) (sent_to k) ∙ c1 ∙ sym (val (taken_from k));
      taken = own_is p n k (omega arith) (taken_from k) ∙ c2 ∙ sym (val (sent_to k));
      within = within;
      last =
          λ z. omega (
            arith,
            own_is p n k (omega arith) sent_all,
            own_is p n k (omega arith) taken_all,
            val sent_all,
            val taken_all,
            c4 (z ∙ e),
          );
    })
  where
    s : ((first_at n k).present ≡ true) × (first_entries (first_at n k) ≡ x)
    s = slot_yes (first_at n k).present (first_entries (first_at n k)) x (sym (slots_first p n k l) ∙ g)

    val : (f : Entry) → number (first_at n k) (field_of f) ≡ x f
    val f =
        ap (λ (h : Entries). h f) (slot_yes (first_at n k).present (first_entries (first_at n k)) x
        (sym (slots_first p n k l) ∙ g)).1

    low : (f : Entry) → Above k p f → own n k (field_of f) + number (first_at n k) (field_of f) ≤ field_limit L
    low f h = omega (arith, own_is p n k (omega arith) f, val f, c3 f h)

    within : (f : Field) → Has (dims n) (suc k) f → own n k f + number (first_at n k) f ≤ field_limit L
    within (sent_in m) h = low (sent_to m) (omega arith)
    within (taken_in m) h = low (taken_from m) (omega arith)
    within all_sent h = low sent_all tt
    within all_taken h = low taken_all tt

agree_back_second : (L : Limits) (p : ℕ) (n : Node) (k : ℕ) (o : Option ℕ) → dims n ≡ p
    → awaited n.nodes k n.number ≡ o
    → k < p → Agrees p (field_limit L) (view p n) (p + k) o → agrees L n 2 k ≡ true
agree_back_second L p n k o e q l Agrees.alone = second_step L n k (λ a. clash (sym (ap is_none q) ∙ a))
agree_back_second L p n k o e q l (Agrees.first w x m g c1 c2 c3 c4) = absurd (omega arith)
agree_back_second L p n k o e q l (Agrees.second w x m g c3 c5 c6) =
    second_step L n k (λ a.
    record {
      stored = s.0;
      within = omega (arith, own2, val sent_all, c3);
      same = val taken_all ∙ c5;
      last = λ z. omega (arith, own2, val sent_all, c6 (omega arith));
    })
  where
    s : ((second_at n k).present ≡ true) × (second_entries (second_at n k) ≡ x)
    s = slot_yes (second_at n k).present (second_entries (second_at n k)) x (sym (slots_second p n k) ∙ g)

    val : (f : Entry) → second_entries (second_at n k) f ≡ x f
    val f =
        ap (λ (h : Entries). h f) (slot_yes (second_at n k).present (second_entries (second_at n k)) x
        (sym (slots_second p n k) ∙ g)).1

    z₀ : p + k - p ≡ k
    z₀ = omega arith

    own2 : own_issued n k ≡ own_sums (view p n).tallies (λ i. (view p n).stored (p + i)) (p + k - p) sent_all
    own2 = issued_is p n k ∙ ap (λ i. own_sums (view p n).tallies (λ i. (view p n).stored (p + i)) i sent_all) (sym z₀)

module _ {L : Limits} {P : ℕ} (setting : Setting L P) where
  abbrev p : ℕ
  p = dimension P

  module _ (B : Ledger) (r : Reached (tree setting) (field_limit L) B) (a c : ℕ) (h : a < P) (n : Node)
      (o : Holds setting a c n (state_of B a)) where
    dims_is : dims n ≡ p
    dims_is = ap dimension o.nodes

    awaits : (k : ℕ) → awaited n.nodes k n.number ≡ (tree setting).awaited k a
    awaits k = rw (o.nodes, o.number) (awaited_is setting k a)

    -- a step that agrees in the proof agrees in the definitions
    pub agrees_first : (k : ℕ) → k < dimension P
        → Agrees (dimension P) (field_limit L) (state_of B a) k ((tree setting).awaited (dim_of (dimension P) k) a)
        → agrees L n 1 k ≡ true
    agrees_first k l g =
        agree_back_first L p n k ((tree setting).awaited k a) dims_is (awaits k) l
        (agree_like p (state_of B a) (view p n) (like_sym p (view p n) (state_of B a) o.like) (field_limit L) k
        ((tree setting).awaited k a) (omega arith)
        (subst (λ d. Agrees p (field_limit L) (state_of B a) k ((tree setting).awaited d a)) (dim_first p k l) g))

    pub agrees_second : (k : ℕ) → k < dimension P → Agrees (dimension P) (field_limit L) (state_of B a) (dimension P + k)
        ((tree setting).awaited (dim_of (dimension P) (dimension P + k)) a) → agrees L n 2 k ≡ true
    agrees_second k l g =
        agree_back_second L p n k ((tree setting).awaited k a) dims_is (awaits k) l
        (agree_like p (state_of B a) (view p n) (like_sym p (view p n) (state_of B a) o.like) (field_limit L) (p + k)
        ((tree setting).awaited k a) (omega arith)
        (subst (λ d. Agrees p (field_limit L) (state_of B a) (p + k) ((tree setting).awaited d a)) (dim_second p k) g))
