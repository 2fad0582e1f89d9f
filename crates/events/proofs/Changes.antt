-- What the calls do to a node's state as the proof sees it.
use mathlib.Core.Path.{◌≡◌, refl, sym, ap, ◌∙◌, subst}
use mathlib.Core.Logic.{◌≢◌}
use mathlib.Core.Bool.{Bool, true, false}
use mathlib.Core.Option.{Option, none, some}
use mathlib.Core.List.{List}
use Prim.Native.Nat.{ℕ, suc, ◌+◌, ◌-◌, ◌≤◌, ◌<◌}
use native.Mathlib.Decide.{ℕ_discrete, dec_lt}
use native.Mathlib.Omega.{arith}
use lib.ListN.{length, get_or, set}
use lib.Seq.{get_or-set_same, get_or-set_other}
use Rattle.base.specs.Choice.{list}
use Rattle.base.specs.Limits.{width}
use Rattle.base.specs.declared.Kind.{Kind}
use Rattle.base.proofs.Laws.{choose_yes, get_d_list}
use Rattle.tree.specs.Tree.{dimension}
use Rattle.frame.specs.Frame.{sent_number, taken_number, sent_at, taken_at}
use Rattle.frame.specs.declared.Sent.{Sent}
use Rattle.frame.specs.declared.Taken.{Taken}
use Rattle.node.specs.Sums.{Field, sent_in, taken_in, all_sent, all_taken, dims, tally, first_at, second_at, total}
use Rattle.node.specs.Change.{with_busy, at, with_first, with_second, fresh_in, no_first, no_second}
use Rattle.node.specs.Calls.{one_sent, wakes, counted, step_number}
use Rattle.node.specs.declared.Stored.{Stored}
use Rattle.node.specs.declared.Confirm.{Confirm}
use Rattle.node.specs.declared.Node.{Node}
use Rattle.cycle.proofs.Sums.{pick, update, update_same, update_other}
use Rattle.cycle.proofs.Exact.{Entry, sent_to, taken_from, sent_all, taken_all, Entries}
use Rattle.cycle.proofs.OnePhase.{State, at_step, with_stored, with_tallies, bump_sent}
use Rattle.cycle.proofs.OnePhase.{bump_taken}
use Rattle.cycle.proofs.Opening.{fresh}
use Rattle.node.proofs.Totals.{total_more, total_zero}
use Rattle.node.specs.Sums.{Has}
use Rattle.events.proofs.View.{past_end, field_of, first_entries, second_entries, first_slot, second_slot, slots, view}
use Rattle.events.proofs.View.{Alike, slots_first, slots_second, Like}

same_tal : (n n' : Node) → n'.nodes ≡ n.nodes → n'.sent ≡ n.sent → n'.taken ≡ n.taken → (f : Field)
    → tally n' f ≡ tally n f
same_tal n n' a b c (sent_in m) = rw b refl
same_tal n n' a b c (taken_in m) = rw c refl
same_tal n n' a b c all_sent = rw (a, b) refl
same_tal n n' a b c all_taken = rw (a, c) refl

-- a tally counted up in an array
module _ {A : Type 0} (sel : A → ℕ) (l : List A) (d r : A) (m : ℕ) (h : m < length l)
    (e : sel r ≡ sel (get_or l m d) + 1) where
  bump_at : (j : ℕ) → sel (get_or (set l m r) j d) ≡ update (λ i. sel (get_or l i d)) m (suc (sel (get_or l m d))) j
  bump_at j = go (ℕ_discrete j m)
    where
      go : (q : Dec (j ≡ m)) → sel (get_or (set l m r) j d) ≡ pick {A = ℕ} q (suc (sel (get_or l m d))) (sel (get_or l j d))
      go (yes q) = ap (λ i. sel (get_or (set l m r) i d)) q ∙ ap sel (get_or-set_same l m r d h) ∙ omega arith
      go (no q) = ap sel (get_or-set_other l m j r d q)

  bump_total : (p : ℕ) → m < p → total (λ j. sel (get_or (set l m r) j d)) p ≡ suc (total (λ j. sel (get_or l j d)) p)
  bump_total p b =
      let same = update_same (λ i. sel (get_or l i d)) m (suc (sel (get_or l m d))) in
      total_more (λ j. sel (get_or l j d)) (λ j. sel (get_or (set l m r) j d)) m p b (bump_at m ∙ same ∙ omega arith)
      (λ j q. bump_at j ∙ update_other (λ i. sel (get_or l i d)) m (suc (sel (get_or l m d))) j q)
      ∙ omega arith

-- a changed function on like functions
update_like : (f g : ℕ → ℕ) (m j : ℕ) → f m ≡ g m → f j ≡ g j → update f m (suc (f m)) j ≡ update g m (suc (g m)) j
update_like f g m j a b = go (ℕ_discrete j m)
  where
    go : (d : Dec (j ≡ m)) → pick {A = ℕ} d (suc (f m)) (f j) ≡ pick {A = ℕ} d (suc (g m)) (g j)
    go (yes q) = ap suc a
    go (no q) = b

module _ (p : ℕ) (n : Node) (u : State) (e : dims n ≡ p) (like : Like p (view p n) u) where
  pub like_sent : (m : ℕ) → m < p → m < length n.sent → n.busy ≡ true
      → Like p (view p (one_sent n m)) (with_tallies u true (bump_sent u.tallies m))
  like_sent m l h b =
      record {
        busy = b;
        tallies = tal;
        step = like.step;
        flag = like.flag;
        agreed = like.agreed;
        stored = like.stored;
      }
    where
      tal : (f : Entry) → Has p 0 (field_of f) → tally (one_sent n m) (field_of f) ≡ bump_sent u.tallies m f
      tal (sent_to j) q =
          bump_at (λ (x : Sent). x.0) n.sent (sent_number 0) (record { 0 = tally n (sent_in m) + 1 }) m h refl j
          ∙ update_like (λ i. tally n (sent_in i))
          (λ i. u.tallies (sent_to i)) m j (like.tallies (sent_to m) (omega arith)) (like.tallies (sent_to j) q)
      tal (taken_from j) q = like.tallies (taken_from j) q
      tal sent_all q =
          bump_total (λ (x : Sent). x.0) n.sent (sent_number 0) (record { 0 = tally n (sent_in m) + 1 }) m h refl
          (dims n) (omega arith) ∙ ap suc (like.tallies sent_all tt)
      tal taken_all q = like.tallies taken_all tt

  pub like_taken : (kind : Kind) (m : ℕ) → m < p → m < length n.taken
      → Like p (view p (counted n kind m))
      (at_step (with_tallies u (wakes kind u.busy) (bump_taken u.tallies m)) 0 true 0)
  like_taken kind m l h =
      record { busy = ap (wakes kind) like.busy; tallies = tal; step = refl; flag = refl; agreed = refl; stored = like.stored }
    where
      tal : (f : Entry) → Has p 0 (field_of f)
          → tally (counted n kind m) (field_of f) ≡ bump_taken u.tallies m f
      tal (sent_to j) q = like.tallies (sent_to j) q
      tal (taken_from j) q =
          bump_at (λ (x : Taken). x.0) n.taken (taken_number 0) (record { 0 = tally n (taken_in m) + 1 }) m h refl j
          ∙ update_like (λ i. tally n (taken_in i))
          (λ i. u.tallies (taken_from i)) m j (like.tallies (taken_from m) (omega arith))
          (like.tallies (taken_from j) q)
      tal sent_all q = like.tallies sent_all tt
      tal taken_all q =
          bump_total (λ (x : Taken). x.0) n.taken (taken_number 0) (record { 0 = tally n (taken_in m) + 1 }) m h refl
          (dims n) (omega arith) ∙ ap suc (like.tallies taken_all tt)

  pub like_idle : Like p (view p (with_busy n false)) (with_tallies u false u.tallies)
  like_idle =
      record {
        busy = refl;
        tallies = λ f q. same_tal n (with_busy n false) refl refl refl (field_of f)
            ∙ like.tallies f q;
        step = like.step;
        flag = like.flag;
        agreed = like.agreed;
        stored = like.stored;
      }

  pub like_at : (pass k : ℕ) (f : Bool) (t s : ℕ) → step_number p pass k ≡ s
      → Like p (view p (at n pass k f t)) (at_step u s f t)
  like_at pass k f t s q =
      record {
        busy = like.busy;
        tallies = λ g q. same_tal n (at n pass k f t) refl refl refl (field_of g)
            ∙ like.tallies g q;
        step = q;
        flag = refl;
        agreed = refl;
        stored = like.stored;
      }

  pub like_first : (k : ℕ) (x : Stored) (y : Entries) → k < p → k < length n.first → x.present ≡ true
      → ((f : Entry) → Has p k (field_of f) → first_entries x f ≡ y f)
      → Like p (view p (with_first n (set n.first k x))) (with_stored u k y)
  like_first k x y l h pr q =
      record {
        busy = like.busy;
        tallies =
            λ f q. same_tal n (with_first n (set n.first k x)) refl refl refl (field_of f)
            ∙ like.tallies f q;
        step = like.step;
        flag = like.flag;
        agreed = like.agreed;
        stored = st;
      }
    where
      st : (s : ℕ) → s < p + p → Alike p s (slots p (with_first n (set n.first k x)) s)
          (update u.stored k (some y) s)
      st s b = go (ℕ_discrete s k)
        where
          other : s ≢ k → (d : Dec (s < p))
              → pick {A = Option Entries} d (first_slot (first_at (with_first n (set n.first k x)) s))
              (second_slot (second_at n (s - p))) ≡ pick {A = Option Entries} d (first_slot (first_at n s))
              (second_slot (second_at n (s - p)))
          other z (yes d) = ap first_slot (get_or-set_other n.first k s x past_end z)
          other z (no d) = refl

          go : (d : Dec (s ≡ k)) → Alike p s (slots p (with_first n (set n.first k x)) s)
              (pick {A = Option Entries} d (some y) (u.stored s))
          go (yes z) =
              subst (λ s. Alike p s (slots p (with_first n (set n.first k x)) s) (some y)) (sym z)
              (subst (λ o. Alike p k o (some y))
              (sym (slots_first p (with_first n (set n.first k x)) k l
              ∙ ap first_slot (get_or-set_same n.first k x past_end h) ∙ choose_yes (some (first_entries x)) none pr)) q)
          go (no z) = subst (λ o. Alike p s o (u.stored s)) (sym (other z (dec_lt s p))) (like.stored s b)

  pub like_second : (k : ℕ) (x : Confirm) (y : Entries) → k < p → k < length n.second → x.present ≡ true
      → ((f : Entry) → Has p (p + k) (field_of f) → second_entries x f ≡ y f)
      → Like p (view p (with_second n (set n.second k x))) (with_stored u (p + k) y)
  like_second k x y l h pr q =
      record {
        busy = like.busy;
        tallies =
            λ f q. same_tal n (with_second n (set n.second k x)) refl refl refl (field_of f)
            ∙ like.tallies f q;
        step = like.step;
        flag = like.flag;
        agreed = like.agreed;
        stored = st;
      }
    where
      st : (s : ℕ) → s < p + p → Alike p s (slots p (with_second n (set n.second k x)) s)
          (update u.stored (p + k) (some y) s)
      st s b = go (ℕ_discrete s (p + k))
        where
          other : s ≢ p + k → (d : Dec (s < p)) → pick {A = Option Entries} d (first_slot (first_at n s))
              (second_slot (second_at (with_second n (set n.second k x)) (s - p))) ≡ pick {A = Option Entries} d
              (first_slot (first_at n s)) (second_slot (second_at n (s - p)))
          other z (yes d) = refl
          other z (no d) = ap second_slot (get_or-set_other n.second k (s - p) x no_second (λ w. z (omega arith)))

          go : (d : Dec (s ≡ p + k)) → Alike p s (slots p (with_second n (set n.second k x)) s)
              (pick {A = Option Entries} d (some y) (u.stored s))
          go (yes z) =
              subst (λ s. Alike p s (slots p (with_second n (set n.second k x)) s) (some y)) (sym z)
              (subst (λ o. Alike p (p + k) o (some y))
              (sym (slots_second p (with_second n (set n.second k x)) k
              ∙ ap second_slot (get_or-set_same n.second k x no_second h) ∙ choose_yes (some (second_entries x)) none pr))
              q)
          go (no z) = subst (λ o. Alike p s o (u.stored s)) (sym (other z (dec_lt s p))) (like.stored s b)

-- ---- a fresh state

pub like_fresh : (p P i ph : ℕ) → dimension P ≡ p → p ≤ width → Like p (view p (fresh_in P i ph)) fresh
like_fresh p P i ph e l = record { busy = refl; tallies = tal; step = refl; flag = refl; agreed = refl; stored = st }
  where
    s0 : (j : ℕ) → j < p → sent_at (list 0 width (λ m. sent_number 0)) j ≡ 0
    s0 j h = ap (λ (x : Sent). x.0) (get_d_list 0 width (λ m. sent_number 0) j (sent_number 0) (omega arith))

    t0 : (j : ℕ) → j < p → taken_at (list 0 width (λ m. taken_number 0)) j ≡ 0
    t0 j h = ap (λ (x : Taken). x.0) (get_d_list 0 width (λ m. taken_number 0) j (taken_number 0) (omega arith))

    tal : (f : Entry) → Has p 0 (field_of f) → tally (fresh_in P i ph) (field_of f) ≡ 0
    tal (sent_to j) h = s0 j h.1
    tal (taken_from j) h = t0 j h.1
    tal sent_all h =
        total_zero (λ j. sent_at (list 0 width (λ m. sent_number 0)) j) (dimension P) (λ j q. s0 j (omega arith))
    tal taken_all h =
        total_zero (λ j. taken_at (list 0 width (λ m. taken_number 0)) j) (dimension P) (λ j q. t0 j (omega arith))

    none1 : (k : ℕ) → k < p → first_slot (get_or (list 0 width (λ k. no_first)) k past_end) ≡ none
    none1 k h = ap first_slot (get_d_list 0 width (λ k. no_first) k past_end (omega arith))

    none2 : (k : ℕ) → k < p → second_slot (get_or (list 0 width (λ k. no_second)) k no_second) ≡ none
    none2 k h = ap second_slot (get_d_list 0 width (λ k. no_second) k no_second (omega arith))

    st : (s : ℕ) → s < p + p → Alike p s (slots p (fresh_in P i ph) s) none
    st s b = go (dec_lt s p)
      where
        go : (d : Dec (s < p)) → Alike p s
            (pick {A = Option Entries} d (first_slot (get_or (list 0 width (λ k. no_first)) s past_end))
            (second_slot (get_or (list 0 width (λ k. no_second)) (s - p) no_second))) none
        go (yes d) = subst (λ o. Alike p s o none) (sym (none1 s d)) tt
        go (no d) = subst (λ o. Alike p s o none) (sym (none2 (s - p) (omega arith))) tt
