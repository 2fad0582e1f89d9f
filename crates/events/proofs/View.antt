-- A node's state as the proof sees it: sums and agreement.
use mathlib.Core.Path.{◌≡◌, refl, sym, ap, ◌∙◌, subst}
use mathlib.Core.Bool.{Bool, true, false}
use mathlib.Core.Option.{Option, none, some}
use mathlib.Core.List.{[]}
use Prim.Native.Nat.{ℕ, zero, suc, ◌+◌, ◌-◌, ◌≤◌, ◌<◌}
use native.Mathlib.Decide.{dec_lt}
use native.Mathlib.Omega.{arith}
use Rattle.base.specs.Choice.{choose}
use Rattle.base.specs.Limits.{Limits, field_limit}
use Rattle.base.proofs.Laws.{choose_yes}
use Rattle.tree.specs.Tree.{awaited}
use Rattle.frame.specs.Frame.{sent_number, taken_number}
use Rattle.node.specs.Sums.{Field, sent_in, taken_in, all_sent, all_taken, dims}
use Rattle.node.specs.Sums.{tally, number, first_at, second_at, own, own_issued}
use Rattle.node.specs.Agree.{is_none, agrees}
use Rattle.node.specs.Calls.{step_number}
use Rattle.node.specs.declared.Stored.{Stored}
use Rattle.node.specs.declared.Confirm.{Confirm}
use Rattle.node.specs.declared.Node.{Node}
use Rattle.cycle.proofs.Sums.{pick}
use Rattle.cycle.proofs.Exact.{Entry, sent_to, taken_from, sent_all, taken_all, Entries, entry_of, own_sums}
use Rattle.cycle.proofs.OnePhase.{State, confirming, Agrees, Above}
use Rattle.node.specs.Sums.{Has}
use Rattle.node.proofs.Clauses.{has_lower, first_agrees, second_agrees}

-- what an array of stored frames gives past its end
abbrev pub past_end : Stored
past_end = record { present = false; sent = []; taken = []; issued = sent_number 0; received = taken_number 0 }

abbrev pub field_of : Entry → Field
field_of (sent_to m) = sent_in m
field_of (taken_from m) = taken_in m
field_of sent_all = all_sent
field_of taken_all = all_taken

-- the numbers of a stored frame
abbrev pub first_entries : Stored → Entries
first_entries x f = number x (field_of f)

abbrev pub second_entries : Confirm → Entries
second_entries x = confirming x.agreed x.issued.0

abbrev pub first_slot : Stored → Option Entries
first_slot x = choose x.present (some (first_entries x)) none

abbrev pub second_slot : Confirm → Option Entries
second_slot x = choose x.present (some (second_entries x)) none

-- what is stored for each step
abbrev pub slots : ℕ → Node → ℕ → Option Entries
slots p n s = pick (dec_lt s p) (first_slot (first_at n s)) (second_slot (second_at n (s - p)))

abbrev pub view : ℕ → Node → State
view p n =
    record {
      busy = n.busy;
      tallies = λ f. tally n (field_of f);
      step = step_number p n.pass n.dim;
      flag = n.flag;
      agreed = n.agreed;
      stored = slots p n;
    }

-- two stored frames that say the same, where a frame of step s speaks
abbrev pub Alike : ℕ → ℕ → Option Entries → Option Entries → Type 0
Alike p s none none = Unit {0}
Alike p s none (some y) = ⊥
Alike p s (some x) none = ⊥
Alike p s (some x) (some y) = (f : Entry) → Has p s (field_of f) → x f ≡ y f

-- two states that say the same, for a board of dimension p
pub record Like (p : ℕ) (v u : State) : Type 0 where
  pub busy : v.busy ≡ u.busy
  pub tallies : (f : Entry) → Has p 0 (field_of f) → v.tallies f ≡ u.tallies f
  pub step : v.step ≡ u.step
  pub flag : v.flag ≡ u.flag
  pub agreed : v.agreed ≡ u.agreed
  pub stored : (s : ℕ) → s < p + p → Alike p s (v.stored s) (u.stored s)

-- ---- slots

pub slots_first : (p : ℕ) (n : Node) (k : ℕ) → k < p → slots p n k ≡ first_slot (first_at n k)
slots_first p n k h = go (dec_lt k p)
  where
    go : (d : Dec (k < p)) → pick {A = Option Entries} d (first_slot (first_at n k))
        (second_slot (second_at n (k - p))) ≡ first_slot (first_at n k)
    go (yes d) = refl
    go (no d) = absurd (d h)

pub slots_second : (p : ℕ) (n : Node) (k : ℕ) → slots p n (p + k) ≡ second_slot (second_at n k)
slots_second p n k = go (dec_lt (p + k) p)
  where
    e : p + k - p ≡ k
    e = omega arith

    go : (d : Dec (p + k < p)) → pick {A = Option Entries} d (first_slot (first_at n (p + k)))
        (second_slot (second_at n (p + k - p))) ≡ second_slot (second_at n k)
    go (yes d) = absurd (omega arith)
    go (no d) = ap (λ i. second_slot (second_at n i)) e

fl_first : (x : Stored) (f : Entry) (t : Bool)
    → choose t (number x (field_of f)) 0 ≡ entry_of (choose t (some (first_entries x)) none) f
fl_first x f true = refl
fl_first x f false = refl

fl_second : (x : Confirm) (t : Bool)
    → choose t x.issued.0 0 ≡ entry_of (choose t (some (second_entries x)) none) sent_all
fl_second x true = refl
fl_second x false = refl

pub own_is : (p : ℕ) (n : Node) (k : ℕ) → k ≤ p → (f : Entry)
    → own n k (field_of f) ≡ own_sums (view p n).tallies (view p n).stored k f
unfolding own
own_is p n zero l f = refl
own_is p n (suc k) l f =
    let r = own_is p n k (omega arith) f in
    let z = fl_first (first_at n k) f (first_at n k).present
    ∙ ap (λ o. entry_of o f) (sym (slots_first p n k (omega arith))) in
    omega arith

pub issued_is : (p : ℕ) (n : Node) (k : ℕ)
    → own_issued n k ≡ own_sums (view p n).tallies (λ i. (view p n).stored (p + i)) k sent_all
unfolding own_issued
issued_is p n zero = refl
issued_is p n (suc k) =
    let r = issued_is p n k in
    let z = fl_second (second_at n k) (second_at n k).present ∙ ap (λ o. entry_of o sent_all) (sym (slots_second p n k)) in
    omega arith

-- ---- sums of like states

alike_entry : (p s : ℕ) (a b : Option Entries) → Alike p s a b → (f : Entry) → Has p s (field_of f)
    → entry_of a f ≡ entry_of b f
alike_entry p s none none h f q = refl
alike_entry p s none (some y) h f q = absurd h
alike_entry p s (some x) none h f q = absurd h
alike_entry p s (some x) (some y) h f q = h f q

module _ (p : ℕ) (v u : State) (like : Like p v u) where
  pub own_like : (k : ℕ) → k ≤ p → (f : Entry) → Has p k (field_of f)
      → own_sums v.tallies v.stored k f ≡ own_sums u.tallies u.stored k f
  own_like zero l f h = like.tallies f h
  own_like (suc k) l f h =
      let q = has_lower p k (suc k) (field_of f) (omega arith) h in
      let r = own_like k (omega arith) f q in
      let z = alike_entry p k (v.stored k) (u.stored k) (like.stored k (omega arith)) f q in
      omega arith

  pub own2_like : (k : ℕ) → k ≤ p → own_sums v.tallies (λ i. v.stored (p + i)) k sent_all ≡ own_sums u.tallies
      (λ i. u.stored (p + i)) k sent_all
  own2_like zero l = like.tallies sent_all tt
  own2_like (suc k) l =
      let r = own2_like k (omega arith) in
      let z = alike_entry p (p + k) (v.stored (p + k)) (u.stored (p + k))
      (like.stored (p + k) (omega arith)) sent_all tt in
      omega arith

  above_shown : (s : ℕ) (f : Entry) → Above s p f → Has p s (field_of f)
  above_shown s (sent_to j) h = omega arith
  above_shown s (taken_from j) h = omega arith
  above_shown s sent_all h = tt
  above_shown s taken_all h = tt

  pub agree_like : (limit s : ℕ) (o : Option ℕ) → s < p + p → Agrees p limit v s o → Agrees p limit u s o
  agree_like limit s o b Agrees.alone = Agrees.alone
  agree_like limit s o b (Agrees.first w x l g c1 c2 c3 c4) =
      go (u.stored s) refl (subst (λ o. Alike p s o (u.stored s)) g (like.stored s b))
    where
      go : (q : Option Entries) → u.stored s ≡ q → Alike p s (some x) q → Agrees p limit u s (some w)
      go none e h = absurd h
      go (some y) e h =
          Agrees.first w y l e (sym (own_like s (omega arith) (sent_to s) (omega arith)) ∙ c1
          ∙ h (taken_from s) (omega arith))
          (sym (own_like s (omega arith) (taken_from s) (omega arith)) ∙ c2 ∙ h (sent_to s) (omega arith))
          (λ f a. omega (arith, own_like s (omega arith) f (above_shown s f a), h f (above_shown s f a), c3 f a))
          (λ z. omega (
            arith,
            own_like s (omega arith) sent_all tt,
            own_like s (omega arith) taken_all tt,
            h sent_all tt,
            h taken_all tt,
            c4 z,
          ))
  agree_like limit s o b (Agrees.second w x l g c3 c5 c6) =
      go (u.stored s) refl (subst (λ o. Alike p s o (u.stored s)) g (like.stored s b))
    where
      go : (q : Option Entries) → u.stored s ≡ q → Alike p s (some x) q → Agrees p limit u s (some w)
      go none e h = absurd h
      go (some y) e h =
          Agrees.second w y l e (omega (arith, own2_like (s - p) (omega arith), h sent_all tt))
          (sym (h taken_all tt) ∙ c5 ∙ like.agreed)
          (λ z. omega (arith, own2_like (s - p) (omega arith), h sent_all tt, c6 z, like.agreed))

-- ---- agreement, as the proof has it

pub agree_first : (L : Limits) (p : ℕ) (n : Node) (k : ℕ) → dims n ≡ p → k < p → agrees L n 1 k ≡ true
    → Agrees p (field_limit L) (view p n) k (awaited n.nodes k n.number)
agree_first L p n k e l a = go (awaited n.nodes k n.number) refl
  where
    go : (o : Option ℕ) → awaited n.nodes k n.number ≡ o → Agrees p (field_limit L) (view p n) k o
    go none q = Agrees.alone
    go (some w) q =
        let c = first_agrees L n k a (ap is_none q) in
        Agrees.first w (first_entries (first_at n k)) l
        (slots_first p n k l ∙ choose_yes (some (first_entries (first_at n k))) none c.stored)
        (sym (own_is p n k (omega arith) (sent_to k)) ∙ c.sent)
        (sym (own_is p n k (omega arith) (taken_from k)) ∙ c.taken)
        (λ f h. omega (arith, own_is p n k (omega arith) f, c.within (field_of f) (shown f h))) (λ z. omega (
          arith,
          own_is p n k (omega arith) sent_all,
          own_is p n k (omega arith) taken_all,
          c.last (z ∙ sym e),
        ))
      where
        shown : (f : Entry) → Above k p f → Has (dims n) (suc k) (field_of f)
        shown (sent_to j) h = omega arith
        shown (taken_from j) h = omega arith
        shown sent_all h = tt
        shown taken_all h = tt

pub agree_second : (L : Limits) (p : ℕ) (n : Node) (k : ℕ) → dims n ≡ p → k < p → agrees L n 2 k ≡ true
    → Agrees p (field_limit L) (view p n) (p + k) (awaited n.nodes k n.number)
agree_second L p n k e l a = go (awaited n.nodes k n.number) refl
  where
    z : p + k - p ≡ k
    z = omega arith

    own2 : own_sums (view p n).tallies (λ i. (view p n).stored (p + i)) (p + k - p) sent_all ≡ own_issued n k
    own2 = ap (λ i. own_sums (view p n).tallies (λ i. (view p n).stored (p + i)) i sent_all) z ∙ sym (issued_is p n k)

    go : (o : Option ℕ) → awaited n.nodes k n.number ≡ o → Agrees p (field_limit L) (view p n) (p + k) o
    go none q = Agrees.alone
    go (some w) q =
        let c = second_agrees L n k a (ap is_none q) in
        Agrees.second w (second_entries (second_at n k)) (omega arith)
        (slots_second p n k ∙ choose_yes (some (second_entries (second_at n k))) none c.stored)
        (omega (arith, own2, c.within)) c.same (λ u. omega (arith, own2, c.last (omega arith)))
