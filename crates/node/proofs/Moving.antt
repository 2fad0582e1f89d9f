-- What the state test says stays known: of a fresh node, after a send, a take or idle, and at another position.
use mathlib.Core.Path.{◌≡◌, refl, sym, ap, ◌∙◌, subst}
use mathlib.Core.Logic.{◌≢◌, ◌⊎◌, inl, inr}
use mathlib.Core.Bool.{Bool, true, false}
use Prim.Native.Nat.{ℕ, suc, ◌+◌, ◌^◌, ◌≤◌, ◌<◌}
use native.Mathlib.Decide.{ℕ_discrete}
use native.Mathlib.Omega.{arith}
use borrow.Author.Tests.{eq-eqb}
use Rattle.base.specs.Limits.{Limits, field_limit, taken_limit, width}
use Rattle.base.specs.declared.Kind.{Kind}
use Rattle.base.proofs.Laws.{clash, list_at, list_one}
use Rattle.tree.specs.Tree.{dimension}
use Rattle.tree.specs.Lookups.{bad_board}
use Rattle.frame.specs.Frame.{sent_number, taken_number, number_ok}
use Rattle.frame.specs.declared.Sent.{Sent}
use Rattle.frame.specs.declared.Taken.{Taken}
use Rattle.node.specs.Sums.{dims, Field, sent_in, taken_in, all_sent, all_taken}
use Rattle.node.specs.Sums.{tally, number as number_in, own}
use Rattle.node.specs.Agree.{agrees}
use Rattle.node.specs.State.{first_ok, second_ok}
use Rattle.node.specs.Change.{with_busy, at, fresh_in, no_first, no_second}
use Rattle.node.specs.Calls.{one_sent, counted, step_number}
use Rattle.node.specs.declared.Node.{Node}
use Rattle.node.proofs.Totals.{total_zero}
use Rattle.node.proofs.Valid.{Valid, step_of, step_first, step_second, Room}
use Rattle.node.proofs.Valid.{holds, FirstFits, SecondFits, first_ok_lem, second_ok_lem}
use Rattle.node.proofs.Bound.{own_low}
use Rattle.node.proofs.Depends.{alike, first_same, second_same, own_busy, own_at}
use Rattle.node.proofs.Depends.{sent_else, sent_up, taken_else, taken_up}

-- ---- a fresh node

module _ (L : Limits) (P number phase : ℕ) where
  abbrev new : Node
  new = fresh_in P number phase

  none_sent : (m : ℕ) → tally new (sent_in m) ≡ 0
  none_sent m = ap (λ (x : Sent). x.0) (list_one 0 width (sent_number 0) m)

  none_taken : (m : ℕ) → tally new (taken_in m) ≡ 0
  none_taken m = ap (λ (x : Taken). x.0) (list_one 0 width (taken_number 0) m)

  none_first : (k : ℕ) → k < width → first_ok L new k ≡ true
  none_first k h =
      first_ok_lem L new k
      (subst (FirstFits L P number k) (sym (list_at width (λ k. no_first) k _ h))
      (record { awaits = λ e. clash (sym e); numbers = zeros }))
    where
      zeros : (f : Field) → Room f → number_ok L (holds (dimension P) k no_first f) (number_in no_first f) ≡ true
      zeros (sent_in m) r = eq-eqb _ 0 (none_sent m)
      zeros (taken_in m) r = eq-eqb _ 0 (none_taken m)
      zeros all_sent r = refl
      zeros all_taken r = refl

  none_second : (k : ℕ) → k < width → second_ok L new k ≡ true
  none_second k h =
      second_ok_lem L new k
      (subst (SecondFits L P number k) (sym (list_at width (λ k. no_second) k _ h))
      (record { awaits = λ e. clash (sym e); agreed = refl; issued = refl }))

  -- fresh, in any phase
  pub fresh_facts : bad_board L P ≡ false → number < P → Valid L new
  fresh_facts b h =
      record {
        board = b;
        number = h;
        pass = inl refl;
        dim = λ p. p;
        lone = λ p. (refl, refl);
        sent = omega (arith, total_zero (λ m. tally new (sent_in m)) (dimension P) (λ m l. none_sent m));
        taken = omega (arith, total_zero (λ m. tally new (taken_in m)) (dimension P) (λ m l. none_taken m));
        others = λ m l r. (none_sent m, none_taken m);
        agreed = omega arith;
        agreed_first = λ e. refl;
        agreed_second = λ e. absurd (omega arith);
        first = none_first;
        second = none_second;
        before_first = λ k l r. absurd (omega arith);
        before_second = λ k r. absurd (omega arith);
        busy = λ e. (refl, (refl, refl));
      }

-- ---- send, take and idle

module _ (L : Limits) (n : Node) (v : Valid L n) where
  -- a busy node has passed no step
  pub busy_start : n.busy ≡ true → step_of n ≡ 0
  busy_start b = let s = v.busy b in step_first (dims n) n.pass n.dim s.0 ∙ s.1.0

  pub sent_facts : (m : ℕ) → m < dims n → n.busy ≡ true → tally n all_sent < L.sends → Valid L (one_sent n m)
  unfolding first_ok second_ok
  sent_facts m low b room =
      let s = v.busy b in
      let z = busy_start b in
      record {
        board = v.board;
        number = v.number;
        pass = v.pass;
        dim = v.dim;
        lone = v.lone;
        sent = omega (arith, sent_up n m all_sent);
        taken = v.taken;
        others = λ j l r. (sent_else n m j (λ e. omega arith) ∙ (v.others j l r).0, (v.others j l r).1);
        agreed = v.agreed;
        agreed_first = v.agreed_first;
        agreed_second = λ e. absurd (omega arith);
        first = v.first;
        second = v.second;
        before_first = λ k l r. absurd (omega arith);
        before_second = λ k r. absurd (omega arith);
        busy = v.busy;
      }

  pub taken_facts : (kind : Kind) (m : ℕ) → m < dims n → tally n all_taken < taken_limit L → Valid L (counted n kind m)
  unfolding first_ok second_ok
  taken_facts kind m low room =
      record {
        board = v.board;
        number = v.number;
        pass = inl refl;
        dim = λ h. h;
        lone = λ e. (refl, refl);
        sent = v.sent;
        taken = omega (arith, taken_up n kind m all_taken);
        others = λ j l r. ((v.others j l r).0, taken_else n kind m j (λ e. omega arith) ∙ (v.others j l r).1);
        agreed = omega arith;
        agreed_first = λ e. refl;
        agreed_second = λ e. absurd (omega arith);
        first = v.first;
        second = v.second;
        before_first = λ k l r. absurd (omega arith);
        before_second = λ k r. absurd (omega arith);
        busy = λ e. (refl, (refl, refl));
      }

  pub idle_facts : Valid L (with_busy n false)
  unfolding first_ok second_ok
  idle_facts =
      record {
        board = v.board;
        number = v.number;
        pass = v.pass;
        dim = v.dim;
        lone = v.lone;
        sent = v.sent;
        taken = v.taken;
        others = v.others;
        agreed = v.agreed;
        agreed_first = v.agreed_first;
        agreed_second = λ e. v.agreed_second e ∙ sym (own_busy n (dims n) all_taken false);
        first = v.first;
        second = v.second;
        before_first =
            λ k l r. first_same n (with_busy n false) (alike n) L k (λ j h. refl) ∙ v.before_first k l r;
        before_second =
            λ k r. second_same n (with_busy n false) (alike n) L k (λ j h. refl) refl ∙ v.before_second k r;
        busy = λ e. clash (sym e);
      }

-- ---- another position

-- what must hold for the node to be at dimension d of pass q, with total t
record Fitting (L : Limits) (n : Node) (q d t : ℕ) : Type 0 where
  pub pass : (q ≡ 1) ⊎ (q ≡ 2)
  pub dim : 0 < dims n → d < dims n
  pub lone : dims n ≡ 0 → (q ≡ 1) × (d ≡ 0)
  pub agreed : t ≤ field_limit L
  pub agreed_first : q ≡ 1 → t ≡ 0
  pub agreed_second : q ≡ 2 → t ≡ own n (dims n) all_taken
  pub before_first : (k : ℕ) → k < dims n → k < step_number (dims n) q d → agrees L n 1 k ≡ true
  pub before_second : (k : ℕ) → dims n + k < step_number (dims n) q d → (t ≡ n.agreed) × (agrees L n 2 k ≡ true)

module _ (L : Limits) (n : Node) (v : Valid L n) (idle : n.busy ≡ false) where
  at_facts : (pass dim : ℕ) (flag : Bool) (agreed : ℕ) → Fitting L n pass dim agreed
      → Valid L (at n pass dim flag agreed)
  unfolding first_ok second_ok
  at_facts pass dim flag agreed w =
      let m = at n pass dim flag agreed in
      let a = alike n in
      record {
        board = v.board;
        number = v.number;
        pass = w.pass;
        dim = w.dim;
        lone = w.lone;
        sent = v.sent;
        taken = v.taken;
        others = v.others;
        agreed = w.agreed;
        agreed_first = w.agreed_first;
        agreed_second = λ e. w.agreed_second e ∙ sym (own_at n (dims n) all_taken pass dim flag agreed);
        first = v.first;
        second = v.second;
        before_first = λ k l r. first_same n m a L k (λ j h. refl) ∙ w.before_first k l r;
        before_second =
            λ k r. let q = w.before_second k r in second_same n m a L k (λ j h. refl) q.0 ∙ q.1;
        busy = λ e. clash (sym e ∙ idle);
      }

  -- the same step
  pub stays_facts : (flag : Bool) → Valid L (at n n.pass n.dim flag n.agreed)
  stays_facts flag =
      at_facts n.pass n.dim flag n.agreed
      (record {
        pass = v.pass;
        dim = v.dim;
        lone = v.lone;
        agreed = v.agreed;
        agreed_first = v.agreed_first;
        agreed_second = v.agreed_second;
        before_first = v.before_first;
        before_second = λ k r. (refl, v.before_second k r);
      })

  -- the steps up to the position agree, where that one does
  module _ (g : agrees L n n.pass n.dim ≡ true) where
    upto_first : n.pass ≡ 1 → (k : ℕ) → k < dims n → k ≤ n.dim → agrees L n 1 k ≡ true
    upto_first e k l r = go (ℕ_discrete k n.dim)
      where
        go : Dec (k ≡ n.dim) → agrees L n 1 k ≡ true
        go (yes z) = (λ i. agrees L n (sym e i) (z i)) ∙ g
        go (no z) = let s = step_first (dims n) n.pass n.dim e in v.before_first k l (omega arith)

    upto_second : n.pass ≡ 2 → (k : ℕ) → k ≤ n.dim → agrees L n 2 k ≡ true
    upto_second e k r = go (ℕ_discrete k n.dim)
      where
        go : Dec (k ≡ n.dim) → agrees L n 2 k ≡ true
        go (yes z) = (λ i. agrees L n (sym e i) (z i)) ∙ g
        go (no z) = let s = step_second (dims n) n.pass n.dim e in v.before_second k (omega arith)

    -- the next dimension of the pass
    pub next_facts : suc n.dim < dims n → Valid L (at n n.pass (suc n.dim) true n.agreed)
    next_facts l =
        at_facts n.pass (suc n.dim) true n.agreed
        (record {
          pass = v.pass;
          dim = λ h. l;
          lone = λ e. absurd (omega arith);
          agreed = v.agreed;
          agreed_first = v.agreed_first;
          agreed_second = v.agreed_second;
          before_first = first v.pass;
          before_second = λ k r. (refl, second v.pass k r);
        })
      where
        first : (n.pass ≡ 1) ⊎ (n.pass ≡ 2) → (k : ℕ) → k < dims n
            → k < step_number (dims n) n.pass (suc n.dim) → agrees L n 1 k ≡ true
        first (inl e) k b r =
            let s = step_first (dims n) n.pass (suc n.dim) e in upto_first e k b (omega arith)
        first (inr e) k b r = let s = step_second (dims n) n.pass n.dim e in v.before_first k b (omega arith)

        second : (n.pass ≡ 1) ⊎ (n.pass ≡ 2) → (k : ℕ)
            → dims n + k < step_number (dims n) n.pass (suc n.dim) → agrees L n 2 k ≡ true
        second (inl e) k r = absurd (let s = step_first (dims n) n.pass (suc n.dim) e in omega arith)
        second (inr e) k r =
            let s = step_second (dims n) n.pass (suc n.dim) e in upto_second e k (omega arith)

    -- pass 2, with T
    pub second_facts : L.nodes ≤ 2 ^ width → dims n ≢ 0 → dims n ≤ suc n.dim → n.pass ≡ 1
        → Valid L (at n 2 0 true (own n (dims n) all_taken))
    second_facts room some last e =
        at_facts 2 0 true (own n (dims n) all_taken)
        (record {
          pass = inr refl;
          dim = λ h. h;
          lone = λ z. absurd (some z);
          agreed = own_low L room n v (dims n) (omega arith) all all_taken tt;
          agreed_first = λ z. absurd (omega arith);
          agreed_second = λ z. refl;
          before_first = λ k l r. all k l;
          before_second = λ k r. absurd (omega arith);
        })
      where
        all : (k : ℕ) → k < dims n → agrees L n 1 k ≡ true
        all k l = upto_first e k l (omega arith)
