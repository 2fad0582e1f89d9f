-- What the state test says stays known when a frame that the reader accepts is stored where it is awaited.
use mathlib.Core.Path.{◌≡◌, refl, sym, ap, ◌∙◌, subst}
use mathlib.Core.Logic.{◌⊎◌, inl, inr}
use mathlib.Core.Bool.{Bool, true, false}
use mathlib.Core.List.{List}
use Prim.Native.Nat.{ℕ, ◌+◌, ◌≤◌, ◌<◌}
use native.Mathlib.Decide.{ℕ_discrete, dec_lt}
use native.Mathlib.Omega.{arith}
use lib.ListN.{length, set}
use lib.Seq.{set_out}
use lib.Dec.{eqb}
use borrow.Author.Tests.{le-leb, eq-eqb}
use Rattle.base.specs.Choice.{both}
use Rattle.base.specs.Limits.{Limits, field_limit, width}
use Rattle.tree.specs.Tree.{dimension, awaited}
use Rattle.frame.specs.Frame.{sent_at, taken_at, has_shell, number_ok}
use Rattle.frame.specs.declared.Frame.{Frame}
use Rattle.frame.proofs.RoundTripChecks.{Numbers, numbers_known}
use Rattle.frame.proofs.RoundTripAccepted.{Accepted}
use Rattle.node.specs.Sums.{dims, first_at, second_at, Field, sent_in, taken_in, all_sent, all_taken}
use Rattle.node.specs.Sums.{number as number_in, own}
use Rattle.node.specs.Agree.{is_none}
use Rattle.node.specs.State.{first_ok, second_ok}
use Rattle.node.specs.Change.{at, with_first, with_second}
use Rattle.node.specs.Calls.{step_number, first_of, second_of}
use Rattle.node.specs.declared.Stored.{Stored}
use Rattle.node.specs.declared.Confirm.{Confirm}
use Rattle.node.specs.declared.Node.{Node}
use Rattle.node.proofs.Valid.{Valid, step_of, step_first, step_second, Room}
use Rattle.node.proofs.Valid.{holds, FirstFits, SecondFits, first_fits, first_ok_lem, second_fits, second_ok_lem}
use Rattle.node.proofs.Depends.{alike, own_same, first_same, second_same}
use Rattle.node.proofs.Depends.{store_first, first_there, first_elsewhere}
use Rattle.node.proofs.Depends.{store_second, second_there, second_elsewhere}
use Rattle.node.proofs.Depends.{GotWay, first_back, first_stay, second_back, second_stay}
use Rattle.node.proofs.Moving.{busy_start}

-- a frame that the reader accepts may be held where it is awaited
module _ (L : Limits) (P a : ℕ) (f : Frame) (ok : Accepted L P f) (awaits : is_none (awaited P f.dim a) ≡ false) where
  numbers : Numbers L (dimension P) f
  numbers = numbers_known L (dimension P) f ok.numbers

  first_held_lem : f.pass ≡ 1 → FirstFits L P a f.dim (first_of f)
  first_held_lem e = record { awaits = λ q. (ok.dim, awaits); numbers = in_bounds }
    where
      one : eqb f.pass 1 ≡ true
      one = eq-eqb f.pass 1 e

      has : ℕ → Bool
      has m = has_shell (dimension P) f.dim m

      shell : (m x : ℕ) → number_ok L (both (eqb f.pass 1) (has m)) x ≡ true → number_ok L (has m) x ≡ true
      shell m x h = subst (λ t. number_ok L (both t (has m)) x ≡ true) one h

      in_bounds : (g : Field) → Room g
          → number_ok L (holds (dimension P) f.dim (first_of f) g) (number_in (first_of f) g) ≡ true
      in_bounds (sent_in m) r = shell m (sent_at f.sent m) (numbers.sent m r)
      in_bounds (taken_in m) r = shell m (taken_at f.taken m) (numbers.taken m r)
      in_bounds all_sent r = le-leb _ _ numbers.issued
      in_bounds all_taken r = subst (λ t. number_ok L t f.received.0 ≡ true) one numbers.received

  second_held_lem : f.pass ≡ 2 → SecondFits L P a f.dim (second_of f)
  second_held_lem e =
      record {
        awaits = λ q. (ok.dim, awaits);
        agreed = subst (λ t. number_ok L t f.agreed ≡ true) (eq-eqb f.pass 2 e) numbers.agreed;
        issued = le-leb _ _ numbers.issued;
      }

module _ (L : Limits) (n : Node) (v : Valid L n) where
  -- every place is as it may be, after a frame that may be held is stored
  firsts_ok : (j : ℕ) (x : Stored) → FirstFits L n.nodes n.number j x → (k : ℕ) → k < width
      → first_ok L (store_first n j x) k ≡ true
  firsts_ok j x fits k w = go (ℕ_discrete k j) (dec_lt j (length n.first))
    where
      go : Dec (k ≡ j) → Dec (j < length n.first) → first_ok L (store_first n j x) k ≡ true
      go (yes z) (yes h) =
          subst (λ k. first_ok L (store_first n j x) k ≡ true) (sym z)
          (first_ok_lem L (store_first n j x) j
          (subst (FirstFits L n.nodes n.number j) (sym (first_there n j x h)) fits))
      go (yes z) (no h) =
          ap (λ l. first_ok L (with_first n l) k) (set_out n.first j x (omega arith)) ∙ v.first k w
      go (no z) h =
          first_ok_lem L (store_first n j x) k
          (subst (FirstFits L n.nodes n.number k) (sym (first_elsewhere n j x k z))
          (first_fits L n k (v.first k w)))

  seconds_ok : (j : ℕ) (x : Confirm) → SecondFits L n.nodes n.number j x → (k : ℕ) → k < width
      → second_ok L (store_second n j x) k ≡ true
  seconds_ok j x fits k w = go (ℕ_discrete k j) (dec_lt j (length n.second))
    where
      go : Dec (k ≡ j) → Dec (j < length n.second) → second_ok L (store_second n j x) k ≡ true
      go (yes z) (yes h) =
          subst (λ k. second_ok L (store_second n j x) k ≡ true) (sym z)
          (second_ok_lem L (store_second n j x) j
          (subst (SecondFits L n.nodes n.number j) (sym (second_there n j x h)) fits))
      go (yes z) (no h) =
          ap (λ l. second_ok L (with_second n l) k) (set_out n.second j x (omega arith)) ∙ v.second k w
      go (no z) h =
          second_ok_lem L (store_second n j x) k
          (subst (SecondFits L n.nodes n.number k) (sym (second_elsewhere n j x k z))
          (second_fits L n k (v.second k w)))

  -- stored frames changed from step s on, and a position that is not after s, nor after the old one
  module _ (l : List Stored) (m : List Confirm) (pass dim : ℕ) (flag : Bool) (agreed s : ℕ) where
    abbrev new_state : Node
    new_state = at (with_second (with_first n l) m) pass dim flag agreed

    record Stores : Type 0 where
      pub first : (k : ℕ) → k < width → first_ok L (with_first n l) k ≡ true
      pub second : (k : ℕ) → k < width → second_ok L (with_second n m) k ≡ true
      pub first_before : (k : ℕ) → k < dims n → k < s → first_at (with_first n l) k ≡ first_at n k
      pub second_before : (k : ℕ) → dims n + k < s → second_at (with_second n m) k ≡ second_at n k
      pub passes : (pass ≡ 1) ⊎ (pass ≡ 2)
      pub low : dim < dims n
      pub upto : step_number (dims n) pass dim ≤ s
      pub back : step_number (dims n) pass dim ≤ step_of n
      pub total_first : pass ≡ 1 → agreed ≡ 0
      pub total_second : pass ≡ 2 → agreed ≡ n.agreed
      pub busy : n.busy ≡ true → (pass ≡ 1) × ((dim ≡ 0) × (flag ≡ true))

    store_facts : Stores → Valid L new_state
    unfolding first_ok second_ok
    store_facts w =
        record {
          board = v.board;
          number = v.number;
          pass = w.passes;
          dim = λ h. w.low;
          lone = λ e. absurd (omega (arith, w.low));
          sent = v.sent;
          taken = v.taken;
          others = v.others;
          agreed = low w.passes;
          agreed_first = w.total_first;
          agreed_second = λ e. w.total_second e ∙ v.agreed_second (two e v.pass) ∙ sym (sums e);
          first = w.first;
          second = w.second;
          before_first =
              λ k b r.
              first_same n new_state (alike n) L k (λ j h. w.first_before j (omega arith) (omega (arith, w.upto)))
              ∙ v.before_first k b (omega (arith, w.back));
          before_second =
              λ k r.
              second_same n new_state (alike n) L k (λ j h. w.second_before j (omega (arith, w.upto)))
              (w.total_second (late k r w.passes))
              ∙ v.before_second k (omega (arith, w.back));
          busy = w.busy;
        }
      where
        low : (pass ≡ 1) ⊎ (pass ≡ 2) → agreed ≤ field_limit L
        low (inl e) = omega (arith, w.total_first e)
        low (inr e) = omega (arith, w.total_second e, v.agreed)

        -- in pass 2 the node was in pass 2
        two : pass ≡ 2 → (n.pass ≡ 1) ⊎ (n.pass ≡ 2) → n.pass ≡ 2
        two e (inl q) =
            let a = step_second (dims n) pass dim e in
            let b = step_first (dims n) n.pass n.dim q in
            absurd (omega (arith, w.back, w.low, v.dim (omega (arith, w.low))))
        two e (inr q) = q

        sums : pass ≡ 2 → own new_state (dims n) all_taken ≡ own n (dims n) all_taken
        sums e =
            let a = step_second (dims n) pass dim e in
            own_same n new_state (alike n) (dims n) (λ j h. w.first_before j h (omega (arith, w.upto))) all_taken

        late : (k : ℕ) → dims n + k < step_number (dims n) pass dim → (pass ≡ 1) ⊎ (pass ≡ 2) → pass ≡ 2
        late k r (inl e) = let a = step_first (dims n) pass dim e in absurd (omega (arith, w.low))
        late k r (inr e) = e

  module _ (f : Frame) (ok : Accepted L n.nodes f)
      (awaits : is_none (awaited n.nodes f.dim n.number) ≡ false) where
    some_dims : 0 < dims n
    some_dims = omega (arith, ok.dim)

    at_start : n.busy ≡ true → {A : Type 0} (k : ℕ) → k < step_of n → A
    at_start b k l = absurd (omega (arith, busy_start L n v b))

    pub got_facts : {m : Node} → GotWay n f m → Valid L m
    got_facts (first_back e l) =
        store_facts (set n.first f.dim (first_of f)) n.second 1 f.dim false 0 f.dim
        (record {
          first = firsts_ok f.dim (first_of f) (first_held_lem L n.nodes n.number f ok awaits e);
          second = v.second;
          first_before = λ k b h. first_elsewhere n f.dim (first_of f) k (λ z. omega arith);
          second_before = λ k h. refl;
          passes = inl refl;
          low = ok.dim;
          upto = omega arith;
          back = omega arith;
          total_first = λ z. refl;
          total_second = λ z. absurd (omega arith);
          busy = λ b. at_start b f.dim l;
        })
    got_facts (first_stay e l) =
        store_facts (set n.first f.dim (first_of f)) n.second n.pass n.dim n.flag n.agreed f.dim
        (record {
          first = firsts_ok f.dim (first_of f) (first_held_lem L n.nodes n.number f ok awaits e);
          second = v.second;
          first_before = λ k b h. first_elsewhere n f.dim (first_of f) k (λ z. omega arith);
          second_before = λ k h. refl;
          passes = v.pass;
          low = v.dim some_dims;
          upto = l;
          back = omega arith;
          total_first = v.agreed_first;
          total_second = λ z. refl;
          busy = v.busy;
        })
    got_facts (second_back e l) =
        store_facts n.first (set n.second f.dim (second_of f)) 2 f.dim false n.agreed (dims n + f.dim)
        (record {
          first = v.first;
          second = seconds_ok f.dim (second_of f) (second_held_lem L n.nodes n.number f ok awaits e);
          first_before = λ k b h. refl;
          second_before = λ k h. second_elsewhere n f.dim (second_of f) k (λ z. omega arith);
          passes = inr refl;
          low = ok.dim;
          upto = omega arith;
          back = omega arith;
          total_first = λ z. absurd (omega arith);
          total_second = λ z. refl;
          busy = λ b. at_start b (dims n + f.dim) l;
        })
    got_facts (second_stay e l) =
        store_facts n.first (set n.second f.dim (second_of f)) n.pass n.dim n.flag n.agreed
        (dims n + f.dim)
        (record {
          first = v.first;
          second = seconds_ok f.dim (second_of f) (second_held_lem L n.nodes n.number f ok awaits e);
          first_before = λ k b h. refl;
          second_before = λ k h. second_elsewhere n f.dim (second_of f) k (λ z. omega arith);
          passes = v.pass;
          low = v.dim some_dims;
          upto = l;
          back = omega arith;
          total_first = v.agreed_first;
          total_second = λ z. refl;
          busy = v.busy;
        })
