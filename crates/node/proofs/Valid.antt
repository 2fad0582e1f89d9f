-- What the state test says of a state, by name, and that a state of which this is known passes it.
use mathlib.Core.Path.{◌≡◌, refl, sym, ap, ◌∙◌}
use mathlib.Core.Logic.{◌⊎◌, inl, inr}
use mathlib.Core.Bool.{Bool, true, false, not}
use Prim.Native.Nat.{ℕ, ◌+◌, ◌-◌, ◌^◌, ◌≤◌, ◌<◌}
use native.Mathlib.Decide.{ℕ_discrete}
use native.Mathlib.Omega.{arith}
use lib.Dec.{ltb, leb, eqb}
use borrow.Author.Tests.{leb-true, ltb-true, eqb-true, not-true}
use borrow.Author.Tests.{le-leb, lt-ltb, eq-eqb, ne_eqb}
use Rattle.base.specs.Choice.{choose, both, either, every}
use Rattle.base.specs.Limits.{Limits, field_limit, taken_limit, width}
use Rattle.base.proofs.Laws.{clash, choose_yes, choose_no, cases, both_true, both_make, every_at, every_make}
use Rattle.tree.specs.Tree.{dimension, awaited}
use Rattle.tree.specs.Lookups.{bad_board}
use Rattle.tree.proofs.Dimension.{smallest}
use Rattle.tree.proofs.Lookups.{board_good}
use Rattle.frame.specs.Frame.{has_shell, number_ok}
use Rattle.frame.proofs.RoundTripChecks.{number_low, number_absent}
use Rattle.node.specs.Sums.{dims, first_at, second_at, Field, sent_in, taken_in, all_sent, all_taken}
use Rattle.node.specs.Sums.{tally, number, own}
use Rattle.node.specs.Agree.{is_none, is_alone, agrees}
use Rattle.node.specs.State.{board_ok, position_ok, tallies_ok, total_ok, awaits_frame, first_ok, second_ok}
use Rattle.node.specs.State.{passed_ok, busy_ok, valid}
use Rattle.node.specs.Calls.{step_number}
use Rattle.node.specs.declared.Stored.{Stored}
use Rattle.node.specs.declared.Confirm.{Confirm}
use Rattle.node.specs.declared.Node.{Node}

-- ---- steps counted through

pub step_first : (p pass k : ℕ) → pass ≡ 1 → step_number p pass k ≡ k
step_first p pass k e = choose_yes k (p + k) (eq-eqb pass 1 e)

pub step_second : (p pass k : ℕ) → pass ≡ 2 → step_number p pass k ≡ p + k
step_second p pass k e = choose_no k (p + k) (ne_eqb pass 1 (λ q. omega arith))

-- the step that the node is at
abbrev pub step_of : Node → ℕ
step_of n = step_number (dims n) n.pass n.dim

-- ---- the facts

pub record Valid (L : Limits) (n : Node) : Type 0 where
  pub board : bad_board L n.nodes ≡ false
  pub number : n.number < n.nodes
  -- the position
  pub pass : (n.pass ≡ 1) ⊎ (n.pass ≡ 2)
  pub dim : 0 < dims n → n.dim < dims n
  pub lone : dims n ≡ 0 → (n.pass ≡ 1) × (n.dim ≡ 0)
  -- the tallies, and those of shells that the node doesn't have
  pub sent : tally n all_sent ≤ L.sends
  pub taken : tally n all_taken ≤ taken_limit L
  pub others : (m : ℕ) → dims n ≤ m → m < width → (tally n (sent_in m) ≡ 0) × (tally n (taken_in m) ≡ 0)
  -- T
  pub agreed : n.agreed ≤ field_limit L
  pub agreed_first : n.pass ≡ 1 → n.agreed ≡ 0
  pub agreed_second : n.pass ≡ 2 → n.agreed ≡ own n (dims n) all_taken
  -- each place of a stored frame
  pub first : (k : ℕ) → k < width → first_ok L n k ≡ true
  pub second : (k : ℕ) → k < width → second_ok L n k ≡ true
  -- the steps before the position agree
  pub before_first : (k : ℕ) → k < dims n → k < step_of n → agrees L n 1 k ≡ true
  pub before_second : (k : ℕ) → dims n + k < step_of n → agrees L n 2 k ≡ true
  pub busy : n.busy ≡ true → (n.pass ≡ 1) × ((n.dim ≡ 0) × (n.flag ≡ true))

-- ---- the parts of the test

either_known : (s t : Bool) → either s t ≡ true → (s ≡ true) ⊎ (t ≡ true)
either_known true t e = inl refl
either_known false t e = inr e

pub pass_good : {pass : ℕ} → (pass ≡ 1) ⊎ (pass ≡ 2) → either (eqb pass 1) (eqb pass 2) ≡ true
pass_good {pass} (inl e) = rw (eq-eqb pass 1 e)
pass_good {pass} (inr e) = rw (ne_eqb pass 1 (λ q. omega arith), eq-eqb pass 2 e)

module _ (L : Limits) (n : Node) where
  -- the position
  record Placed : Type 0 where
    pub pass : (n.pass ≡ 1) ⊎ (n.pass ≡ 2)
    pub dim : 0 < dims n → n.dim < dims n
    pub lone : dims n ≡ 0 → (n.pass ≡ 1) × (n.dim ≡ 0)

  position_known : position_ok n ≡ true → Placed
  unfolding position_ok
  position_known e = go (ℕ_discrete (dims n) 0)
    where
      go : Dec (dims n ≡ 0) → Placed
      go (yes z) =
          let a = both_true (eqb n.pass 1) _ (sym (choose_yes _ _ (eq-eqb (dims n) 0 z)) ∙ e) in
          let pass = eqb-true n.pass 1 a.0 in
          record { pass = inl pass; dim = λ h. absurd (omega arith); lone = λ h. (pass, eqb-true n.dim 0 a.1) }
      go (no z) =
          let many = ne_eqb (dims n) 0 z in
          let a = both_true (either (eqb n.pass 1) (eqb n.pass 2)) _ (sym (choose_no _ _ many) ∙ e) in
          record {
            pass = passes (either_known _ _ a.0);
            dim = λ h. ltb-true n.dim (dims n) a.1;
            lone = λ h. absurd (z h);
          }
        where
          passes : (eqb n.pass 1 ≡ true) ⊎ (eqb n.pass 2 ≡ true) → (n.pass ≡ 1) ⊎ (n.pass ≡ 2)
          passes (inl q) = inl (eqb-true _ _ q)
          passes (inr q) = inr (eqb-true _ _ q)

  placed_low : Placed → n.dim ≤ dims n
  placed_low p = go (ℕ_discrete (dims n) 0)
    where
      go : Dec (dims n ≡ 0) → n.dim ≤ dims n
      go (yes z) = omega (arith, (p.lone z).1)
      go (no z) = omega (arith, p.dim (omega arith))

  position_good : Placed → position_ok n ≡ true
  unfolding position_ok
  position_good p = go (ℕ_discrete (dims n) 0)
    where
      go : Dec (dims n ≡ 0) → position_ok n ≡ true
      go (yes z) =
          let l = p.lone z in choose_yes _ _ (eq-eqb (dims n) 0 z) ∙ both_make (eq-eqb _ _ l.0) (eq-eqb _ _ l.1)
      go (no z) =
          choose_no _ _ (ne_eqb (dims n) 0 z) ∙ both_make (pass_good p.pass) (lt-ltb _ _ (p.dim (omega arith)))

  -- the tallies
  empty_at : ℕ → Bool
  empty_at m = both (eqb (tally n (sent_in m)) 0) (eqb (tally n (taken_in m)) 0)

  abbrev Others : Type 0
  Others = (m : ℕ) → dims n ≤ m → m < width → (tally n (sent_in m) ≡ 0) × (tally n (taken_in m) ≡ 0)

  tallies_known : tallies_ok L n ≡ true → (tally n all_sent ≤ L.sends) × (tally n all_taken ≤ taken_limit L) × Others
  unfolding tallies_ok empty_at
  tallies_known e =
      let sent = leb (tally n all_sent) L.sends in
      let a = both_true (both sent (leb (tally n all_taken) (taken_limit L))) _ e in
      let b = both_true sent _ a.0 in (
        leb-true _ _ b.0,
        leb-true _ _ b.1,
        λ m low high.
            let empty = every_at (dims n) (width - dims n) empty_at a.1 m low (omega arith) in
            let c = both_true (eqb (tally n (sent_in m)) 0) _ empty in
            (eqb-true _ _ c.0, eqb-true _ _ c.1),
      )

  tallies_good : tally n all_sent ≤ L.sends → tally n all_taken ≤ taken_limit L → Others → tallies_ok L n ≡ true
  unfolding tallies_ok empty_at
  tallies_good s t o =
      both_make (both_make (le-leb _ _ s) (le-leb _ _ t))
      (every_make (dims n) (width - dims n) empty_at
      (λ m low high.
      let c = o m low (omega arith) in both_make (eq-eqb _ _ c.0) (eq-eqb _ _ c.1)))

  -- T
  total_known : total_ok L n ≡ true
      → (n.agreed ≤ field_limit L) × (n.agreed ≡ choose (eqb n.pass 1) 0 (own n (dims n) all_taken))
  unfolding total_ok
  total_known e =
      let a = both_true (leb n.agreed (field_limit L)) _ e in (leb-true _ _ a.0, eqb-true _ _ a.1)

  total_good : (n.pass ≡ 1) ⊎ (n.pass ≡ 2) → n.agreed ≤ field_limit L → (n.pass ≡ 1 → n.agreed ≡ 0)
      → (n.pass ≡ 2 → n.agreed ≡ own n (dims n) all_taken) → total_ok L n ≡ true
  unfolding total_ok
  total_good p l f s = both_make (le-leb _ _ l) (eq-eqb _ _ (go p))
    where
      go : (n.pass ≡ 1) ⊎ (n.pass ≡ 2) → n.agreed ≡ choose (eqb n.pass 1) 0 (own n (dims n) all_taken)
      go (inl e) = f e ∙ sym (choose_yes _ _ (eq-eqb n.pass 1 e))
      go (inr e) = s e ∙ sym (choose_no 0 _ (ne_eqb n.pass 1 (λ q. omega arith)))

  -- the steps before the position
  record Passed : Type 0 where
    pub first : (k : ℕ) → k < dims n → k < step_of n → agrees L n 1 k ≡ true
    pub second : (k : ℕ) → dims n + k < step_of n → agrees L n 2 k ≡ true

  passed_known : Placed → passed_ok L n ≡ true → Passed
  unfolding passed_ok
  passed_known p e = go p.pass
    where
      go : (n.pass ≡ 1) ⊎ (n.pass ≡ 2) → Passed
      go (inl one) =
          let a = sym (choose_yes _ _ (eq-eqb n.pass 1 one)) ∙ e in
          let at = step_first (dims n) n.pass n.dim one in
          record {
            first = λ k l h. every_at 0 n.dim (agrees L n 1) a k (omega arith) (omega arith);
            second = λ k h. absurd (omega (arith, placed_low p));
          }
      go (inr two) =
          let not-one = ne_eqb n.pass 1 (λ q. omega arith) in
          let a = both_true (every 0 (dims n) (agrees L n 1)) _ (sym (choose_no _ _ not-one) ∙ e) in
          let at = step_second (dims n) n.pass n.dim two in
          record {
            first = λ k l h. every_at 0 (dims n) (agrees L n 1) a.0 k (omega arith) (omega arith);
            second = λ k h. every_at 0 n.dim (agrees L n 2) a.1 k (omega arith) (omega arith);
          }

  passed_good : Placed → Passed → passed_ok L n ≡ true
  unfolding passed_ok
  passed_good p a = go p.pass
    where
      go : (n.pass ≡ 1) ⊎ (n.pass ≡ 2) → passed_ok L n ≡ true
      go (inl one) =
          let at = step_first (dims n) n.pass n.dim one in
          choose_yes _ _ (eq-eqb n.pass 1 one)
          ∙ every_make 0 n.dim (agrees L n 1) (λ k l h. a.first k (omega (arith, placed_low p)) (omega arith))
      go (inr two) =
          let at = step_second (dims n) n.pass n.dim two in
          choose_no _ _ (ne_eqb n.pass 1 (λ q. omega arith))
          ∙ both_make (every_make 0 (dims n) (agrees L n 1) (λ k l h. a.first k (omega arith) (omega arith)))
          (every_make 0 n.dim (agrees L n 2) (λ k l h. a.second k (omega arith)))

  -- busy
  abbrev AtStart : Type 0
  AtStart = (n.pass ≡ 1) × ((n.dim ≡ 0) × (n.flag ≡ true))

  busy_known : busy_ok n ≡ true → n.busy ≡ true → AtStart
  unfolding busy_ok
  busy_known e b =
      let a = both_true (eqb n.pass 1) _ (sym (choose_yes _ true b) ∙ e) in
      let c = both_true (eqb n.dim 0) _ a.1 in
      (eqb-true _ _ a.0, (eqb-true _ _ c.0, c.1))

  busy_good : (n.busy ≡ true → AtStart) → busy_ok n ≡ true
  unfolding busy_ok
  busy_good h =
      cases (λ t. t ≡ true) n.busy _ true
      (λ b. let a = h b in both_make (eq-eqb _ _ a.0) (both_make (eq-eqb _ _ a.1.0) a.1.1)) (λ b. refl)

  -- ---- the test

  pub valid_known : valid L n ≡ true → Valid L n
  unfolding valid board_ok
  valid_known e =
      let a = both_true (board_ok L n) _ e in
      let b = both_true (position_ok n) _ a.1 in
      let c = both_true (tallies_ok L n) _ b.1 in
      let d = both_true (total_ok L n) _ c.1 in
      let f = both_true (every 0 width (first_ok L n)) _ d.1 in
      let g = both_true (every 0 width (second_ok L n)) _ f.1 in
      let h = both_true (passed_ok L n) _ g.1 in
      let i = both_true (busy_ok n) _ h.1 in
      let on = both_true (not (bad_board L n.nodes)) _ a.0 in
      let place = position_known b.0 in
      let tallies = tallies_known c.0 in
      let total = total_known d.0 in
      let passed = passed_known place h.0 in
      record {
        board = not-true _ on.0;
        number = ltb-true _ _ on.1;
        pass = place.pass;
        dim = place.dim;
        lone = place.lone;
        sent = tallies.0;
        taken = tallies.1;
        others = tallies.2;
        agreed = total.0;
        agreed_first = λ q. total.1 ∙ choose_yes _ _ (eq-eqb _ _ q);
        agreed_second = λ q. total.1 ∙ choose_no _ _ (ne_eqb n.pass 1 (λ o. omega arith));
        first = λ k l. every_at 0 width (first_ok L n) f.0 k (omega arith) (omega arith);
        second = λ k l. every_at 0 width (second_ok L n) g.0 k (omega arith) (omega arith);
        before_first = passed.first;
        before_second = passed.second;
        busy = busy_known i.0;
      }

  pub valid_good : Valid L n → valid L n ≡ true
  unfolding valid board_ok
  valid_good v =
      let place : Placed = record { pass = v.pass; dim = v.dim; lone = v.lone } in
      both_make (both_make (ap not v.board) (lt-ltb _ _ v.number))
      (both_make (position_good place)
      (both_make (tallies_good v.sent v.taken v.others)
      (both_make (total_good v.pass v.agreed v.agreed_first v.agreed_second)
      (both_make (every_make 0 width (first_ok L n) (λ k l h. v.first k (omega arith)))
      (both_make (every_make 0 width (second_ok L n) (λ k l h. v.second k (omega arith)))
      (both_make (passed_good place (record { first = v.before_first; second = v.before_second }))
      (both_make (busy_good v.busy) refl)))))))

-- the shells of a board within the limits have room
pub valid_width : (L : Limits) (n : Node) → L.nodes ≤ 2 ^ width → Valid L n → dims n ≤ width
valid_width L n fits v = smallest n.nodes width (omega (arith, board_good L n.nodes v.board))

-- ---- a place of pass 1

-- there is room for the number
abbrev pub Room : Field → Type 0
Room (sent_in m) = m < width
Room (taken_in m) = m < width
Room all_sent = Unit {0}
Room all_taken = Unit {0}

-- the place has the number: a frame is stored, of a dimension that has it
abbrev pub holds : ℕ → ℕ → Stored → Field → Bool
holds p k x (sent_in m) = both x.present (has_shell p k m)
holds p k x (taken_in m) = both x.present (has_shell p k m)
holds p k x all_sent = x.present
holds p k x all_taken = x.present

-- node a of a board of P awaits a frame in dimension k
abbrev pub Awaits : ℕ → ℕ → ℕ → Type 0
Awaits P a k = (k < dimension P) × (is_none (awaited P k a) ≡ false)

-- what may be held for dimension k of pass 1, and of pass 2, by node a of a board of P
pub record FirstFits (L : Limits) (P a k : ℕ) (x : Stored) : Type 0 where
  -- a frame is stored only where one is awaited
  pub awaits : x.present ≡ true → Awaits P a k
  -- a number that the place has is within the limit, and any other is 0
  pub numbers : (f : Field) → Room f → number_ok L (holds (dimension P) k x f) (number x f) ≡ true

pub record SecondFits (L : Limits) (P a k : ℕ) (x : Confirm) : Type 0 where
  pub awaits : x.present ≡ true → Awaits P a k
  pub agreed : number_ok L x.present x.agreed ≡ true
  pub issued : number_ok L x.present x.issued.0 ≡ true

module _ (L : Limits) (n : Node) (k : ℕ) where
  abbrev pub FirstHeld : Type 0
  FirstHeld = FirstFits L n.nodes n.number k (first_at n k)

  abbrev pub SecondHeld : Type 0
  SecondHeld = SecondFits L n.nodes n.number k (second_at n k)

  -- a frame is there only where one is awaited
  only_awaited : (u : Bool) → either (awaits_frame n k) (not u) ≡ true → u ≡ true → Awaits n.nodes n.number k
  only_awaited true e q =
      let a = both_true (ltb k (dims n)) (not (is_alone n k)) (go (awaits_frame n k) e) in
      (ltb-true k (dims n) a.0, not-true _ a.1)
    where
      go : (t : Bool) → either t false ≡ true → t ≡ true
      go true e = refl
      go false e = e
  only_awaited false e q = clash (sym q)

  if_awaited : (u : Bool) → (u ≡ true → Awaits n.nodes n.number k) → either (awaits_frame n k) (not u) ≡ true
  if_awaited true h =
      let a = h refl in
      let here : awaits_frame n k ≡ true = both_make (lt-ltb k (dims n) a.0) (ap not a.1) in
      rw here
  if_awaited false h = go (awaits_frame n k)
    where
      go : (t : Bool) → either t true ≡ true
      go true = refl
      go false = refl

  -- the number of a field is as it may be
  field_ok : Field → Bool
  field_ok f = number_ok L (holds (dims n) k (first_at n k) f) (number (first_at n k) f)

  pub first_fits : first_ok L n k ≡ true → FirstHeld
  unfolding first_ok field_ok
  first_fits e =
      let here = either (awaits_frame n k) (not (first_at n k).present) in
      let a = both_true here _ e in
      let shells = every 0 width (λ m. both (field_ok (sent_in m)) (field_ok (taken_in m))) in
      let b = both_true shells _ a.1 in
      let c = both_true (field_ok all_sent) (field_ok all_taken) b.1 in
      record { awaits = only_awaited (first_at n k).present a.0; numbers = numbers b.0 c.0 c.1 }
    where
      shell : every 0 width (λ m. both (field_ok (sent_in m)) (field_ok (taken_in m))) ≡ true → (m : ℕ) → m < width
          → (field_ok (sent_in m) ≡ true) × (field_ok (taken_in m) ≡ true)
      shell e m h =
          both_true (field_ok (sent_in m)) (field_ok (taken_in m))
          (every_at 0 width (λ m. both (field_ok (sent_in m)) (field_ok (taken_in m))) e m (omega arith) (omega arith))

      numbers : every 0 width (λ m. both (field_ok (sent_in m)) (field_ok (taken_in m))) ≡ true → field_ok all_sent ≡ true
          → field_ok all_taken ≡ true → (f : Field) → Room f → field_ok f ≡ true
      numbers e s t (sent_in m) h = (shell e m h).0
      numbers e s t (taken_in m) h = (shell e m h).1
      numbers e s t all_sent h = s
      numbers e s t all_taken h = t

  pub first_ok_lem : FirstHeld → first_ok L n k ≡ true
  unfolding first_ok
  first_ok_lem a =
      both_make (if_awaited (first_at n k).present a.awaits)
      (both_make
      (every_make 0 width _
      (λ m l h. both_make (a.numbers (sent_in m) (omega arith)) (a.numbers (taken_in m) (omega arith))))
      (both_make (a.numbers all_sent tt) (a.numbers all_taken tt)))

  pub second_fits : second_ok L n k ≡ true → SecondHeld
  unfolding second_ok
  second_fits e =
      let x = second_at n k in
      let a = both_true (either (awaits_frame n k) (not x.present)) _ e in
      let b = both_true (number_ok L x.present x.agreed) (number_ok L x.present x.issued.0) a.1 in
      record { awaits = only_awaited x.present a.0; agreed = b.0; issued = b.1 }

  pub second_ok_lem : SecondHeld → second_ok L n k ≡ true
  unfolding second_ok
  second_ok_lem a = both_make (if_awaited (second_at n k).present a.awaits) (both_make a.agreed a.issued)

  -- ---- what the places say

  -- every number of a place is within the field limit
  pub first_low : first_ok L n k ≡ true → (f : Field) → Room f → number (first_at n k) f ≤ field_limit L
  first_low e f r = number_low L (holds (dims n) k (first_at n k) f) _ ((first_fits e).numbers f r)

  -- a number that the place doesn't have is 0
  pub first_zero : first_ok L n k ≡ true → (f : Field) → Room f → holds (dims n) k (first_at n k) f ≡ false
      → number (first_at n k) f ≡ 0
  first_zero e f r h = number_absent L (holds (dims n) k (first_at n k) f) _ ((first_fits e).numbers f r) h
