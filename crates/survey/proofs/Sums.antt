-- Laws of the own sums: one dimension more, and how large they get.
use mathlib.Core.Path.{◌≡◌, refl, sym, ap, ◌∙◌}
use mathlib.Core.Bool.{Bool, true}
use Prim.Native.Nat.{ℕ, zero, suc, ◌+◌, ◌-◌, ◌*◌, ◌≤◌, ◌<◌}
use native.Mathlib.Decide.{dec_le}
use native.Mathlib.Omega.{arith}
use lib.Dec.{leb, eqb}
use borrow.Author.Tests.{leb-true, eqb-true}
use Rattle.base.specs.Choice.{both, every}
use Rattle.base.specs.Limits.{Limits, Fits, field_limit, taken_limit, width, base}
use Rattle.base.proofs.Laws.{both_true, every_at}
use Rattle.base.proofs.Limits.{field_low, taken_low}
use Rattle.frame.specs.Frame.{sent_at, taken_at}
use Rattle.node.specs.Sums.{dims, first_at, second_at, Field, sent_in, taken_in, all_sent, all_taken, tally, number}
use Rattle.node.specs.Sums.{own, own_issued}
use Rattle.node.specs.State.{tallies_ok, first_ok, second_ok, awaits_frame}
use Rattle.node.specs.declared.Node.{Node}
use Rattle.survey.specs.Pieces.{shell_ok, first_test, second_test}
use Rattle.survey.proofs.Stored.{Has, first_low, first_same, second_low, second_same}
use Rattle.survey.proofs.Lists.{total_has}

-- the state test of a place is the test over pieces
pub first_test_lem : (L : Limits) (n : Node) (k : ℕ) → first_ok L n k ≡ first_test L (awaits_frame n k) (dims n) k (first_at n k)
unfolding first_ok first_test shell_ok
first_test_lem L n k = refl

pub second_test_lem : (L : Limits) (n : Node) (k : ℕ) → second_ok L n k ≡ second_test L (awaits_frame n k) (second_at n k)
unfolding second_ok second_test
second_test_lem L n k = refl

module _ (L : Limits) (n : Node) (k : ℕ) (ok : first_ok L n k ≡ true) where
  place : first_test L (awaits_frame n k) (dims n) k (first_at n k) ≡ true
  place = sym (first_test_lem L n k) ∙ ok

  pub stored_low : (f : Field) → Has f → number (first_at n k) f ≤ field_limit L
  stored_low f h = first_low L (awaits_frame n k) (dims n) k (first_at n k) place f h

  -- one dimension more
  pub own_more : (f : Field) → Has f → own n (suc k) f ≡ own n k f + number (first_at n k) f
  unfolding own
  own_more f h = ap (λ x. own n k f + x) (first_same L (awaits_frame n k) (dims n) k (first_at n k) place f h)

module _ (L : Limits) (n : Node) (k : ℕ) (ok : second_ok L n k ≡ true) where
  confirmed : second_test L (awaits_frame n k) (second_at n k) ≡ true
  confirmed = sym (second_test_lem L n k) ∙ ok

  pub confirm_low : (second_at n k).issued.0 ≤ field_limit L
  confirm_low = second_low L (awaits_frame n k) (second_at n k) confirmed

  pub issued_more : own_issued n (suc k) ≡ own_issued n k + (second_at n k).issued.0
  unfolding own_issued
  issued_more = ap (λ x. own_issued n k + x) (second_same L (awaits_frame n k) (second_at n k) confirmed)

-- ---- how large they get

-- the tallies of shell m are 0
abbrev spare_zero : Node → ℕ → Bool
spare_zero n m = both (eqb (sent_at n.sent m) 0) (eqb (taken_at n.taken m) 0)

module _ (L : Limits) (n : Node) (ok : tallies_ok L n ≡ true) where
  abbrev sends_low : Bool
  sends_low = leb (tally n all_sent) L.sends

  abbrev takes_low : Bool
  takes_low = leb (tally n all_taken) (taken_limit L)

  abbrev spare : Bool
  spare = every (dims n) (width - dims n) (spare_zero n)

  tests : (sends_low ≡ true) × (takes_low ≡ true) × (spare ≡ true)
  unfolding tallies_ok
  tests =
      let q = both_true (both sends_low takes_low) spare ok in
      let r = both_true sends_low takes_low q.0 in
      (r.0, r.1, q.1)

  pub sends_low_lem : tally n all_sent ≤ L.sends
  sends_low_lem = leb-true _ _ tests.0

  pub takes_low_lem : tally n all_taken ≤ taken_limit L
  takes_low_lem = leb-true _ _ tests.1

  zero_past : (m : ℕ) → dims n ≤ m → m < width → (sent_at n.sent m ≡ 0) × (taken_at n.taken m ≡ 0)
  zero_past m a b =
      let q = both_true (eqb (sent_at n.sent m) 0) (eqb (taken_at n.taken m) 0)
      (every_at (dims n) (width - dims n) (spare_zero n) tests.2 m a (omega arith)) in
      (eqb-true _ _ q.0, eqb-true _ _ q.1)

-- in the largest build, and so in every one
module _ (L : Limits) (fit : Fits L) (n : Node) (ok : tallies_ok L n ≡ true) where
  sends : tally n all_sent ≤ 65535
  sends = omega (arith, sends_low_lem L n ok, fit.sends)

  takes : tally n all_taken ≤ taken_limit base
  takes = omega (arith, takes_low_lem L n ok, taken_low L fit)

  pub tally_low : (f : Field) → Has f → tally n f ≤ field_limit base
  tally_low (sent_in m) h = go (dec_le (dims n) m)
    where
      go : Dec (dims n ≤ m) → sent_at n.sent m ≤ field_limit base
      go (yes l) = omega (arith, (zero_past L n ok m l h).0)
      go (no l) = omega (arith, sends, total_has (sent_at n.sent) (dims n) m (omega arith))
  tally_low (taken_in m) h = go (dec_le (dims n) m)
    where
      go : Dec (dims n ≤ m) → taken_at n.taken m ≤ field_limit base
      go (yes l) = omega (arith, (zero_past L n ok m l h).1)
      go (no l) = omega (arith, takes, total_has (taken_at n.taken) (dims n) m (omega arith))
  tally_low all_sent h = omega (arith, sends)
  tally_low all_taken h = omega (arith, takes)

  pub own_low : (k : ℕ) → ((j : ℕ) → j < k → first_ok L n j ≡ true) → (f : Field) → Has f
      → own n k f ≤ field_limit base * suc k
  unfolding own
  own_low zero first f h = omega (arith, tally_low f h)
  own_low (suc k) first f h =
      let i = own_low k (λ j l. first j (omega arith)) f h in
      let e = first k (omega arith) in
      omega (arith, field_low L fit, own_more L n k e f h, stored_low L n k e f h)

  pub issued_low : (k : ℕ) → ((j : ℕ) → j < k → second_ok L n j ≡ true) → own_issued n k ≤ field_limit base * suc k
  unfolding own_issued
  issued_low zero second = omega (arith, sends)
  issued_low (suc k) second =
      let i = issued_low k (λ j l. second j (omega arith)) in
      let e = second k (omega arith) in
      omega (arith, field_low L fit, issued_more L n k e, confirm_low L n k e)
