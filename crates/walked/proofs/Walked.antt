-- The walk: what it holds is the node's numbers and those of the frames that it has read.
use mathlib.Core.Path.{◌≡◌, refl, sym, ap, ◌∙◌}
use mathlib.Core.Bool.{Bool, true, false}
use mathlib.Core.List.{List}
use Prim.Native.Nat.{ℕ, suc, ◌+◌, ◌≤◌, ◌<◌, min}
use native.Mathlib.Omega.{arith}
use lib.Dec.{eqb, ltb}
use lib.ListN.{set}
use borrow.Author.Tests.{ltb-true, eqb-true}
use Rattle.base.specs.Choice.{choose, both, either, every}
use Rattle.base.specs.Limits.{Limits}
use Rattle.base.proofs.Laws.{both_true, cases}
use Rattle.node.specs.Sums.{dims, first_at, second_at, Field, sent_in, taken_in, all_sent, all_taken, tally, total}
use Rattle.node.specs.Sums.{own, own_issued}
use Rattle.node.specs.Agree.{agrees}
use Rattle.node.specs.State.{position_ok, passed_ok}
use Rattle.node.specs.Change.{with_first, with_second}
use Rattle.node.specs.declared.Stored.{Stored}
use Rattle.node.specs.declared.Confirm.{Confirm}
use Rattle.node.specs.declared.Node.{Node}
use Rattle.node.proofs.Totals.{total_same}
use Rattle.walked.specs.Walk.{reach, confirm_reach, first_adds, second_adds, walked}
use Rattle.walked.specs.Laws.{first_put, second_put, OneWalk}
use Rattle.walked.proofs.Rows.{grows, total_before, counted_once}
use Rattle.walked.proofs.Words.{in_order_lem}

-- ---- the position

module _ (n : Node) (ok : position_ok n ≡ true) where
  pub dim_low : n.dim ≤ dims n
  unfolding position_ok
  dim_low = go (eqb (dims n) 0) ok
    where
      go : (t : Bool)
          → choose t (both (eqb n.pass 1) (eqb n.dim 0))
          (both (either (eqb n.pass 1) (eqb n.pass 2)) (ltb n.dim (dims n)))
          ≡ true
          → n.dim ≤ dims n
      go true e = let q = eqb-true n.dim 0 (both_true (eqb n.pass 1) (eqb n.dim 0) e).1 in omega arith
      go false e =
          let q = ltb-true n.dim (dims n)
          (both_true (either (eqb n.pass 1) (eqb n.pass 2)) (ltb n.dim (dims n)) e).1 in
          omega arith

  pub reach_low : reach n ≤ dims n
  reach_low = cases (λ r. r ≤ dims n) (eqb n.pass 1) _ _ (λ e. dim_low) (λ e. omega arith)

  pub confirm_reach_low : confirm_reach n ≤ dims n
  confirm_reach_low = cases (λ r. r ≤ dims n) (eqb n.pass 1) _ _ (λ e. omega arith) (λ e. dim_low)

before : (L : Limits) (n : Node)
    → passed_ok L n ≡ both (every 0 (reach n) (agrees L n 1)) (every 0 (confirm_reach n) (agrees L n 2))
unfolding passed_ok
before L n = go (eqb n.pass 1)
  where
    whole : (b : Bool) → b ≡ both b true
    whole true = refl
    whole false = refl

    go : (t : Bool)
        → choose t (every 0 n.dim (agrees L n 1))
        (both (every 0 (dims n) (agrees L n 1)) (every 0 n.dim (agrees L n 2)))
        ≡ both (every 0 (choose t n.dim (dims n)) (agrees L n 1)) (every 0 (choose t 0 n.dim) (agrees L n 2))
    go true = whole _
    go false = refl

-- ---- one dimension more

module _ (n : Node) (k : ℕ) where
  pub first_more : (f : Field) → (walked n (suc k)).sums f ≡ (walked n k).sums f + first_adds n k (first_at n k) f
  unfolding walked
  first_more f = refl

  pub second_more : (walked n (suc k)).issued ≡ (walked n k).issued + second_adds n k (second_at n k)
  unfolding walked
  second_more = refl

-- ---- the sums

-- by totals
sums_total : (n : Node) (k : ℕ) (f : Field)
    → (walked n k).sums f ≡ tally n f + total (λ j. first_adds n j (first_at n j) f) k
unfolding walked
sums_total n k f = grows (λ j. (walked n j).sums f) _ (λ j. first_more n j f) k

issued_total : (n : Node) (k : ℕ)
    → (walked n k).issued ≡ tally n all_sent + total (λ j. second_adds n j (second_at n j)) k
unfolding walked
issued_total n k = grows (λ j. (walked n j).issued) _ (second_more n) k

-- by the own sums
pub walked_sums : (n : Node) (k : ℕ) (f : Field) → (walked n k).sums f ≡ own n (min k (reach n)) f
unfolding own
walked_sums n k f =
    sums_total n k f
    ∙ ap (λ x. tally n f + x) (total_before _ (reach n) k)
    ∙ sym (grows (λ j. own n j f) _ (λ j. refl) (min k (reach n)))

pub walked_issued : (n : Node) (k : ℕ) → (walked n k).issued ≡ own_issued n (min k (confirm_reach n))
unfolding own_issued
walked_issued n k =
    issued_total n k
    ∙ ap (λ x. tally n all_sent + x) (total_before _ (confirm_reach n) k)
    ∙ sym (grows (own_issued n) _ (λ j. refl) (min k (confirm_reach n)))

-- ---- other nodes

-- what the sums of a pass depend on
module _ (n m : Node) (k : ℕ) where
  sums_same : (f : Field) → tally m f ≡ tally n f → reach m ≡ reach n
      → ((j : ℕ) → j < k → first_at m j ≡ first_at n j) → (walked m k).sums f ≡ (walked n k).sums f
  sums_same f t r e =
      omega (
        arith,
        sums_total m k f,
        sums_total n k f,
        total_same (λ j. first_adds m j (first_at m j) f) (λ j. first_adds n j (first_at n j) f) k (λ j l. rw (r, e j l)),
      )

  issued_same : tally m all_sent ≡ tally n all_sent → confirm_reach m ≡ confirm_reach n
      → ((j : ℕ) → j < k → second_at m j ≡ second_at n j) → (walked m k).issued ≡ (walked n k).issued
  issued_same t r e =
      omega (
        arith,
        issued_total m k,
        issued_total n k,
        total_same (λ j. second_adds m j (second_at m j)) (λ j. second_adds n j (second_at n j)) k (λ j l. rw (r, e j l)),
      )

-- stored frames are in no tally
tally_kept : (n : Node) (l : List Stored) (q : List Confirm) (f : Field) → tally (with_first (with_second n q) l) f ≡ tally n f
tally_kept n l q (sent_in m) = refl
tally_kept n l q (taken_in m) = refl
tally_kept n l q all_sent = refl
tally_kept n l q all_taken = refl

-- ---- the laws

pub one_walk : OneWalk
one_walk =
    record {
      before = before;
      sums = sums_total;
      issued = issued_total;
      sums_own = walked_sums;
      issued_own = walked_issued;
      sums_all = λ n ok f. walked_sums n (dims n) f ∙ ap (λ k. own n k f) (omega (arith, reach_low n ok));
      issued_all = λ n ok. walked_issued n (dims n) ∙ ap (own_issued n) (omega (arith, confirm_reach_low n ok));
      sums_unread = λ n m k a f. sums_same n m k f (a.tallies f) a.firsts a.first;
      issued_unread = λ n m k a. issued_same n m k (a.tallies all_sent) a.seconds a.second;
      sums_once = λ n j k x a b f.
          counted_once (λ i y. first_adds n i y f) n.first _ j k x (tally n f) _ _ a b
          (omega (arith, sums_total (first_put n j x) k f, tally_kept n (set n.first j x) n.second f))
          (sums_total n k f);
      issued_once = λ n j k y a b.
          counted_once (second_adds n) n.second _ j k y (tally n all_sent) _ _ a b (issued_total (second_put n j y) k)
          (issued_total n k);
      sums_apart = λ n j k y f.
          sums_same n (second_put n j y) k f (tally_kept n n.first (set n.second j y) f) refl (λ i l. refl);
      issued_apart = λ n j k x. issued_same n (first_put n j x) k refl refl (λ i l. refl);
      in_order = in_order_lem;
    }
