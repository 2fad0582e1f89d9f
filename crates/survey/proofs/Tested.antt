-- A state whose head and tallies pass is whole exactly if each dimension passes its test.
use mathlib.Core.Path.{◌≡◌, refl, sym, ap, ◌∙◌}
use mathlib.Core.Bool.{Bool, true, false, not}
use Prim.Native.Nat.{ℕ, ◌≤◌, ◌<◌}
use native.Mathlib.Omega.{arith}
use lib.Dec.{ltb}
use borrow.Author.Tests.{lt-ltb, le-ltb, ltb-true, not-true}
use Rattle.base.specs.Choice.{choose, both, either}
use Rattle.base.specs.Limits.{Limits, Fits, width}
use Rattle.base.proofs.Laws.{clash, choose_no, both_true, both_make, every_at, every_make}
use Rattle.node.specs.Sums.{dims, first_at, second_at, own, own_issued}
use Rattle.node.specs.Agree.{is_alone, all_hold, clauses, agrees}
use Rattle.node.specs.State.{board_ok, position_ok, tallies_ok, total_ok, first_ok, second_ok, busy_ok, awaits_frame}
use Rattle.node.specs.Change.{no_first, no_second}
use Rattle.node.specs.declared.Node.{Node}
use Rattle.survey.specs.Pieces.{shell_ok, first_test, second_test, awaits_at, first_past, second_past, first_held, second_held}
use Rattle.survey.specs.Pieces.{step_test}
use Rattle.survey.proofs.Valid.{Whole}
use Rattle.survey.proofs.Sums.{first_test_lem, second_test_lem}
use Rattle.survey.proofs.Steps.{spot_of, awaits_same, few, passed_first, passed_second, all_passed}

-- a test that is made only where another holds
either_make : (s t : Bool) → (s ≡ true → t ≡ true) → either (not s) t ≡ true
either_make true t f = f refl
either_make false t f = refl

either_use : (s t : Bool) → either (not s) t ≡ true → s ≡ true → t ≡ true
either_use true t e f = e
either_use false t e f = clash (sym f)

-- the test of dimension k, with the own sums
abbrev pub step_at : Limits → Node → ℕ → Bool
step_at L n k = step_test L (spot_of L n) k (own n k) (own_issued n k) (first_at n k) (second_at n k)

-- past the last dimension no frame passes
pub step_past : (L : Limits) (n : Node) (k : ℕ) → dims n ≤ k → first_at n k ≡ no_first → second_at n k ≡ no_second
    → step_at L n k ≡ true
unfolding step_test first_test second_test shell_ok awaits_at
step_past L n k l a b = rw (a, b, le-ltb k (dims n) l)

module _ (L : Limits) (n : Node) (board : board_ok L n ≡ true) (k : ℕ) where
  abbrev first : Bool
  first = either (not (first_past (spot_of L n) k)) (all_hold (clauses L n 1 k))

  abbrev second : Bool
  second = either (not (second_past (spot_of L n) k)) (all_hold (clauses L n 2 k))

  abbrev held : Bool
  held = either (not (awaits_frame n k)) (both first second)

  step_is : step_at L n k ≡ both (first_ok L n k) (both (second_ok L n k) held)
  unfolding step_test first_held second_held
  step_is = rw (awaits_same L n k board, first_test_lem L n k, second_test_lem L n k)

  -- an awaited frame is of a step that is not alone
  awaited : awaits_frame n k ≡ true → (k < dims n) × (is_alone n k ≡ false)
  awaited e =
      let q = both_true (ltb k (dims n)) (not (is_alone n k)) e in
      (ltb-true _ _ q.0, not-true _ q.1)

  agrees_is : (pass : ℕ) → is_alone n k ≡ false → agrees L n pass k ≡ all_hold (clauses L n pass k)
  unfolding agrees
  agrees_is pass e = choose_no _ _ e

  pub whole_step : k < width → Whole L n → step_at L n k ≡ true
  whole_step l w =
      step_is
      ∙ both_make (every_at 0 width (first_ok L n) w.first k (omega arith) (omega arith))
      (both_make (every_at 0 width (second_ok L n) w.second k (omega arith) (omega arith))
      (either_make (awaits_frame n k) (both first second)
      (λ e.
      let a = awaited e in
      both_make
      (either_make (first_past (spot_of L n) k) (all_hold (clauses L n 1 k))
      (λ f. sym (agrees_is 1 a.1) ∙ passed_first L n k a.0 w.passed f))
      (either_make (second_past (spot_of L n) k) (all_hold (clauses L n 2 k))
      (λ f. sym (agrees_is 2 a.1) ∙ passed_second L n k w.passed f)))))

  module _ (e : step_at L n k ≡ true) where
    parts : (first_ok L n k ≡ true) × (second_ok L n k ≡ true) × (held ≡ true)
    parts =
        let q = both_true (first_ok L n k) (both (second_ok L n k) held) (sym step_is ∙ e) in
        let r = both_true (second_ok L n k) held q.1 in
        (q.0, r.0, r.1)

    pub step_first : first_ok L n k ≡ true
    step_first = parts.0

    pub step_second : second_ok L n k ≡ true
    step_second = parts.1

    -- where the step is not alone, both passes are as they must be
    both_held : k < dims n → is_alone n k ≡ false → (first ≡ true) × (second ≡ true)
    both_held l f =
        both_true first second
        (either_use (awaits_frame n k) (both first second) parts.2 (both_make (lt-ltb k (dims n) l) (ap not f)))

    -- an alone step agrees
    agreed : (pass : ℕ) → (is_alone n k ≡ false → all_hold (clauses L n pass k) ≡ true) → agrees L n pass k ≡ true
    unfolding agrees
    agreed pass h = go (is_alone n k) refl
      where
        go : (t : Bool) → is_alone n k ≡ t → choose t true (all_hold (clauses L n pass k)) ≡ true
        go true f = refl
        go false f = h f

    step_agrees_first : k < dims n → first_past (spot_of L n) k ≡ true → agrees L n 1 k ≡ true
    step_agrees_first l p =
        agreed 1 (λ f. either_use (first_past (spot_of L n) k) (all_hold (clauses L n 1 k)) (both_held l f).0 p)

    step_agrees_second : k < dims n → second_past (spot_of L n) k ≡ true → agrees L n 2 k ≡ true
    step_agrees_second l p =
        agreed 2 (λ f. either_use (second_past (spot_of L n) k) (all_hold (clauses L n 2 k)) (both_held l f).1 p)

pub steps_whole : (L : Limits) → Fits L → (n : Node) → board_ok L n ≡ true → position_ok n ≡ true → tallies_ok L n ≡ true
    → total_ok L n ≡ true → busy_ok n ≡ true → ((k : ℕ) → k < width → step_at L n k ≡ true) → Whole L n
steps_whole L fit n board position tallies total busy steps =
    let low : (k : ℕ) → k < dims n → k < width = λ k l. omega (arith, few L fit n board) in
    record {
      board = board;
      position = position;
      tallies = tallies;
      total = total;
      first = every_make 0 width (first_ok L n) (λ k a b. step_first L n board k (steps k (omega arith)));
      second = every_make 0 width (second_ok L n) (λ k a b. step_second L n board k (steps k (omega arith)));
      passed =
          all_passed L n position (λ k l p. step_agrees_first L n board k (steps k (low k l)) l p)
          (λ k l p. step_agrees_second L n board k (steps k (low k l)) l p);
      busy = busy;
    }
