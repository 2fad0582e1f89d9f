-- What the code's tests say of the state: where one fails it does not pass the test, where all hold it does.
use mathlib.Core.Path.{◌≡◌, sym, ap, ◌∙◌}
use mathlib.Core.Bool.{Bool, true, false, not}
use Prim.Native.Nat.{ℕ, ◌<◌}
use lib.Dec.{ltb}
use Rattle.base.specs.Choice.{both}
use Rattle.base.specs.Limits.{Limits, Fits, width}
use Rattle.base.proofs.Laws.{both_true, both_make}
use Rattle.tree.specs.Lookups.{bad_board}
use Rattle.node.specs.Sums.{dims, all_taken, own}
use Rattle.node.specs.State.{board_ok, position_ok, tallies_ok, total_ok, busy_ok, valid}
use Rattle.node.specs.declared.Node.{Node}
use Rattle.survey.specs.Pieces.{position_test, busy_test, head_test, total_test}
use Rattle.survey.proofs.Valid.{whole_valid, not_both, invalid}
use Rattle.survey.proofs.Tested.{step_at, steps_whole}

-- ---- the head of the state

module _ (L : Limits) (n : Node) (p : ℕ) (good : bad_board L n.nodes ≡ false) (e : p ≡ dims n) where
  abbrev position : Bool
  position = position_test p n.pass n.dim

  abbrev busy : Bool
  busy = busy_test n.busy n.pass n.dim n.flag

  abbrev head : Bool
  head = head_test p n.nodes n.number n.pass n.dim n.busy n.flag

  position_is : position ≡ position_ok n
  unfolding position_ok
  position_is = rw e

  pub bad_head : head ≡ false → valid L n ≡ false
  unfolding board_ok busy_ok
  bad_head f =
      invalid L n
      (λ w.
      let q = both_true (not (bad_board L n.nodes)) (ltb n.number n.nodes) w.board in
      not_both (both_make q.1 (both_make (position_is ∙ w.position) w.busy)) f)

  pub good_head : head ≡ true → (board_ok L n ≡ true) × (position_ok n ≡ true) × (busy_ok n ≡ true)
  unfolding board_ok busy_ok
  good_head f =
      let q = both_true (ltb n.number n.nodes) (both position busy) f in
      let r = both_true position busy q.1 in
      (both_make (ap not good) q.0, sym position_is ∙ r.0, r.1)

-- ---- T

module _ (L : Limits) (n : Node) (received : ℕ) (e : received ≡ own n (dims n) all_taken) where
  abbrev agreed : Bool
  agreed = total_test L n.pass n.agreed received

  total_is : agreed ≡ total_ok L n
  unfolding total_ok
  total_is = ap (total_test L n.pass n.agreed) e

  pub bad_total : agreed ≡ false → valid L n ≡ false
  bad_total f = invalid L n (λ v. not_both (total_is ∙ v.total) f)

  pub good_total : agreed ≡ true → total_ok L n ≡ true
  good_total f = sym total_is ∙ f

module _ (L : Limits) (fit : Fits L) (n : Node) (board : board_ok L n ≡ true)
    (steps : (k : ℕ) → k < width → step_at L n k ≡ true) where
  pub found : position_ok n ≡ true → tallies_ok L n ≡ true → total_ok L n ≡ true → busy_ok n ≡ true → valid L n ≡ true
  found position tallies total busy =
      whole_valid L n (steps_whole L fit n board position tallies total busy steps)
