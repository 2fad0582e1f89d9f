-- Whether an item stands at a place, as the code tests it.
use mathlib.Core.Path.{◌≡◌, ap, ◌∙◌}
use mathlib.Core.Bool.{false, not}
use mathlib.Core.List.{List}
use Prim.Native.Nat.{ℕ, ◌/◌, min, ◌≤◌, ◌<◌}
use native.Mathlib.Decide.{dec_lt}
use native.Mathlib.Omega.{arith}
use lib.Dec.{ltb, leb}
use lib.ListN.{length}
use borrow.Author.Tests.{lt-ltb, le-ltb, le-leb, lt-leb, eq-eqb, ne_eqb}
use Rattle.base.specs.Limits.{base}
use Rattle.under_way.specs.Frames.{place_size, room_for}
use Rattle.stage.specs.Board.{is_there}
use Rattle.board_states.specs.declared.Stage.{Stage}

flipped : (x y : ℕ) → not (ltb y x) ≡ leb x y
flipped x y = go (dec_lt y x)
  where
    go : Dec (y < x) → not (ltb y x) ≡ leb x y
    go (yes h) = rw (lt-ltb y x h, lt-leb x y h)
    go (no h) = let l : x ≤ y = omega arith in rw (le-ltb y x l, le-leb x y l)

module _ (st : Stage) (headers : ℕ) (bytes : List ℕ) (at : ℕ) where
  pub there_not : st.under ≤ at → is_there st headers bytes at ≡ false
  there_not h = rw (le-ltb at st.under h)

  module _ (len room : ℕ) (e : len ≡ length bytes) (r : room ≡ min 512 (min headers (len / place_size)))
      (h : at < st.under) where
    same_room : room ≡ room_for headers bytes
    same_room = r ∙ ap (λ n. min 512 (min headers (n / place_size))) e

    pub there_unlent : room < st.under → is_there st headers bytes at ≡ false
    there_unlent l =
        let z = same_room in
        rw (lt-ltb at st.under h, lt-leb st.under (room_for headers bytes) (omega arith))

    pub there_sized : st.under ≤ room → 0 < st.size → is_there st headers bytes at ≡ leb st.size base.nodes
    there_sized l m =
        let z = same_room in
        rw (lt-ltb at st.under h, le-leb st.under (room_for headers bytes) (omega arith))
        (rw (ne_eqb st.size 0 (λ q. omega arith)) (flipped st.size base.nodes))

    pub there_none : st.under ≤ room → st.size ≤ 0 → is_there st headers bytes at ≡ false
    there_none l m =
        let z = same_room in
        rw (lt-ltb at st.under h, le-leb st.under (room_for headers bytes) (omega arith))
        (rw (eq-eqb st.size 0 (omega arith)))
