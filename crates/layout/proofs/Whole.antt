-- What the test of the words says of them, and that these facts pass it.
use mathlib.Core.Path.{◌≡◌, ap}
use mathlib.Core.Bool.{true, false, not}
use mathlib.Core.List.{List}
use Prim.Native.Nat.{ℕ, ◌≤◌, ◌<◌}
use native.Mathlib.Omega.{arith}
use lib.Dec.{ltb}
use lib.ListN.{length}
use borrow.Author.Tests.{ltb-true, lt-ltb, leb-true, le-leb, not-true}
use Rattle.base.specs.Choice.{every}
use Rattle.base.specs.Limits.{Limits, Fits, width}
use Rattle.base.proofs.Laws.{both_true, both_make, every_at, every_make}
use Rattle.tree.specs.Lookups.{bad_board}
use Rattle.tree.proofs.Dimension.{smallest}
use Rattle.tree.proofs.Lookups.{board_good}
use Rattle.layout.specs.Places.{at_nodes, at_phase, at_busy, at_flag, at_first, at_second, state_words}
use Rattle.layout.specs.Held.{word, dims_of, is_marked, is_whole}

pub record Whole (L : Limits) (ws : List ℕ) : Type 0 where
  pub board : bad_board L (word ws at_nodes) ≡ false
  pub long : state_words (dims_of ws) ≤ length ws
  pub phase : word ws at_phase < 256
  pub busy : word ws at_busy < 2
  pub flag : word ws at_flag < 2
  pub first : (k : ℕ) → k < dims_of ws → word ws (at_first (dims_of ws) k) < 2
  pub second : (k : ℕ) → k < dims_of ws → word ws (at_second (dims_of ws) k) < 2

marked : (ws : List ℕ) (p k : ℕ) → every 0 p (is_marked ws p) ≡ true → k < p
    → (ltb (word ws (at_first p k)) 2 ≡ true) × (ltb (word ws (at_second p k)) 2 ≡ true)
marked ws p k e l =
    both_true (ltb (word ws (at_first p k)) 2) (ltb (word ws (at_second p k)) 2)
    (every_at 0 p (is_marked ws p) e k (omega arith) (omega arith))

pub whole : (L : Limits) (ws : List ℕ) → is_whole L ws ≡ true → Whole L ws
unfolding is_whole
whole L ws e =
    let a = both_true _ _ e in
    let b = both_true _ _ a.1 in
    let c = both_true _ _ b.1 in
    let d = both_true _ _ c.1 in
    let f = both_true _ _ d.1 in
    record {
      board = not-true _ a.0;
      long = leb-true _ _ b.0;
      phase = ltb-true _ _ c.0;
      busy = ltb-true _ _ d.0;
      flag = ltb-true _ _ f.0;
      first = λ k l. ltb-true _ _ (marked ws (dims_of ws) k f.1 l).0;
      second = λ k l. ltb-true _ _ (marked ws (dims_of ws) k f.1 l).1;
    }

pub whole_made : (L : Limits) (ws : List ℕ) → Whole L ws → is_whole L ws ≡ true
unfolding is_whole
whole_made L ws w =
    both_make (ap not w.board)
    (both_make (le-leb _ _ w.long)
    (both_make (lt-ltb _ _ w.phase)
    (both_make (lt-ltb _ _ w.busy)
    (both_make (lt-ltb _ _ w.flag)
    (every_make 0 (dims_of ws) (is_marked ws (dims_of ws))
    (λ k a b.
    let l : k < dims_of ws = omega arith in both_make (lt-ltb _ _ (w.first k l)) (lt-ltb _ _ (w.second k l))))))))

-- no board of a build has more than `width` dimensions
pub few : (L : Limits) → Fits L → (ws : List ℕ) → bad_board L (word ws at_nodes) ≡ false → dims_of ws ≤ width
few L fit ws e =
    let g = board_good L (word ws at_nodes) e in
    let h = fit.nodes in
    smallest (word ws at_nodes) width (omega (arith, g.1))
