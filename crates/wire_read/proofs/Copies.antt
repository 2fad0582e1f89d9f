-- Laws of a frame's numbers copied into words, number by number.
use mathlib.Core.Path.{◌≡◌, ◌∙◌}
use mathlib.Core.List.{List, [], ◌∷◌, ◌++◌, append_assoc}
use Prim.Native.Nat.{ℕ, suc, ◌+◌, ◌*◌, ◌≤◌, ◌<◌}
use native.Mathlib.Nat.{zero-add}
use native.Mathlib.Numerals.{add-one}
use native.Mathlib.Omega.{arith}
use lib.ListN.{length, get_or, set, drop, length-drop}
use lib.Seq.{drop-cons, set_at, length-take-le}
use borrow.Author.Tests.{le-leb}
use Rattle.base.specs.Choice.{list}
use Rattle.base.proofs.Laws.{choose_yes, length_list, list_more}
use Rattle.frame.specs.Frame.{number_at}
use Rattle.wire.specs.Wire.{part}
use Rattle.wire_read.specs.Read.{numbers_from}

-- one number more is copied
pub copy_more : (g : ℕ → ℕ) (ws l : List ℕ) (i : ℕ) → i < length ws → l ≡ list 0 i g ++ drop i ws
    → set l i (g i) ≡ list 0 (i + 1) g ++ drop (i + 1) ws
copy_more g ws l i h e =
    let z : 0 + i ≡ i = zero-add i in
    let w : list 0 (i + 1) g ≡ list 0 i g ++ (g i ∷ []) = list_more 0 i g ∙ rw z in
    rw (e, w, append_assoc (list 0 i g) (g i ∷ []) (drop (i + 1) ws), drop-cons ws i 0 h, add-one)
    (set_at (list 0 i g) (get_or ws i 0) (drop (suc i) ws) (g i) i (length_list 0 i g))

-- a part of words that got numbers
pub part_copied : (bs ws ys : List ℕ) (at n : ℕ) → at + n ≤ length ws → 4 + 4 * n ≤ length bs
    → ys ≡ numbers_from bs (part ws at n) → ys ≡ list 0 n (number_at bs)
part_copied bs ws ys at n h r e =
    let c : length (part ws at n) ≡ n = length-take-le n (drop at ws) (simp length-drop (omega arith)) in
    e ∙ choose_yes _ _ (le-leb (4 + 4 * length (part ws at n)) (length bs) (rw c r)) ∙ rw c
