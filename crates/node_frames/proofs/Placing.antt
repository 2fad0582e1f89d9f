-- The words of a frame put in their place, first the mark, then the numbers; and the words of the position put back.
use mathlib.Core.Path.{◌≡◌, refl, sym, ap, ◌∙◌}
use mathlib.Core.List.{List, [], ◌∷◌, ◌++◌, append_assoc}
use Prim.Native.Nat.{ℕ, suc, ◌+◌, ◌-◌, ◌*◌, ◌≤◌, ◌<◌}
use native.Mathlib.Numerals.{add-one}
use native.Mathlib.Omega.{arith}
use borrow.Author.Tests.{ne_eqb}
use borrow.Rule.Slice.PartMut.{put_mid}
use lib.ListN.{length, set, take, drop, length-set}
use lib.Seq.{drop-drop, set_split, append_snoc, get_or-set_other, set-get_or}
use Rattle.base.specs.Choice.{list}
use Rattle.base.proofs.Laws.{length_list}
use Rattle.frame.specs.Frame.{number_at}
use Rattle.frame.specs.Parts.{pasted}
use Rattle.frame.proofs.Pasting.{paste_more}
use Rattle.layout.specs.Places.{at_pass, at_dim, at_flag, at_agreed, mark_words}
use Rattle.layout.specs.Held.{word}
use Rattle.wire_read.specs.Read.{numbers_from}
use Rattle.wire_read.proofs.Copies.{part_copied}
use Rattle.node_frames.specs.Pieces.{back_words}

-- a part that is put back is pasted
part_pasted : (l ys : List ℕ) (from n : ℕ) → length ys ≡ n → put_mid from n l ys ≡ pasted l from ys
unfolding pasted
part_pasted l ys from n e =
    rw e
    (ap (λ r. take from l ++ (ys ++ r)) (drop-drop n from l) ∙ sym (append_assoc (take from l) ys (drop (from + n) l)))

mark_pasted : (l : List ℕ) (at x : ℕ) → at < length l → set l at x ≡ pasted l at (x ∷ [])
unfolding pasted
mark_pasted l at x h = set_split l at x h ∙ rw add-one (sym (append_snoc (take at l) x (drop (suc at) l)))

-- the mark and the part with the numbers are the words of the frame
pub frame_put : (ws bs ys : List ℕ) (at n from end : ℕ) → from ≡ at + mark_words → end ≡ from + n → end ≤ length ws
    → 4 + 4 * n ≤ length bs → ys ≡ numbers_from bs (take (end - from) (drop from (set ws at 1)))
    → put_mid from (end - from) (set ws at 1) ys ≡ pasted ws at (1 ∷ list 0 n (number_at bs))
frame_put ws bs ys at n from end f g h r e =
    let z : end - from ≡ n = omega arith in
    let m : List ℕ = set ws at 1 in
    let y : ys ≡ list 0 n (number_at bs) =
    part_copied bs m ys from n (simp length-set (omega arith)) r (rw z at e) in
    let w = length_list 0 n (number_at bs) in
    rw (y, z)
    (part_pasted m (list 0 n (number_at bs)) from n w
    ∙ rw (f, mark_pasted ws at 1 (omega arith))
    (paste_more ws at 1 (1 ∷ []) (list 0 n (number_at bs)) refl (omega arith)))

-- T stays but in pass 1
pub back_kept : (ws : List ℕ) (pass k : ℕ) → (pass ≡ 1 → ⊥)
    → set (set (set ws at_pass pass) at_dim k) at_flag 0 ≡ back_words ws pass k
unfolding back_words
back_kept ws pass k e =
    let a : List ℕ = set ws at_pass pass in
    let b : List ℕ = set a at_dim k in
    let c : List ℕ = set b at_flag 0 in
    let z : word c at_agreed ≡ word ws at_agreed =
    get_or-set_other b at_flag at_agreed 0 0 (λ q. omega arith)
    ∙ get_or-set_other a at_dim at_agreed k 0 (λ q. omega arith)
    ∙ get_or-set_other ws at_pass at_agreed pass 0 (λ q. omega arith) in
    sym (rw (ne_eqb pass 1 e, ← z) (set-get_or c at_agreed 0))
