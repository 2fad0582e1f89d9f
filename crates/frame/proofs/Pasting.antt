-- Laws of a buffer that is being written: four bytes put, one paste after another.
use Rattle.std.proofs.Common.{◌≡◌, ℕ, suc, ◌+◌, ◌≤◌, List, [], ◌∷◌, ◌++◌, length, take, drop, set, sym, ap, ◌∙◌, append_assoc, append-nil, add-zero, arith, length-append, length-drop, take-append-drop, length-take-le, drop-drop, take_at}
use lib.Seq.{sets-eq, drop-append-add}
use Rattle.frame.specs.Parts.{pasted}

pub put_four : (l : List ℕ) (at a b c d : ℕ) → at + 4 ≤ length l
    → set (set (set (set l at a) (at + 1) b) (at + 2) c) (at + 3) d ≡ pasted l at (a ∷ b ∷ c ∷ d ∷ [])
unfolding pasted
put_four l at a b c d h =
    let e1 : at + 1 ≡ suc at = omega arith in
    let e2 : at + 2 ≡ suc (suc at) = omega arith in
    let e3 : at + 3 ≡ suc (suc (suc at)) = omega arith in
    rw (e1, e2, e3) (sets-eq (a ∷ b ∷ c ∷ d ∷ []) l at h)

pub length_pasted : (l : List ℕ) (at : ℕ) (bs : List ℕ) → at + length bs ≤ length l → length (pasted l at bs) ≡ length l
unfolding pasted
length_pasted l at bs h = simp (length-append, length-take-le at l (omega arith), length-drop) (omega arith)

pub paste_none : (l : List ℕ) (at : ℕ) → l ≡ pasted l at []
unfolding pasted
paste_none l at = sym (rw (add-zero, append-nil, take-append-drop))

-- two pastes side by side are one
pub paste_more : (l : List ℕ) (at n : ℕ) (bs cs : List ℕ) → length bs ≡ n → at + n + length cs ≤ length l
    → pasted (pasted l at bs) (at + n) cs ≡ pasted l at (bs ++ cs)
unfolding pasted
paste_more l at n bs cs e h =
    let p : List ℕ = take at l ++ bs in
    let q : List ℕ = drop (at + length bs) l in
    let lp : length p ≡ at + n = simp (length-append, length-take-le at l (omega arith)) (omega arith) in
    let k : at + length bs + length cs ≡ at + length (bs ++ cs) = simp length-append (omega arith) in
    let d : drop (at + n + length cs) (p ++ q) ≡ drop (at + length (bs ++ cs)) l =
    rw (← lp)
    (drop-append-add p q (length cs) ∙ drop-drop (length cs) (at + length bs) l ∙ ap (λ (m : ℕ). drop m l) k) in
    rw (take_at p q (at + n) lp, d, append_assoc (take at l) bs cs)
