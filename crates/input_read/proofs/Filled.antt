-- What a slice has at its front once the rest of it was lent and written.
use Rattle.std.proofs.Common.{◌≡◌, ℕ, ◌+◌, ◌≤◌, List, ◌++◌, length, take, drop, sym, ap, ◌∙◌, le_refl, drop_at, length-take-le}
use Rattle.std.proofs.lemmas.Slice.{take-put_mid_below}
use borrow.Rule.Slice.PartMut.{put_mid, post_of}
use lib.Seq.{take-add, take-append-le}

-- the first a items stay, and behind them come the first n of what was written
pub filled_more : (a k n : ℕ) (xs ys : List ℕ) → a ≤ length xs → n ≤ length ys → take a xs ++ take n ys ≡ take (a + n) (put_mid a k xs ys)
filled_more a k n xs ys within fits =
    let new = put_mid a k xs ys in
    let after = post_of a k xs in
    let stay : take a new ≡ take a xs = take-put_mid_below _ _ _ _ _ (le_refl _) within in
    let rest : drop a new ≡ ys ++ after = drop_at (take a xs) (ys ++ after) a (length-take-le a xs within) in
    let part : take n (drop a new) ≡ take n ys = ap (take n) rest ∙ take-append-le n ys after fits in
    sym (take-add a n new ∙ ap (λ l. l ++ take n (drop a new)) stay ∙ ap (λ l. take a xs ++ l) part)
