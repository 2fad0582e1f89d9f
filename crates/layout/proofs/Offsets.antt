-- Laws of the offsets: what each dimension takes, the closed forms, and that the words of one dimension are apart from
-- those of another and inside the state.
use mathlib.Core.Path.{◌≡◌, refl, ◌∙◌}
use Prim.Native.Nat.{ℕ, zero, suc, ◌+◌, ◌*◌, ◌-◌, ◌≤◌, ◌<◌}
use native.Mathlib.Nat.{mul-suc, suc-mul}
use native.Mathlib.Decide.{dec_le}
use native.Mathlib.Omega.{arith}
use lib.Dec.{leb}
use borrow.Author.Tests.{le-leb}
use Rattle.base.specs.Choice.{choose}
use Rattle.base.proofs.Laws.{choose_yes}
use Rattle.base.proofs.Limits.{mul_low}
use Rattle.base.specs.Limits.{width}
use Rattle.layout.specs.Places.{at_first, state_words, head_words, step_words, most_words}

pub first_none : (p : ℕ) → at_first p 0 ≡ head_words + 2 * p
unfolding at_first
first_none p = refl

pub first_more : (p k : ℕ) → at_first p (suc k) ≡ at_first p k + step_words p k
unfolding at_first
first_more p k = omega arith

-- with r dimensions from dimension k on
closed : (k r p : ℕ) → k + r ≡ p → at_first p k ≡ head_words + 2 * p + k * (k + 2 * r + 7)
unfolding at_first
closed zero r p e = omega arith
closed (suc k) r p e =
    let n = k + 2 * r + 7 in
    let x : k + 2 * suc r + 7 ≡ suc (suc n) = omega arith in
    let y : suc k + 2 * r + 7 ≡ suc n = omega arith in
    let h : at_first p k ≡ head_words + 2 * p + k * suc (suc n) = rw x at (closed k (suc r) p (omega arith)) in
    rw y (omega (arith, h, mul-suc k (suc n), suc-mul k (suc n)))

pub first_closed : (p k : ℕ) → k ≤ p → at_first p k ≡ head_words + 2 * p + k * (2 * p + 7 - k)
first_closed p k h =
    let e : k + (p - k) ≡ p = omega arith in
    let x : k + 2 * (p - k) + 7 ≡ 2 * p + 7 - k = omega arith in
    rw x at (closed k (p - k) p e)

pub words_closed : (p : ℕ) → state_words p ≡ head_words + p * (p + 9)
words_closed p =
    let x : 2 * p + 7 - p ≡ p + 7 = omega arith in
    let y : p + 9 ≡ suc (suc (p + 7)) = omega arith in
    let h : at_first p p ≡ head_words + 2 * p + p * (p + 7) = rw x at (first_closed p p (omega arith)) in
    rw y (omega (arith, h, mul-suc p (suc (p + 7)), mul-suc p (p + 7)))

pub first_above : (p k : ℕ) → head_words + 2 * p ≤ at_first p k
unfolding at_first
first_above p zero = omega arith
first_above p (suc k) = omega (arith, first_above p k)

pub first_apart : (p j k : ℕ) → j < k → at_first p j + step_words p j ≤ at_first p k
first_apart p j zero h = absurd (omega arith)
first_apart p j (suc k) h = rw first_more (go (λ l. first_apart p j k l) (dec_le (suc j) k))
  where
    go : (j < k → at_first p j + step_words p j ≤ at_first p k) → Dec (j < k)
        → at_first p j + step_words p j ≤ at_first p k + step_words p k
    go r (yes l) = omega (arith, r l)
    go r (no l) = let e : j ≡ k = omega arith in rw e (omega arith)

pub first_up : (p j k : ℕ) → j ≤ k → at_first p j ≤ at_first p k
first_up p j k h = go (dec_le (suc j) k)
  where
    go : Dec (j < k) → at_first p j ≤ at_first p k
    go (yes l) = omega (arith, first_apart p j k l)
    go (no l) = let e : j ≡ k = omega arith in rw e (omega arith)

pub first_inside : (p k : ℕ) → k < p → at_first p k + step_words p k ≤ state_words p
first_inside p k h = first_apart p k p h

-- the words of the largest board
pub most_words_lem : state_words width ≡ most_words
most_words_lem = words_closed width

pub words_low : (p : ℕ) → p ≤ width → state_words p ≤ most_words
words_low p l = omega (arith, words_closed p, mul_low p width (p + 9) (width + 9) l (omega arith))

pub first_end : (p k : ℕ) → k < p → p ≤ width → at_first p k + step_words p k ≤ most_words
first_end p k h l = omega (arith, first_inside p k h, words_low p l)

-- where the words of a dimension begin, by the lookup
pub first_found : (p k at : ℕ) → k < p → at ≡ choose (leb k p) (at_first p k) 0 → at ≡ at_first p k
first_found p k at h e = e ∙ choose_yes _ _ (le-leb k p (omega arith))
