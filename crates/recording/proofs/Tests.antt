-- The test of bytes, part by part: what is refused, and what holds of bytes that are not.
use mathlib.Core.Path.{◌≡◌, refl, ◌∙◌}
use mathlib.Core.Bool.{Bool, true, false, not}
use mathlib.Core.List.{List}
use Prim.Native.Nat.{ℕ, suc, ◌+◌, ◌-◌, ◌*◌, ◌≤◌, ◌<◌}
use native.Mathlib.Nat.{sub-zero}
use native.Mathlib.Omega.{arith}
use borrow.Author.Tests.{lt-ltb, le-ltb, ne_eqb}
use lib.Dec.{ltb, eqb}
use lib.ListN.{length, get_or, drop, length-drop}
use Rattle.base.specs.Choice.{both, either, list}
use Rattle.base.proofs.Laws.{length_list}
use Rattle.recording.specs.Recording.{bodies, sections_in, start_at, count_at, recording_in}
use Rattle.recording.specs.Test.{outside, sum, is_bad_by, placed, is_bad, is_bad_in}
use Rattle.recording.proofs.Sizes.{sized}
use Rattle.recording.proofs.Survives.{known}

either_right : (s : Bool) {t : Bool} → t ≡ true → either s t ≡ true
either_right true e = refl
either_right false e = e

pub above : (most x : ℕ) → most < x → outside most x ≡ true
above most x l = rw (ne_eqb x 0 (λ e. omega arith), lt-ltb most x l)

-- ---- Where bodies begin

module _ (bs : List ℕ) where
  pub placed_start : (at n : ℕ) → placed bs at 0 n ≡ placed bs at 0 (n - 0)
  placed_start at n = rw sub-zero

  -- the first of the sections that are left, and the rest
  pub placed_here : (at i n : ℕ) → i < n
      → placed bs at i (n - i)
      ≡ both (eqb (start_at bs i) at) (placed bs (at + 4 * count_at bs i) (i + 1) (n - (i + 1)))
  unfolding placed
  placed_here at i n h = let e : n - i ≡ suc (n - (i + 1)) = omega arith in rw e

  pub placed_end : (at i n : ℕ) → n ≤ i → placed bs at i (n - i) ≡ true
  unfolding placed
  placed_end at i n h = let e : n - i ≡ 0 = omega arith in rw e

-- ---- What is refused

module _ (bs : List ℕ) where
  abbrev held_bad : Bool
  held_bad =
      is_bad_by (get_or bs 0 0) (sections_in bs) (sum (list 0 (sections_in bs) (count_at bs)))
      (drop (bodies (sections_in bs)) bs)

  held : is_bad (recording_in bs) ≡ held_bad
  unfolding recording_in
  held = rw length_list

  pub bad_short : length bs < bodies (sections_in bs) → is_bad_in bs ≡ true
  unfolding is_bad_in
  bad_short h = rw (lt-ltb (length bs) (bodies (sections_in bs)) h)

  pub bad_many : 32 < sections_in bs → is_bad_in bs ≡ true
  unfolding is_bad_in is_bad_by
  bad_many h =
      either_right (ltb (length bs) (bodies (sections_in bs)))
      (either_right (not (placed bs (bodies (sections_in bs)) 0 (sections_in bs)))
      (held ∙ either_right (outside 16 (get_or bs 0 0)) (rw (above 32 (sections_in bs) h))))

  -- by the number of sections as it was read
  module _ (n : ℕ) (read : n ≡ sections_in bs) where
    pub bad_placed : placed bs (bodies n) 0 n ≡ false → is_bad_in bs ≡ true
    unfolding is_bad_in
    bad_placed e = either_right (ltb (length bs) (bodies (sections_in bs))) (rw (← read, e))

    -- what is left, once the table is there and the bodies stand behind it
    pub bad_held : bodies n ≤ length bs → placed bs (bodies n) 0 n ≡ true → (nodes total : ℕ) (events : List ℕ)
        → nodes ≡ get_or bs 0 0 → total ≡ sum (list 0 n (count_at bs)) → events ≡ drop (bodies n) bs
        → is_bad_by nodes n total events ≡ is_bad_in bs
    unfolding is_bad_in
    bad_held h e nodes total events p q r =
        rw (held, ← read, p, q, r, le-ltb (length bs) (bodies n) h, e)

-- ---- What is not refused

pub record HeldSizes (bs : List ℕ) : Type 0 where
  pub table : bodies (sections_in bs) ≤ length bs
  pub few : sections_in bs ≤ 32
  pub small : length bs ≤ 60000

pub held_sizes : (bs : List ℕ) → is_bad_in bs ≡ false → HeldSizes bs
unfolding recording_in
held_sizes bs e =
    let k = known bs e in
    let s = sized (recording_in bs) k.2 in
    let n = length_list 0 (sections_in bs) (count_at bs) in
    record {
      table = k.0;
      few = rw n at s.sections;
      small = omega (arith, rw n at s.room, length-drop (bodies (sections_in bs)) bs);
    }
