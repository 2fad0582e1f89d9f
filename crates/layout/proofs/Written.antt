-- Words of which only a block was written: those below and above it stay, and the block is read back.
use mathlib.Core.Path.{◌≡◌, sym, ap, ◌∙◌}
use mathlib.Core.List.{List, ◌++◌}
use Prim.Native.Nat.{ℕ, ◌+◌, ◌-◌, ◌≤◌, ◌<◌}
use native.Mathlib.Omega.{arith}
use lib.ListN.{length, get_or, take, drop, set, length-set, length-drop, length-append, get_or-append}
use lib.Seq.{get_or-set_other, get_or-drop, get_or-take, get_or-append-add, length-take-le, ext_get_or}
use Rattle.frame.specs.Parts.{pasted}
use Rattle.frame.proofs.Pasting.{length_pasted}
use Rattle.layout.specs.Held.{word}

-- no word changed but some of the n from `at` on
pub record Written (ws after : List ℕ) (at n : ℕ) : Type 0 where
  pub low : (i : ℕ) → i < at → word after i ≡ word ws i
  pub high : (i : ℕ) → at + n ≤ i → word after i ≡ word ws i
  pub size : length after ≡ length ws

pub written_set : (ws : List ℕ) (i x : ℕ) → Written ws (set ws i x) i 1
written_set ws i x =
    record {
      low = λ j h. get_or-set_other ws i j x 0 (λ z. omega arith);
      high = λ j h. get_or-set_other ws i j x 0 (λ z. omega arith);
      size = length-set ws i x;
    }

-- two writes in one block
pub written_then : {ws mid after : List ℕ} {at n : ℕ} → Written ws mid at n → Written mid after at n
    → Written ws after at n
written_then a b =
    record {
      low = λ i h. b.low i h ∙ a.low i h;
      high = λ i h. b.high i h ∙ a.high i h;
      size = b.size ∙ a.size;
    }

-- a block is part of a larger one
pub written_within : {ws after : List ℕ} {at n : ℕ} (from m : ℕ) → from ≤ at → at + n ≤ from + m → Written ws after at n
    → Written ws after from m
written_within from m a b w =
    record { low = λ i h. w.low i (omega arith); high = λ i h. w.high i (omega arith); size = w.size }

-- the words after the block
pub written_drop : {ws after : List ℕ} {at n : ℕ} (m : ℕ) → at + n ≤ m → Written ws after at n → drop m after ≡ drop m ws
written_drop {ws} {after} m h w =
    ext_get_or 0 (drop m after) (drop m ws) (length-drop m after ∙ ap (λ l. l - m) w.size ∙ sym (length-drop m ws))
    (λ i l. get_or-drop m after i 0 ∙ w.high (m + i) (omega arith) ∙ sym (get_or-drop m ws i 0))

-- ---- Words pasted

module _ (ws : List ℕ) (at : ℕ) (l : List ℕ) (fits : at + length l ≤ length ws) where
  -- the words up to the end of the block
  begun : length (take at ws ++ l) ≡ at + length l
  begun = simp (length-append, length-take-le at ws (omega arith))

  pub paste_here : (i : ℕ) → i < length l → word (pasted ws at l) (at + i) ≡ word l i
  unfolding pasted
  paste_here i h =
      let t : length (take at ws) ≡ at = length-take-le at ws (omega arith) in
      get_or-append (take at ws ++ l) (drop (at + length l) ws) 0 (at + i) (omega (arith, begun))
      ∙ ap (λ j. get_or (take at ws ++ l) (j + i) 0) (sym t)
      ∙ get_or-append-add (take at ws) l i 0

  pub written_paste : Written ws (pasted ws at l) at (length l)
  unfolding pasted
  written_paste =
      record {
        low = λ i h.
            get_or-append (take at ws ++ l) (drop (at + length l) ws) 0 i (omega (arith, begun))
            ∙ get_or-append (take at ws) l 0 i (omega (arith, length-take-le at ws (omega arith)))
            ∙ get_or-take at ws i 0 h;
        high = λ i h. above i (i - (at + length l)) (omega arith);
        size = length_pasted ws at l fits;
      }
    where
      above : (i j : ℕ) → i ≡ at + length l + j → word (pasted ws at l) i ≡ word ws i
      above i j e =
          rw (e, ← begun)
          (get_or-append-add (take at ws ++ l) (drop (length (take at ws ++ l)) ws) j 0
          ∙ get_or-drop (length (take at ws ++ l)) ws j 0)
