-- Laws of words put into bytes, number by number.
use mathlib.Core.Path.{◌≡◌, sym, ap, ◌∙◌}
use mathlib.Core.List.{List}
use Prim.Native.Nat.{ℕ, ◌+◌, ◌*◌, ◌≤◌, ◌<◌}
use native.Mathlib.Numerals.{add-one}
use native.Mathlib.Omega.{arith}
use lib.ListN.{length, get_or, take}
use lib.Seq.{take-suc, take-length, length-take-le}
use borrow.Author.Tests.{le-leb, lt-leb}
use Rattle.base.proofs.Laws.{choose_yes, choose_no}
use Rattle.frame.specs.Numbers.{four_bytes, bytes_of}
use Rattle.frame.specs.Parts.{pasted}
use Rattle.frame.proofs.Words.{length_four_bytes, length_bytes_of, bytes_of_more}
use Rattle.frame.proofs.Pasting.{paste_none, paste_more}
use Rattle.wire.specs.Wire.{put_numbers}

pub put_none : (d ws : List ℕ) (at : ℕ) → d ≡ pasted d at (bytes_of (take 0 ws))
unfolding bytes_of
put_none d ws at = paste_none d at

-- one number more is put
pub put_more : (d s t ws : List ℕ) (at to i : ℕ) → i < length ws → at + 4 * length ws ≤ length d → to ≡ at + 4 * i
    → s ≡ pasted d at (bytes_of (take i ws)) → t ≡ pasted s to (four_bytes (get_or ws i 0))
    → t ≡ pasted d at (bytes_of (take (i + 1) ws))
put_more d s t ws at to i h l z e g =
    let c : length (bytes_of (take i ws)) ≡ 4 * i =
    length_bytes_of (take i ws) ∙ ap (λ n. 4 * n) (length-take-le i ws (omega arith)) in
    g ∙ rw (z, e, add-one, take-suc ws i 0 h, bytes_of_more)
    (paste_more d at (4 * i) (bytes_of (take i ws)) (four_bytes (get_or ws i 0)) c (simp length_four_bytes (omega arith)))

-- all are
put_all : (d s ws : List ℕ) (at i : ℕ) → i ≡ length ws → s ≡ pasted d at (bytes_of (take i ws))
    → s ≡ pasted d at (bytes_of ws)
put_all d s ws at i h e = e ∙ rw (h, take-length)

-- none are, or all
pub put_no : (d ws : List ℕ) (at : ℕ) → length d < at + 4 * length ws → d ≡ put_numbers d at ws
put_no d ws at h = sym (choose_no _ _ (lt-leb (at + 4 * length ws) (length d) h))

pub put_yes : (d s ws : List ℕ) (at i : ℕ) → i ≡ length ws → at + 4 * length ws ≤ length d
    → s ≡ pasted d at (bytes_of (take i ws)) → s ≡ put_numbers d at ws
put_yes d s ws at i h r e =
    put_all d s ws at i h e ∙ sym (choose_yes _ _ (le-leb (at + 4 * length ws) (length d) r))
