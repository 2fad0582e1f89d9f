-- A frame put into lent bytes: its length, and the bytes after it; where there is room, and where there is none.
use mathlib.Core.Path.{◌≡◌, sym, ap, ◌∙◌}
use mathlib.Core.List.{List, ◌++◌}
use Prim.Native.Nat.{ℕ, ◌+◌, ◌*◌, ◌≤◌, ◌<◌}
use native.Mathlib.Omega.{arith}
use lib.ListN.{length}
use borrow.Author.Tests.{lt-ltb, le-ltb}
use Rattle.std.proofs.Common.{Some, None}
use Rattle.base.proofs.Laws.{choose_yes, choose_no}
use Rattle.frame.specs.Numbers.{bytes_of}
use Rattle.frame.specs.Parts.{pasted}
use Rattle.wire.proofs.Putting.{length_pieces, whole_put}
use Rattle.second_frame.specs.Putting.{put_length, put_bytes}

module _ (buf head : List ℕ) (four : length head ≡ 4) where
  -- the head and so many numbers
  abbrev frame : List ℕ → List ℕ
  frame xs = head ++ bytes_of xs

  -- where there is room
  pub room : (xs : List ℕ) (n : ℕ) (l : List ℕ) → n ≡ 4 + 4 * length xs → n ≤ length buf → l ≡ pasted buf 0 (frame xs)
      → (Some n ≡ put_length (frame xs) (length buf)) × (l ≡ put_bytes (frame xs) buf)
  room xs n l e h f =
      let b = length_pieces buf head four xs in
      let t = le-ltb (length buf) (length (frame xs)) (omega arith) in
      let m : n ≡ length (frame xs) = omega arith in
      (ap Some m ∙ sym (choose_no _ _ t), f ∙ whole_put buf head four xs ∙ sym (choose_no _ _ t))

  -- and where there is none
  pub no_room : (xs : List ℕ) → length buf < 4 + 4 * length xs
      → (None ≡ put_length (frame xs) (length buf)) × (buf ≡ put_bytes (frame xs) buf)
  no_room xs h =
      let b = length_pieces buf head four xs in
      let t = lt-ltb (length buf) (length (frame xs)) (omega arith) in
      (sym (choose_yes _ _ t), sym (choose_yes _ _ t))
