-- The bytes of the places: a frame written at one, a frame held at one, and the gap closed.
use mathlib.Core.Path.{◌≡◌, sym, ap, ◌∙◌}
use mathlib.Core.List.{List, ◌++◌, append_assoc}
use Prim.Native.Nat.{ℕ, ◌+◌, ◌-◌, ◌*◌, ◌≤◌, ◌<◌}
use native.Mathlib.Omega.{arith}
use lib.ListN.{length, get_or, take, drop, length-append, length-drop, take-append-drop}
use lib.Seq.{paste, drop-drop, drop-append-le, length-take-le, get_or-drop}
use borrow.Rule.Slice.PartMut.{put_mid, mid_of}
use Rattle.tree.specs.Tree.{dimension}
use Rattle.frame.specs.Frame.{frame_length}
use Rattle.under_way.specs.Frames.{place_size, closed, framed, frame_held}

-- a frame at the start of the lent part is a frame at the place
pub frame_part : (s : List ℕ) (place k n : ℕ) (frame : List ℕ) → k ≡ place_size → length frame ≡ n → n ≤ k
    → place_size * place + k ≤ length s
    → put_mid (place_size * place) k s (frame ++ drop n (mid_of (place_size * place) k s)) ≡ framed s place frame
unfolding framed
frame_part s place k n frame z e h l =
    let a = place_size * place in
    let m : List ℕ = drop a s in
    let lm : length (take k m) ≡ k = length-take-le k m (rw length-drop (omega arith)) in
    let rest : drop n (take k m) ++ drop k m ≡ drop (a + length frame) s =
    sym (drop-append-le n (take k m) (drop k m) (omega arith))
    ∙ ap (drop n) (take-append-drop k m)
    ∙ drop-drop n a s
    ∙ ap (λ i. drop (a + i) s) (sym e) in
    ap (λ r. take a s ++ r) (append_assoc frame (drop n (take k m)) (drop k m) ∙ ap (λ r. frame ++ r) rest)

-- a frame that fits leaves the bytes as many as they are
pub length_framed : (bytes : List ℕ) (place : ℕ) (frame : List ℕ) → place_size * place + length frame ≤ length bytes
    → length (framed bytes place frame) ≡ length bytes
unfolding framed
length_framed bytes place frame l =
    let a = place_size * place in
    let rest = drop (a + length frame) bytes in
    length-append (take a bytes) (frame ++ rest)
    ∙ omega
    (arith, length-take-le a bytes (omega arith), length-append frame rest, length-drop (a + length frame) bytes)

-- the frame held at a place, as it is read
pub held : (s : List ℕ) (size at n : ℕ)
    → n ≡ frame_length (dimension size) (get_or s (place_size * at) 0) (get_or s (place_size * at + 2) 0)
    → mid_of (place_size * at) (place_size * at + n - place_size * at) s ≡ frame_held size s at
held s size at n e =
    let a = place_size * at in
    let k : a + n - a ≡ n = omega arith in
    let z : a + 0 ≡ a = omega arith in
    let pass : get_or (drop a s) 0 0 ≡ get_or s a 0 = get_or-drop a s 0 0 ∙ ap (λ i. get_or s i 0) z in
    rw (k, e) (sym (λ i. take (frame_length (dimension size) (pass i) (get_or-drop a s 2 0 i)) (drop a s)))

-- ---- the gap

-- the places after it, copied one place down
pub gap_closed : (s : List ℕ) (n at : ℕ) → at < n
    → paste s (place_size * at) (drop (place_size * at + place_size) s)
    (place_size * n - (place_size * at + place_size))
    ≡ closed s n at
unfolding closed
gap_closed s n at h =
    let a = place_size * at in
    let m : place_size * n - (a + place_size) ≡ place_size * (n - (at + 1)) = omega arith in
    let f : a + place_size ≡ place_size * (at + 1) = omega arith in
    let e : a + place_size * (n - (at + 1)) ≡ place_size * (n - 1) = omega arith in
    rw (m, f, e)
    (append_assoc (take a s) (take (place_size * (n - (at + 1))) (drop (place_size * (at + 1)) s))
    (drop (place_size * (n - 1)) s))
