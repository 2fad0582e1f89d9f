-- What the lent headers and bytes hold after a removal, and after a frame is written.
use mathlib.Core.Path.{◌≡◌, refl, sym, ap, ◌∙◌}
use mathlib.Core.List.{List, ◌++◌}
use Prim.Native.Nat.{ℕ, zero, suc, ◌+◌, ◌-◌, ◌*◌, ◌≤◌, ◌<◌}
use native.Mathlib.Decide.{ℕ_discrete}
use native.Mathlib.Omega.{arith}
use lib.Dec.{eqb}
use lib.ListN.{length, get_or, set, take, drop, length-drop, length-set, take-append-drop}
use lib.ListN.{get_or-append}
use lib.Seq.{length-paste, length-take-le, take-append-le, take-take, take_at, drop-append-le, drop-drop, drop_at}
use lib.Seq.{get_or-take, get_or-set_same, get_or-set_other}
use Rattle.base.specs.Limits.{width}
use Rattle.base.proofs.Laws.{cases}
use Rattle.tree.specs.Tree.{dimension}
use Rattle.frame.specs.Frame.{frame_length}
use Rattle.items.specs.Places.{no_item}
use Rattle.item_changes.specs.Places.{moved, removed}
use Rattle.items.specs.declared.Item.{Item}
use Rattle.under_way.specs.Frames.{place_size, closed, framed, frame_held}
use Rattle.under_way.proofs.Parts.{gap_closed}

-- ---- the headers: those before the gap stay, those after it come one place down

moved_before : (items : List Item) (i count j : ℕ) → j < i
    → get_or (moved items i count) j no_item ≡ get_or items j no_item
unfolding moved
moved_before items i zero j h = refl
moved_before items i (suc count) j h =
    let x = get_or items (i + 1) no_item in
    moved_before (set items i x) (i + 1) count j (omega arith) ∙ get_or-set_other items i j x no_item (omega arith)

moved_after : (items : List Item) (i count j : ℕ) → i + count ≤ length items → i ≤ j → j < i + count
    → get_or (moved items i count) j no_item ≡ get_or items (j + 1) no_item
unfolding moved
moved_after items i zero j l h m = absurd (omega arith)
moved_after items i (suc count) j l h m =
    let s = length-set items i x in
    go (λ k. moved_after next (i + 1) count j (omega arith) k (omega arith)) (ℕ_discrete j i)
  where
    x : Item
    x = get_or items (i + 1) no_item

    next : List Item
    next = set items i x

    go : (i + 1 ≤ j → get_or (moved next (i + 1) count) j no_item ≡ get_or next (j + 1) no_item) → Dec (j ≡ i)
        → get_or (moved next (i + 1) count) j no_item ≡ get_or items (j + 1) no_item
    go r (yes e) =
        rw e (moved_before next (i + 1) count i (omega arith) ∙ get_or-set_same items i x no_item (omega arith))
    go r (no e) = r (omega arith) ∙ get_or-set_other items i (j + 1) x no_item (omega arith)

pub header_before : (items : List Item) (n at j : ℕ) → j < at
    → get_or (removed items n at) j no_item ≡ get_or items j no_item
header_before items n at j h = moved_before items at (n - (at + 1)) j h

pub header_after : (items : List Item) (n at j : ℕ) → n ≤ length items → at ≤ j → j + 1 < n
    → get_or (removed items n at) j no_item ≡ get_or items (j + 1) no_item
header_after items n at j l h m = moved_after items at (n - (at + 1)) j (omega arith) h (omega arith)

-- ---- the lengths

pub length_closed : (bytes : List ℕ) (n at : ℕ) → at < n → place_size * n ≤ length bytes
    → length (closed bytes n at) ≡ length bytes
length_closed bytes n at h l =
    let a = place_size * at in
    ap length (sym (gap_closed bytes n at h))
    ∙ length-paste bytes a (drop (a + place_size) bytes) (place_size * n - (a + place_size)) (omega arith)
    (rw length-drop (omega arith))

-- ---- the bytes of one place

abbrev part : List ℕ → ℕ → List ℕ
part bytes j = take place_size (drop (place_size * j) bytes)

-- the places in a start that stays
part_start : (bytes rest : List ℕ) (n j : ℕ) → j < n → place_size * n ≤ length bytes
    → part (take (place_size * n) bytes ++ rest) j ≡ part bytes j
part_start bytes rest n j h l =
    within rest
    ∙ sym (within (drop (place_size * n) bytes))
    ∙ ap (λ r. part r j) (take-append-drop (place_size * n) bytes)
  where
    front : List ℕ
    front = take (place_size * n) bytes

    within : (r : List ℕ) → part (front ++ r) j ≡ part front j
    within r =
        let f = length-take-le (place_size * n) bytes l in
        let d = length-drop (place_size * j) front in
        ap (take place_size) (drop-append-le (place_size * j) front r (omega arith))
        ∙ take-append-le place_size (drop (place_size * j) front) r (omega arith)

-- the places counted from the m-th on
part_drop : (bytes : List ℕ) (m d j : ℕ) → m + d ≡ j → part (drop (place_size * m) bytes) d ≡ part bytes j
part_drop bytes m d j e =
    let z : place_size * m + place_size * d ≡ place_size * j = omega arith in
    ap (take place_size) (drop-drop (place_size * d) (place_size * m) bytes ∙ ap (λ k. drop k bytes) z)

-- no frame of so few dimensions is longer than a place
fits : (p pass k : ℕ) → p ≤ width → frame_length p pass k ≤ place_size
unfolding frame_length
fits p pass k h =
    cases (λ n. n ≤ place_size) (eqb pass 1) (4 + 8 * (p - k) + 8) 12 (λ e. omega arith) (λ e. omega arith)

-- ---- the frames held

module _ (size : ℕ) (small : dimension size ≤ width) where
  -- the bytes of a place alone say what is held there
  same_held : (bytes other : List ℕ) (i j : ℕ) → part bytes i ≡ part other j
      → frame_held size bytes i ≡ frame_held size other j
  same_held bytes other i j e =
      sym (by_part (drop (place_size * i) bytes)) ∙ ap start e ∙ by_part (drop (place_size * j) other)
    where
      start : List ℕ → List ℕ
      start l = take (frame_length (dimension size) (get_or l 0 0) (get_or l 2 0)) l

      by_part : (l : List ℕ) → start (take place_size l) ≡ start l
      by_part l =
          rw (get_or-take place_size l 0 0 (omega arith), get_or-take place_size l 2 0 (omega arith))
          (take-take _ place_size l (fits (dimension size) (get_or l 0 0) (get_or l 2 0) small))

  pub held_closed_before : (bytes : List ℕ) (n at j : ℕ) → j < at → at < n → place_size * n ≤ length bytes
      → frame_held size (closed bytes n at) j ≡ frame_held size bytes j
  unfolding closed
  held_closed_before bytes n at j h m l = same_held _ bytes j j (part_start bytes _ at j h (omega arith))

  pub held_closed_after : (bytes : List ℕ) (n at j : ℕ) → at ≤ j → j + 1 < n → place_size * n ≤ length bytes
      → frame_held size (closed bytes n at) j ≡ frame_held size bytes (j + 1)
  unfolding closed
  held_closed_after bytes n at j h m l =
      let a = place_size * at in
      let rest = drop (place_size * (at + 1)) bytes in
      let d = length-drop (place_size * (at + 1)) bytes in
      same_held _ bytes j (j + 1)
      (sym (part_drop _ at (j - at) j (omega arith))
      ∙ ap (λ r. part r (j - at)) (drop_at (take a bytes) _ a (length-take-le a bytes (omega arith)))
      ∙ part_start rest _ (n - (at + 1)) (j - at) (omega arith) (omega arith)
      ∙ part_drop bytes (at + 1) (j - at) (j + 1) (omega arith))

  pub held_framed_before : (bytes : List ℕ) (place : ℕ) (frame : List ℕ) (j : ℕ) → j < place
      → place_size * place ≤ length bytes → frame_held size (framed bytes place frame) j ≡ frame_held size bytes j
  unfolding framed
  held_framed_before bytes place frame j h l = same_held _ bytes j j (part_start bytes _ place j h l)

pub held_framed_at : (size : ℕ) (bytes : List ℕ) (place : ℕ) (frame : List ℕ) → place_size * place ≤ length bytes
    → 3 ≤ length frame → frame_length (dimension size) (get_or frame 0 0) (get_or frame 2 0) ≡ length frame
    → frame_held size (framed bytes place frame) place ≡ frame
unfolding framed
held_framed_at size bytes place frame l h e =
    let a = place_size * place in
    let rest = drop (a + length frame) bytes in
    rw (
      drop_at (take a bytes) (frame ++ rest) a (length-take-le a bytes l),
      get_or-append frame rest 0 0 (omega arith),
      get_or-append frame rest 0 2 (omega arith),
    )
    (take_at frame rest _ (sym e))
