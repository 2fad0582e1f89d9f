-- Laws of parts of words: two side by side are one, values listed by a rule are a part, and so are rows joined.
use mathlib.Core.Path.{◌≡◌, refl, sym, ap, ◌∙◌}
use mathlib.Core.List.{List, [], ◌∷◌, ◌++◌}
use Prim.Native.Nat.{ℕ, zero, suc, ◌+◌, ◌≤◌, ◌<◌}
use native.Mathlib.Nat.{add-zero}
use native.Mathlib.Omega.{arith}
use lib.ListN.{length}
use lib.Seq.{slice, slice_empty, slice-cons}
use Rattle.base.specs.Choice.{list}
use Rattle.layout.specs.Held.{word, joined_list}

slice_join : (a b c : ℕ) (ws : List ℕ) → a ≤ b → b ≤ c → slice a b ws ++ slice b c ws ≡ slice a c ws
slice_join zero zero c ws h l = refl
slice_join zero (suc b) zero ws h l = absurd (omega arith)
slice_join zero (suc b) (suc c) [] h l = refl
slice_join zero (suc b) (suc c) (x ∷ ws) h l = ap (λ r. x ∷ r) (slice_join zero b c ws (omega arith) (omega arith))
slice_join (suc a) zero c ws h l = absurd (omega arith)
slice_join (suc a) (suc b) zero ws h l = absurd (omega arith)
slice_join (suc a) (suc b) (suc c) [] h l = refl
slice_join (suc a) (suc b) (suc c) (x ∷ ws) h l = slice_join a b c ws (omega arith) (omega arith)

-- words that are parts, one after the other
pub joins : (ws : List ℕ) (a b c : ℕ) {l m : List ℕ} → a ≤ b → b ≤ c → l ≡ slice a b ws → m ≡ slice b c ws
    → l ++ m ≡ slice a c ws
joins ws a b c h k e f = rw (e, f) (slice_join a b c ws h k)

-- values that stand in the words from a on: that of start at a, and so on
pub listed : (ws : List ℕ) (a b start count : ℕ) (f : ℕ → ℕ) → a + count ≡ b → b ≤ length ws
    → ((i j : ℕ) → start ≤ i → i < start + count → a + i ≡ start + j → f i ≡ word ws j)
    → list start count f ≡ slice a b ws
listed ws a b start zero f n h e = let z : a ≡ b = omega arith in rw z (sym (slice_empty b ws))
listed ws a b start (suc count) f n h e =
    let here : f start ≡ word ws a = e start a (omega arith) (omega arith) (omega arith) in
    let r : list (suc start) count f ≡ slice (suc a) b ws =
    listed ws (suc a) b (suc start) count f (omega arith) h
    (λ i j l m q. e i j (omega arith) (omega arith) (omega arith)) in
    (λ i. here i ∷ r i) ∙ sym (slice-cons a b ws 0 (omega arith) h)

-- one word
pub one : (ws : List ℕ) (a b x : ℕ) → a + 1 ≡ b → b ≤ length ws → x ≡ word ws a → x ∷ [] ≡ slice a b ws
one ws a b x n h e = listed ws a b a 1 (λ i. x) n h (λ i j l m q. e ∙ ap (word ws) (omega arith))

-- the rows start, start + 1, .., count of them, of which row j stands from at j to at (j + 1)
pub rows : (ws : List ℕ) (at : ℕ → ℕ) (g : ℕ → List ℕ) (start count : ℕ) → ((j k : ℕ) → j ≤ k → at j ≤ at k)
    → ((j : ℕ) → j < start + count → g j ≡ slice (at j) (at (suc j)) ws)
    → joined_list start count g ≡ slice (at start) (at (start + count)) ws
unfolding joined_list
rows ws at g start zero up e = rw add-zero (sym (slice_empty (at start) ws))
rows ws at g start (suc count) up e =
    let z : start + suc count ≡ suc start + count = omega arith in
    rw z
    (joins ws (at start) (at (suc start)) (at (suc start + count)) (up start (suc start) (omega arith))
    (up (suc start) (suc start + count) (omega arith))
    (e start (omega arith))
    (rows ws at g (suc start) count up (λ j l. e j (omega arith))))
