-- The sum of counts is not below that of a part, and their table of contents grows by one count at a time.
use mathlib.Core.Path.{◌≡◌, refl, ap}
use mathlib.Core.List.{List, [], ◌∷◌, ◌++◌}
use Prim.Native.Nat.{ℕ, ◌+◌, ◌*◌, ◌≤◌, ◌<◌}
use native.Mathlib.Numerals.{add-one}
use native.Mathlib.Omega.{arith}
use lib.ListN.{length, get_or, take, drop, take-append-drop}
use lib.Seq.{take-suc}
use Rattle.recording.specs.Recording.{two_bytes, table}
use Rattle.recording.specs.Test.{sum}
use Rattle.recording.proofs.Sums.{sum_append}

pub sum_part : (l : List ℕ) (i : ℕ) → sum (take i l) ≤ sum l
sum_part l i = omega (arith, sum_append (take i l) (drop i l), ap sum (take-append-drop i l))

table_append : (start n : ℕ) (xs : List ℕ)
    → table start (xs ++ (n ∷ [])) ≡ table start xs ++ (two_bytes (start + 4 * sum xs) ++ two_bytes n)
unfolding table sum
table_append start n [] = let z : start + 4 * 0 ≡ start = omega arith in rw z
table_append start n (x ∷ xs) =
    let z : start + 4 * x + 4 * sum xs ≡ start + 4 * (x + sum xs) = omega arith in
    rw (← z) (ap (λ l. two_bytes start ++ (two_bytes x ++ l)) (table_append (start + 4 * x) n xs))

pub table_none : (start : ℕ) → table start [] ≡ []
unfolding table
table_none start = refl

pub table_more : (start : ℕ) (l : List ℕ) (i : ℕ) → i < length l
    → table start (take (i + 1) l)
    ≡ table start (take i l) ++ (two_bytes (start + 4 * sum (take i l)) ++ two_bytes (get_or l i 0))
table_more start l i h = rw (add-one, take-suc l i 0 h) (table_append start (get_or l i 0) (take i l))
