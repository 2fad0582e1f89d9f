-- The table of contents is read back as it is written, number by number, and what is read is written back.
use mathlib.Core.Path.{◌≡◌, refl, sym, ap, ◌∙◌}
use mathlib.Core.Bool.{true}
use mathlib.Core.List.{List, [], ◌∷◌, ◌++◌}
use Prim.Native.Nat.{ℕ, zero, suc, ◌+◌, ◌*◌, ◌/◌, ◌%◌, ◌≤◌, ◌<◌}
use native.Mathlib.Numerals.{add-one}
use native.Mathlib.Omega.{arith}
use lib.Dec.{eqb}
use lib.ListN.{length, get_or, drop}
use lib.Seq.{drop-cons, drop-drop, get_or-drop}
use borrow.Author.Tests.{eqb-true, eq-eqb}
use Rattle.base.specs.Choice.{list}
use Rattle.base.proofs.Laws.{both_true, both_make}
use Rattle.frame.specs.Shapes.{Bytes}
use Rattle.recording.specs.Recording.{two_bytes, table, number_at, start_at, count_at}
use Rattle.recording.specs.Test.{sum, placed}

pub length_table : (at : ℕ) (counts : List ℕ) → length (table at counts) ≡ 4 * length counts
unfolding table
length_table at [] = refl
length_table at (n ∷ counts) = omega (arith, length_table (at + 4 * n) counts)

-- ---- Written, then read

two_read : (x : ℕ) → x < 65536 → x % 256 + 256 * (x / 256 % 256) ≡ x
two_read x h = omega arith

-- the two numbers of a section, and what is behind them
module _ (bs : List ℕ) (k start n : ℕ) (rest : List ℕ) (e : drop k bs ≡ two_bytes start ++ (two_bytes n ++ rest)) where
  byte : (j : ℕ) → get_or bs (k + j) 0 ≡ get_or (two_bytes start ++ (two_bytes n ++ rest)) j 0
  byte j = sym (get_or-drop k bs j 0) ∙ ap (λ l. get_or l j 0) e

  start_read : start < 65536 → number_at bs k ≡ start
  start_read h =
      let z : k + 0 ≡ k = omega arith in
      let p : get_or bs k 0 ≡ start % 256 = rw z at (byte 0) in
      rw (p, byte 1) (two_read start h)

  count_read : n < 65536 → (m : ℕ) → m ≡ k + 2 → number_at bs m ≡ n
  count_read h m q =
      let z : k + 2 + 1 ≡ k + 3 = omega arith in
      rw (q, byte 2, z, byte 3) (two_read n h)

  behind : (m : ℕ) → m ≡ k + 4 → drop m bs ≡ rest
  behind m q = rw (q, ← drop-drop 4 k bs, e)

pub table_read : (bs : List ℕ) (i start : ℕ) (counts rest : List ℕ)
    → drop (2 + 4 * i) bs ≡ table start counts ++ rest → start + 4 * sum counts < 65536
    → (placed bs start i (length counts) ≡ true) × (list i (length counts) (count_at bs) ≡ counts)
unfolding table sum placed
table_read bs i start [] rest e h = (refl, refl)
table_read bs i start (n ∷ counts) rest e h =
    let k = 2 + 4 * i in
    let more = table (start + 4 * n) counts ++ rest in
    let s : start_at bs i ≡ start = start_read bs k start n more e (omega arith) in
    let c : count_at bs i ≡ n = count_read bs k start n more e (omega arith) (4 + 4 * i) (omega arith) in
    let d = behind bs k start n more e (2 + 4 * (i + 1)) (omega arith) in
    let r = table_read bs (i + 1) (start + 4 * n) counts rest d (omega arith) in
    (both_make (eq-eqb _ _ s) (rw c r.0), rw (c, ← add-one i, r.1))

-- ---- Read, then written

two_written : (a b : ℕ) → a < 256 → b < 256 → two_bytes (a + 256 * b) ≡ a ∷ b ∷ []
two_written a b g h =
    let low : (a + 256 * b) % 256 ≡ a = omega arith in
    let high : (a + 256 * b) / 256 ≡ b = omega arith in
    let same : b % 256 ≡ b = omega arith in
    rw (low, high, same)

number_written : (bs : List ℕ) → Bytes bs → (k m : ℕ) → k + 2 ≤ length bs → m ≡ k + 2
    → two_bytes (number_at bs k) ++ drop m bs ≡ drop k bs
number_written bs b k m h e =
    let z : m ≡ suc (k + 1) = omega arith in
    ap (λ l. l ++ drop m bs)
    (two_written (get_or bs k 0) (get_or bs (k + 1) 0) (b k (omega arith)) (b (k + 1) (omega arith)))
    ∙ rw (z, ← drop-cons bs (k + 1) 0 (omega arith), add-one k)
    (sym (drop-cons bs k 0 (omega arith)))

pub table_written : (bs : List ℕ) → Bytes bs → (i n start : ℕ) → 2 + 4 * (i + n) ≤ length bs
    → placed bs start i n ≡ true
    → table start (list i n (count_at bs)) ++ drop (2 + 4 * (i + n)) bs ≡ drop (2 + 4 * i) bs
unfolding table placed
table_written bs b i zero start h p = let z : i + 0 ≡ i = omega arith in rw z
table_written bs b i (suc n) start h p =
    let q = both_true (eqb (start_at bs i) start) _ p in
    let s = eqb-true (start_at bs i) start q.0 in
    let x = number_written bs b (2 + 4 * i) (4 + 4 * i) (omega arith) (omega arith) in
    let y = number_written bs b (4 + 4 * i) (2 + 4 * (i + 1)) (omega arith) (omega arith) in
    let r = table_written bs b (i + 1) n (start + 4 * count_at bs i) (omega arith) q.1 in
    let z : i + suc n ≡ i + 1 + n = omega arith in
    rw (z, ← add-one i, r, y, ← s, x)
