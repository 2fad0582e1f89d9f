-- A text put after another is the two put as one, and the place answered is where it ends, for every buffer and place.
use mathlib.Core.Path.{◌≡◌, sym, ap, ◌∙◌}
use mathlib.Core.List.{List, [], ◌∷◌, ◌++◌}
use Prim.Native.Nat.{ℕ, zero, suc, ◌+◌, ◌-◌, ◌≤◌, ◌<◌, min}
use native.Mathlib.Numerals.{add-one}
use native.Mathlib.Omega.{arith}
use native.Mathlib.Decide.{dec_lt}
use lib.ListN.{length, get_or, set, take, drop, length-set, length-append, length-take, length-drop, drop_of_length-le}
use lib.Seq.{take-nil, drop-nil, take-suc, take_at, take_all, length-take-le}
use Rattle.std.proofs.Math.Seq.{take-suc-set}
use borrow.Rule.Slice.PartMut.{put_mid}
use Rattle.std.proofs.lemmas.List.{take_min, drop_min, drop-drop, append-nil}
use Rattle.base.specs.Choice.{list}
use Rattle.base.proofs.Laws.{length_list, list_more}
use Rattle.printing.specs.Put.{put, ends}

put_empty : (at : ℕ) (text : List ℕ) → put [] at text ≡ []
unfolding put
put_empty zero text = go (length text)
  where
    go : (n : ℕ) → ◌≡◌ {A = List ℕ} (take (0 - 0) text ++ drop (0 + n) []) []
    go n = rw (drop-nil {A = ℕ} (0 + n))
put_empty (suc at) text = let e : 0 - suc at ≡ 0 = omega arith in rw (e, drop-nil {A = ℕ} (suc at + length text))

put_below : (y : ℕ) (out : List ℕ) (at : ℕ) (text : List ℕ) → put (y ∷ out) (suc at) text ≡ y ∷ put out at text
unfolding put
put_below y out at text =
    let e : suc at + length text ≡ suc (at + length text) = omega arith in
    let d : suc (length out) - suc at ≡ length out - at = omega arith in
    rw (e, d)

put_here : (y : ℕ) (out : List ℕ) (x : ℕ) (text : List ℕ) → put (y ∷ out) 0 (x ∷ text) ≡ x ∷ put out 0 text
unfolding put
put_here y out x text =
    let e : 0 + suc (length text) ≡ suc (0 + length text) = omega arith in
    let d : suc (length out) - 0 ≡ suc (length out - 0) = omega arith in
    rw (e, d)

put_start : (out : List ℕ) → put out 0 [] ≡ out
unfolding put
put_start out = rw (take-nil {A = ℕ} (length out - 0))

pub put_none : (out : List ℕ) (at : ℕ) → put out at [] ≡ out
put_none [] at = put_empty at []
put_none (y ∷ out) zero = put_start (y ∷ out)
put_none (y ∷ out) (suc at) = put_below y out at [] ∙ ap (λ l. y ∷ l) (put_none out at)

-- one byte put, then the rest
put_cons : (out : List ℕ) (at x : ℕ) (text : List ℕ) → put out at (x ∷ text) ≡ put (set out at x) (at + 1) text
put_cons [] at x text = put_empty at (x ∷ text) ∙ sym (put_empty (at + 1) text)
put_cons (y ∷ out) zero x text =
    let e : 0 + 1 ≡ suc 0 = omega arith in put_here y out x text ∙ sym (rw e (put_below x out 0 text))
put_cons (y ∷ out) (suc at) x text =
    let e : suc at + 1 ≡ suc (at + 1) = omega arith in
    put_below y out at (x ∷ text)
    ∙ ap (λ l. y ∷ l) (put_cons out at x text)
    ∙ sym (rw e (put_below y (set out at x) (at + 1) text))

pub put_one_lem : (out : List ℕ) (at x : ℕ) → set out at x ≡ put out at (x ∷ [])
put_one_lem out at x = sym (put_cons out at x [] ∙ put_none (set out at x) (at + 1))

pub length_put : (out : List ℕ) (at : ℕ) (text : List ℕ) → length (put out at text) ≡ length out
length_put out at [] = ap length (put_none out at)
length_put out at (x ∷ text) =
    ap length (put_cons out at x text) ∙ length_put (set out at x) (at + 1) text ∙ length-set out at x

-- where there is no room nothing is put
pub put_past : (out : List ℕ) (at : ℕ) (text : List ℕ) → length out ≤ at → put out at text ≡ out
put_past [] at text h = put_empty at text
put_past (y ∷ out) zero text h = absurd (omega arith)
put_past (y ∷ out) (suc at) text h = put_below y out at text ∙ ap (λ l. y ∷ l) (put_past out at text (omega arith))

pub put_more : (out : List ℕ) (at : ℕ) (a b : List ℕ) → put (put out at a) (at + length a) b ≡ put out at (a ++ b)
put_more out at [] b = let e : at + 0 ≡ at = omega arith in rw (e, put_none out at)
put_more out at (x ∷ a) b =
    let e : at + suc (length a) ≡ at + 1 + length a = omega arith in
    rw (e, put_cons out at x a, put_cons out at x (a ++ b)) (put_more (set out at x) (at + 1) a b)

-- what stands in the buffer, and the place answered
abbrev pub Written : List ℕ → ℕ → List ℕ → List ℕ → ℕ → Type 0
Written out at text now next = (now ≡ put out at text) × (next ≡ ends out at text)

-- putting from the end of the buffer on is putting from any place past it on
put_capped : (out : List ℕ) (at : ℕ) (text : List ℕ) → put out (min at (length out)) text ≡ put out at text
put_capped out at text = go (dec_lt at (length out))
  where
    go : Dec (at < length out) → put out (min at (length out)) text ≡ put out at text
    go (yes h) = let e : min at (length out) ≡ at = omega arith in rw e
    go (no h) =
        put_past out (min at (length out)) text (omega arith) ∙ sym (put_past out at text (omega arith))

pub then : (out s t a b : List ℕ) (at n m : ℕ) → Written out at a s n → Written s n b t m → Written out at (a ++ b) t m
then out s t a b at n m w z =
    let l : length s ≡ length out = ap length w.0 ∙ length_put out at a in (
      z.0
          ∙ rw (w.1, w.0)
          (ap (λ i. put (put out at a) (min (at + length a) i) b) (sym (length_put out at a))
          ∙ put_capped (put out at a) (at + length a) b
          ∙ put_more out at a b),
      rw length-append (omega arith),
    )

-- the same text said otherwise
pub said : (out s a b : List ℕ) (at n : ℕ) → a ≡ b → Written out at a s n → Written out at b s n
said out s a b at n e w = (rw (← e) w.0, rw (← e) w.1)

-- a byte more stands as it is to stand
pub more_taken : (l s : List ℕ) (i : ℕ) → i < length l → i < length s → take i l ≡ take i s
    → take (i + 1) (set l i (get_or s i 0)) ≡ take (i + 1) s
more_taken l s i h k e =
    let x = get_or s i 0 in
    rw add-one (take-suc-set l i x h ∙ ap (λ a. a ++ (x ∷ [])) e ∙ sym (take-suc s i 0 k))

-- the bytes that have room, copied into their places
pub copied : (out : List ℕ) (at start n k : ℕ) (s now : List ℕ) → start ≡ min at (length out)
    → n ≡ min (length s) (length out - start) → k ≡ start + n - start → now ≡ take k s
    → put_mid start k out now ≡ put out at s
unfolding put
copied out at start n k s now p q r e =
    let front : take start out ≡ take at out = rw p (take_min at out) in
    let rest : drop start out ≡ drop at out = rw p (drop_min at out) in
    let room : k ≡ min (length out - at) (length s) = omega arith in
    let over : k ≡ min (length s) (length (drop at out)) = omega (arith, length-drop at out) in
    let middle : now ≡ take (length out - at) s = e ∙ rw room (take_min (length out - at) s) in
    let last : drop k (drop start out) ≡ drop (at + length s) out =
    rw (rest, over) (drop_min (length s) (drop at out) ∙ drop-drop (length s) at out) in
    rw (front, middle, last)

-- a value more put after those that a rule lists
pub put_next : (l : List ℕ) (i : ℕ) (f : ℕ → ℕ) → set (put l 0 (list 0 i f)) i (f i) ≡ put l 0 (list 0 (i + 1) f)
put_next l i f =
    let z : 0 + length (list 0 i f) ≡ i = omega (arith, length_list 0 i f) in
    let s : 0 + i ≡ i = omega arith in
    put_one_lem _ i (f i)
    ∙ rw z at (put_more l 0 (list 0 i f) (f i ∷ []))
    ∙ ap (put l 0) (sym (rw s at (list_more 0 i f)))

-- what fills the first n values, and those after them
pub put_front : (l text : List ℕ) (n : ℕ) → n ≤ length l → length text ≡ n → put (take n l) 0 text ++ drop n l ≡ put l 0 text
unfolding put
put_front l text n h e =
    let a : length (take n l) ≡ n = length-take-le n l h in
    let b : take (length (take n l) - 0) text ≡ text = take_all _ text (omega arith) in
    let c : drop (0 + length text) (take n l) ≡ [] = drop_of_length-le (take n l) (omega arith) in
    let d : take (length l - 0) text ≡ text = take_all _ text (omega arith) in
    let f : 0 + length text ≡ n = omega arith in
    rw (b, c, d, append-nil, f)

-- what is put from the start on, and no more
pub taken : (out text : List ℕ) → take (ends out 0 text) (put out 0 text) ≡ take (length out) text
unfolding put
taken out text =
    let e : length (take (length out - 0) text) ≡ ends out 0 text = rw length-take (omega arith) in
    let d : length out - 0 ≡ length out = omega arith in
    take_at (take (length out - 0) text) _ _ e ∙ ap (λ n. take n text) d
