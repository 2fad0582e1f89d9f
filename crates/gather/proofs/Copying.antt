-- The tallies, copied shell by shell with what the limits leave for the shells to come.
use mathlib.Core.Path.{◌≡◌, refl, sym, ap, ◌∙◌}
use mathlib.Core.Bool.{Bool, true, false}
use mathlib.Core.List.{List}
use Prim.Native.Nat.{ℕ, zero, suc, ◌+◌, ◌-◌, ◌*◌, ◌≤◌, ◌<◌}
use native.Mathlib.Decide.{dec_le, ℕ_discrete}
use native.Mathlib.Numerals.{add-one}
use native.Mathlib.Omega.{arith}
use lib.Dec.{leb}
use lib.ListN.{length, length-set, set}
use lib.Seq.{get_or-set_same, get_or-set_other}
use borrow.Author.Tests.{le-leb, lt-leb}
use Rattle.base.specs.Choice.{both}
use Rattle.base.proofs.Laws.{clash, choose_yes, choose_no, both_make}
use Rattle.frame.specs.Frame.{sent_number, taken_number}
use Rattle.node.specs.Sums.{total}
use Rattle.layout.specs.Places.{head_words, at_sent, at_taken, sum_words}
use Rattle.layout.specs.Held.{word}
use Rattle.gather.specs.Gather.{sent_total, taken_total, no_tallies, the_tallies}
use Rattle.gather.specs.Pieces.{Copied}

-- a total of more summands is no smaller
total_grows : (f : ℕ → ℕ) (m n : ℕ) → m ≤ n → total f m ≤ total f n
total_grows f m zero h = let e : m ≡ 0 = omega arith in rw e (omega arith)
total_grows f m (suc n) h = go (total_grows f m n) (dec_le m n)
  where
    go : (m ≤ n → total f m ≤ total f n) → Dec (m ≤ n) → total f m ≤ total f n + f n
    go r (yes d) = let i = r d in omega arith
    go r (no d) = let e : m ≡ suc n = omega arith in rw e (omega arith)

-- one summand more
total_more : (f : ℕ → ℕ) (m : ℕ) → total f (m + 1) ≡ total f m + f m
total_more f m = rw add-one

-- a total that a summand brings above a limit
total_above : (f : ℕ → ℕ) (m n limit left : ℕ) → left + total f m ≡ limit → m < n → left < f m → limit < total f n
total_above f m n limit left e h b = omega (arith, total_more f m, total_grows f (m + 1) n (omega arith))

module _ (p : ℕ) (ws : List ℕ) (sends takes : ℕ) (before : List ℕ) where
  abbrev sent_of : ℕ → ℕ
  sent_of m = word ws (at_sent m)

  abbrev taken_of : ℕ → ℕ
  taken_of m = word ws (at_taken p m)

  -- the shells below m are copied, and so much is left
  pub record Upto (m : ℕ) (sums : List ℕ) (sends-left takes-left : ℕ) : Type 0 where
    pub high : m ≤ p
    pub sends_are : sends-left + total sent_of m ≡ sends
    pub takes_are : takes-left + total taken_of m ≡ takes
    pub sent : (j : ℕ) → j < m → word sums j ≡ sent_of j
    pub taken : (j : ℕ) → j < m → word sums (p + j) ≡ taken_of j
    pub long : length sums ≡ length before

  -- no more is left than at first
  pub left_low : (m : ℕ) (sums : List ℕ) (x y : ℕ) → Upto m sums x y → (x ≤ sends) × (y ≤ takes)
  left_low m sums x y u = (omega (arith, u.sends_are), omega (arith, u.takes_are))

  pub none_copied : Upto 0 before sends takes
  none_copied =
      record {
        high = omega arith;
        sends_are = omega arith;
        takes_are = omega arith;
        sent = λ j h. absurd (omega arith);
        taken = λ j h. absurd (omega arith);
        long = refl;
      }

  module _ (m : ℕ) (sums : List ℕ) (x y : ℕ) (u : Upto m sums x y) (next : m < p) where
    -- a total comes above the most
    stopped : both (leb (sent_total p ws) sends) (leb (taken_total p ws) takes) ≡ false
        → Copied p ws sends takes before sums no_tallies
    stopped e = record { answer = sym (choose_no _ _ e); tallies = λ q. clash (sym q); length = u.long }

    pub sent_stopped : x < sent_of m → Copied p ws sends takes before sums no_tallies
    sent_stopped h =
        stopped
        (rw (lt-leb (sent_total p ws) sends (total_above sent_of m p sends x u.sends_are next h)))

    pub taken_stopped : y < taken_of m → Copied p ws sends takes before sums no_tallies
    taken_stopped h =
        stopped
        (no_both (leb (sent_total p ws) sends) _
        (lt-leb (taken_total p ws) takes (total_above taken_of m p takes y u.takes_are next h)))
      where
        no_both : (s t : Bool) → t ≡ false → both s t ≡ false
        no_both true t e = e
        no_both false t e = refl

    module _ (low : sent_of m ≤ x) (few : taken_of m ≤ y) (wide : sum_words p ≤ length before) where
      abbrev one : List ℕ
      one = set sums m (sent_of m)

      abbrev two : List ℕ
      two = set one (p + m) (taken_of m)

      one_length : length one ≡ length sums
      one_length = simp length-set

      put_sent : (j : ℕ) → j < m + 1 → word two j ≡ sent_of j
      put_sent j h = get_or-set_other one (p + m) j (taken_of m) 0 (λ z. omega arith) ∙ go (ℕ_discrete j m)
        where
          go : Dec (j ≡ m) → word one j ≡ sent_of j
          go (yes z) = rw z (get_or-set_same sums m (sent_of m) 0 (omega (arith, u.long)))
          go (no z) = get_or-set_other sums m j (sent_of m) 0 (λ q. z (omega arith)) ∙ u.sent j (omega arith)

      put_taken : (j : ℕ) → j < m + 1 → word two (p + j) ≡ taken_of j
      put_taken j h = go (ℕ_discrete j m)
        where
          go : Dec (j ≡ m) → word two (p + j) ≡ taken_of j
          go (yes z) = rw z (get_or-set_same one (p + m) (taken_of m) 0 (omega (arith, u.long, one_length)))
          go (no z) =
              get_or-set_other one (p + m) (p + j) (taken_of m) 0 (λ q. z (omega arith))
              ∙ get_or-set_other sums m (p + j) (sent_of m) 0 (λ q. omega arith)
              ∙ u.taken j (omega arith)

      pub shell_copied : Upto (m + 1) two (x - sent_of m) (y - taken_of m)
      shell_copied =
          record {
            high = omega arith;
            sends_are = omega (arith, u.sends_are, total_more sent_of m);
            takes_are = omega (arith, u.takes_are, total_more taken_of m);
            sent = put_sent;
            taken = put_taken;
            long = simp length-set u.long;
          }

  -- all shells are copied
  module _ (m : ℕ) (sums : List ℕ) (x y : ℕ) (u : Upto m sums x y) (last : p ≤ m) where
    all : m ≡ p
    all = omega (arith, u.high)

    sent_total_lem : sends - x ≡ sent_total p ws
    sent_total_lem = let z : total sent_of m ≡ sent_total p ws = ap (total sent_of) all in omega (arith, u.sends_are)

    taken_total_lem : takes - y ≡ taken_total p ws
    taken_total_lem = let z : total taken_of m ≡ taken_total p ws = ap (total taken_of) all in omega (arith, u.takes_are)

    tally : (i : ℕ) → i < 2 * p → Dec (p ≤ i) → word sums i ≡ word ws (head_words + i)
    tally i h (yes l) =
        let e : i ≡ p + (i - p) = omega arith in
        let f : at_taken p (i - p) ≡ head_words + i = omega arith in
        ap (word sums) e ∙ u.taken (i - p) (omega (arith, all)) ∙ ap (word ws) f
    tally i h (no l) = u.sent i (omega (arith, all))

    pub copied : Copied p ws sends takes before sums
        (record { ok = true; sends = sent_number (sends - x); takes = taken_number (takes - y) })
    copied =
        record {
          answer =
              (λ i. record { ok = true; sends = sent_number (sent_total_lem i); takes = taken_number (taken_total_lem i) })
              ∙ sym
              (choose_yes (the_tallies p ws) no_tallies
              (both_make (le-leb (sent_total p ws) sends (omega (arith, u.sends_are, sent_total_lem)))
              (le-leb (taken_total p ws) takes (omega (arith, u.takes_are, taken_total_lem)))));
          tallies = λ q i h. tally i h (dec_le p i);
          length = u.long;
        }
