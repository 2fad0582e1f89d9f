-- A stored frame judged by the largest excess: the test of its words, and the first clause that fails.
use mathlib.Core.Path.{◌≡◌, refl, sym, ap, ◌∙◌}
use mathlib.Core.Bool.{Bool, true, false}
use mathlib.Core.List.{List, [], ◌∷◌}
use Prim.Native.Nat.{ℕ, suc, ◌+◌, ◌-◌, ◌≤◌, ◌<◌}
use native.Mathlib.Decide.{ℕ_discrete}
use native.Mathlib.Nat.{zero-add}
use native.Mathlib.Numerals.{add-one}
use native.Mathlib.Omega.{arith}
use lib.Dec.{ltb, leb, eqb}
use lib.ListN.{length}
use borrow.Author.Tests.{le-leb, leb-true, eq-eqb, eqb-true}
use Rattle.base.specs.Choice.{choose, both, every}
use Rattle.base.specs.Limits.{Limits, field_limit}
use Rattle.base.proofs.Laws.{both_true, both_make, every_at, every_make, every_same}
use Rattle.node.specs.Sums.{Field, Has, sent_in, taken_in, all_sent, all_taken, number}
use Rattle.node.specs.Agree.{first_clauses, first_failing, no_clause}
use Rattle.node.specs.declared.Stored.{Stored}
use Rattle.layout.specs.Places.{mark_words, first_words, sent_place, taken_place, issued_place, received_place}
use Rattle.layout.specs.Held.{word, first_from, sum_of}
use Rattle.layout.proofs.Reading.{number_sent, number_taken}
use Rattle.stored.specs.Held.{is_low, low_after, held_test}
use Rattle.stored.proofs.Frames.{first_held_lem, first_low}
use Rattle.adding.specs.Adding.{Framed}
use Rattle.look_tests.specs.Tests.{clause_by}
use Rattle.look_tests.proofs.Excesses.{none_over, alone_over, is_none, below_two}
use Rattle.look.specs.Pieces.{at_most, shell_at_most, totals_at_most}

-- two tests that hold alike
same_test : (s t : Bool) → (s ≡ true → t ≡ true) → (t ≡ true → s ≡ true) → s ≡ t
same_test true t f g = sym (f refl)
same_test false true f g = g refl
same_test false false f g = refl

turned : (s t : Bool) → both s t ≡ both t s
turned true true = refl
turned true false = refl
turned false true = refl
turned false false = refl

-- the clauses in their order: clause 4 is asked where clause 3 holds
in_order_lem : (a b c d d' : Bool) → (c ≡ true → d ≡ d')
    → choose a (choose b (choose c (choose d no_clause 4) 3) 2) 1 ≡ first_failing (true ∷ a ∷ b ∷ c ∷ d' ∷ true ∷ true ∷ [])
unfolding first_failing
in_order_lem false b c d d' h = refl
in_order_lem true false c d d' h = refl
in_order_lem true true false d d' h = refl
in_order_lem true true true d true h = rw (h refl)
in_order_lem true true true d false h = rw (h refl)

-- where all hold, so does clause 3
third_holds : (a b c d : Bool) → ◌≡◌ {A = ℕ} (choose a (choose b (choose c (choose d no_clause 4) 3) 2) 1) no_clause → c ≡ true
third_holds false b c d e = absurd (omega arith)
third_holds true false c d e = absurd (omega arith)
third_holds true true false d e = absurd (omega arith)
third_holds true true true d e = refl

-- the excess of both totals and of the shells above k is at most so much
abbrev pub all_at_most : ℕ → ℕ → ℕ → (Field → ℕ) → Stored → ℕ → Bool
all_at_most limit p k own x most =
    both (totals_at_most limit own x most) (every (suc k) (p - suc k) (shell_at_most limit own x most))

-- ---- The words of a frame that is stored

module _ (L : Limits) (ws sums : List ℕ) (p k : ℕ) (h : Framed ws sums p k) (mark : word ws 0 ≡ 1) where
  abbrev limit : ℕ
  limit = field_limit L

  abbrev x : Stored
  x = first_from ws p k 0

  abbrev own : Field → ℕ
  own = sum_of p sums

  sent_k : number x (sent_in k) ≡ word ws mark_words
  sent_k = number_sent ws p k 0 k (omega arith) h.low (omega arith) ∙ ap (word ws) (omega arith)

  taken_k : number x (taken_in k) ≡ word ws (mark_words + (p - k))
  taken_k = number_taken ws p k 0 k (omega arith) h.low (omega arith) ∙ ap (word ws) (omega arith)

  abbrev is_still : Bool
  is_still = low_after limit ws 0 (length ws)

  -- they are low where the numbers are
  held_low : (end : ℕ) → held_test limit ws true 0 end ≡ low_after limit ws 0 end
  unfolding held_test
  held_low end = rw mark

  words_low : ((f : Field) → Has p k f → number x f ≤ limit) → is_still ≡ true
  words_low low =
      ap (low_after limit ws 0) (h.long ∙ sym (zero-add (first_words p k)))
      ∙ sym (held_low (0 + first_words p k))
      ∙ first_held_lem ws p k 0 h.low h.few L true
      ∙ first_low ws p k 0 h.low h.few L mark low

  numbers_low : is_still ≡ true → (f : Field) → Has p k f → number x f ≤ limit
  numbers_low e = go
    where
      at : (i : ℕ) → 0 < i → i < first_words p k → word ws i ≤ limit
      at i a b =
          leb-true (word ws i) limit
          (every_at mark_words (length ws - mark_words) (is_low limit ws) e i (omega arith) (omega (arith, h.long)))

      go : (f : Field) → Has p k f → number x f ≤ limit
      go (sent_in m) (a, b) =
          let e = number_sent ws p k 0 m a b (omega arith) in
          rw e (at (sent_place 0 k m) (omega arith) (omega arith))
      go (taken_in m) (a, b) =
          let e = number_taken ws p k 0 m a b (omega arith) in
          rw e (at (taken_place p 0 k m) (omega arith) (omega arith))
      go all_sent u = at (issued_place p 0 k) (omega arith) (omega arith)
      go all_taken u = at (received_place p 0 k) (omega arith) (omega arith)

  -- ---- By the largest excess

  module _ (most : ℕ) (w : (n : ℕ) → leb most n ≡ all_at_most limit p k own x n) where
    -- at most 1, and shell k by itself
    abbrev is_judged : Bool
    is_judged = both (ltb most 2) (both (leb (number x (sent_in k)) limit) (leb (number x (taken_in k)) limit))

    alone : (f : Field) → at_most limit own x 1 f ≡ leb (number x f) limit
    alone f = alone_over limit (own f) (number x f)

    ok_to : is_judged ≡ true → is_still ≡ true
    ok_to e = words_low go
      where
        parts : (leb most 1 ≡ true) × (number x (sent_in k) ≤ limit) × (number x (taken_in k) ≤ limit)
        parts =
            let q = both_true _ _ e in
            let r = both_true _ _ q.1 in
            (below_two most ∙ q.0, leb-true _ _ r.0, leb-true _ _ r.1)

        all : (totals_at_most limit own x 1 ≡ true) × (every (suc k) (p - suc k) (shell_at_most limit own x 1) ≡ true)
        all = both_true _ _ (sym (w 1) ∙ parts.0)

        shell : (m : ℕ) → k < m → m < p → (at_most limit own x 1 (sent_in m) ≡ true) × (at_most limit own x 1 (taken_in m) ≡ true)
        shell m a b =
            both_true _ _ (every_at (suc k) (p - suc k) (shell_at_most limit own x 1) all.1 m (omega arith) (omega arith))

        by : (f : Field) → at_most limit own x 1 f ≡ true → number x f ≤ limit
        by f q = leb-true (number x f) limit (sym (alone f) ∙ q)

        go : (f : Field) → Has p k f → number x f ≤ limit
        go (sent_in m) (a, b) = one (ℕ_discrete m k)
          where
            one : Dec (m ≡ k) → number x (sent_in m) ≤ limit
            one (yes q) = rw q parts.1
            one (no q) = by (sent_in m) (shell m (omega arith) b).0
        go (taken_in m) (a, b) = one (ℕ_discrete m k)
          where
            one : Dec (m ≡ k) → number x (taken_in m) ≤ limit
            one (yes q) = rw q parts.2
            one (no q) = by (taken_in m) (shell m (omega arith) b).1
        go all_sent u = by all_sent (both_true (at_most limit own x 1 all_sent) (at_most limit own x 1 all_taken) all.0).0
        go all_taken u = by all_taken (both_true (at_most limit own x 1 all_sent) (at_most limit own x 1 all_taken) all.0).1

    ok_from : is_still ≡ true → is_judged ≡ true
    ok_from e =
        both_make (sym (below_two most) ∙ w 1 ∙ both_make (both_make (at all_sent tt) (at all_taken tt)) shells)
        (both_make (low (sent_in k) (omega arith, h.low)) (low (taken_in k) (omega arith, h.low)))
      where
        low : (f : Field) → Has p k f → leb (number x f) limit ≡ true
        low f a = le-leb (number x f) limit (numbers_low e f a)

        at : (f : Field) → Has p k f → at_most limit own x 1 f ≡ true
        at f a = alone f ∙ low f a

        shells : every (suc k) (p - suc k) (shell_at_most limit own x 1) ≡ true
        shells =
            every_make (suc k) (p - suc k) (shell_at_most limit own x 1)
            (λ m a b. both_make (at (sent_in m) (omega arith, omega arith)) (at (taken_in m) (omega arith, omega arith)))

    pub ok_is : both (ltb most 2) (both (leb (word ws mark_words) limit) (leb (word ws (mark_words + (p - k))) limit)) ≡ is_still
    ok_is =
        (λ i. both (ltb most 2) (both (leb (sym sent_k i) limit) (leb (sym taken_k i) limit)))
        ∙ same_test is_judged is_still ok_to ok_from

    -- clause 3
    abbrev fits : Field → Bool
    fits f = leb (own f + number x f) limit

    fit : (f : Field) → at_most limit own x 0 f ≡ fits f
    fit f = none_over limit (own f) (number x f)

    third : eqb most 0
        ≡ both (every (suc k) (p - suc k) (λ m. both (fits (sent_in m)) (fits (taken_in m)))) (both (fits all_sent) (fits all_taken))
    third =
        let shells : every (suc k) (p - suc k) (shell_at_most limit own x 0)
        ≡ every (suc k) (p - suc k) (λ m. both (fits (sent_in m)) (fits (taken_in m))) =
        every_same (suc k) (p - suc k) _ _ (λ m a b i. both (fit (sent_in m) i) (fit (taken_in m) i)) in
        sym (is_none most)
        ∙ w 0
        ∙ turned (totals_at_most limit own x 0) (every (suc k) (p - suc k) (shell_at_most limit own x 0))
        ∙ (λ i. both (shells i) (both (fit all_sent i) (fit all_taken i)))

    -- the totals with the frame's, where the excess is 0
    module _ (issued received : ℕ) (issued_is : most ≡ 0 → issued ≡ own all_sent + number x all_sent)
        (received_is : most ≡ 0 → received ≡ own all_taken + number x all_taken) where
      -- clauses 1, 2 and 4
      abbrev first : Bool
      first = eqb (own (sent_in k)) (number x (taken_in k))

      abbrev second : Bool
      second = eqb (own (taken_in k)) (number x (sent_in k))

      abbrev fourth : ℕ → ℕ → ℕ → Bool
      fourth next a b = choose (eqb next p) (eqb a b) true

      abbrev named : ℕ
      named =
          clause_by (own (sent_in k)) (word ws (mark_words + (p - k))) (own (taken_in k)) (word ws mark_words) most (eqb (k + 1) p)
          issued received

      read : named
          ≡ choose first (choose second (choose (eqb most 0) (choose (fourth (k + 1) issued received) no_clause 4) 3) 2) 1
      read j =
          clause_by (own (sent_in k)) (sym taken_k j) (own (taken_in k)) (sym sent_k j) most (eqb (k + 1) p) issued received

      pub clause_is : named ≡ first_failing (first_clauses L p k own x)
      unfolding first_clauses
      clause_is =
          let last = fourth (suc k) (own all_sent + number x all_sent) (own all_taken + number x all_taken) in
          read
          ∙ in_order_lem first second (eqb most 0) (fourth (k + 1) issued received) last
          (λ e j. fourth (add-one k j) (issued_is (eqb-true most 0 e) j) (received_is (eqb-true most 0 e) j))
          ∙ (λ j.
          first_failing (sym (eq-eqb (word ws 0) 1 mark) j ∷ first ∷ second ∷ third j ∷ last ∷ true ∷ true ∷ []))

      pub total_is : named ≡ no_clause → received ≡ own all_taken + number x all_taken
      total_is e =
          received_is
          (eqb-true most 0 (third_holds first second (eqb most 0) (fourth (k + 1) issued received) (sym read ∙ e)))
