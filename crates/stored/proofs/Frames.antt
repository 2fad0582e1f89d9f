-- The test of the words of a stored frame is the test of the frame, whose mark is 0 or 1.
use mathlib.Core.Path.{◌≡◌, refl, sym, ap, ◌∙◌}
use mathlib.Core.Bool.{Bool, true, false, not}
use mathlib.Core.List.{List}
use Prim.Native.Nat.{ℕ, zero, suc, ◌+◌, ◌-◌, ◌≤◌, ◌<◌}
use native.Mathlib.Decide.{dec_le, dec_lt, ℕ_discrete}
use native.Mathlib.Omega.{arith}
use lib.Dec.{eqb, leb, ltb}
use borrow.Author.Tests.{le-leb, lt-leb, lt-ltb, le-ltb, eq-eqb, ne_eqb}
use Rattle.base.specs.Choice.{choose, both, either, every}
use Rattle.base.specs.Limits.{Limits, field_limit, width}
use Rattle.base.proofs.Laws.{choose_yes, choose_no, both_true, both_make, every_at, every_make, every_same}
use Rattle.frame.specs.Frame.{has_shell}
use Rattle.node.specs.Sums.{Field, sent_in, taken_in, all_sent, all_taken, number}
use Rattle.node.specs.declared.Stored.{Stored}
use Rattle.node.specs.Sums.{Has}
use Rattle.survey.specs.Pieces.{pair_ok, shell_ok, first_test, second_test}
use Rattle.layout.specs.Places.{sent_place, taken_place, issued_place, received_place, first_words, second_words, mark_words}
use Rattle.layout.specs.Places.{agreed_place, confirmed_place}
use Rattle.layout.specs.Held.{word, first_from, second_from}
use Rattle.layout.proofs.Reading.{number_sent, number_taken, number_outside}
use Rattle.stored.specs.Held.{held_test}

-- two tests that hold alike
same_test : (s t : Bool) → (s ≡ true → t ≡ true) → (t ≡ true → s ≡ true) → s ≡ t
same_test true t f g = sym (f refl)
same_test false true f g = g refl
same_test false false f g = refl

either_open : (t : Bool) → either t true ≡ true
either_open true = refl
either_open false = refl

-- at most 0 is 0
low_is : (n : ℕ) → leb n 0 ≡ eqb n 0
low_is zero = refl
low_is (suc n) = lt-leb (suc n) 0 (omega arith) ∙ sym (ne_eqb (suc n) 0 (λ e. omega arith))

-- ---- pass 1

module _ (ws : List ℕ) (p k at : ℕ) (low : k < p) (few : p ≤ width) where
  abbrev x : Stored
  x = first_from ws p k at

  -- where the numbers stand that the frame has
  abbrev place : Field → ℕ
  place (sent_in m) = sent_place at k m
  place (taken_in m) = taken_place p at k m
  place all_sent = issued_place p at k
  place all_taken = received_place p at k

  place_low : (f : Field) → Has p k f → (at < place f) × (place f < at + first_words p k)
  place_low (sent_in m) h = (omega (arith, h.0, h.1), omega (arith, h.0, h.1))
  place_low (taken_in m) h = (omega (arith, h.0, h.1), omega (arith, h.0, h.1))
  place_low all_sent h = (omega arith, omega arith)
  place_low all_taken h = (omega arith, omega arith)

  by_field : (Q : ℕ → Type 0) → ((f : Field) → Has p k f → Q (place f)) → (i : ℕ) → at < i → i < at + first_words p k → Q i
  by_field Q h i a b =
      go (dec_le (at + mark_words + (p - k)) i) (dec_le (issued_place p at k) i) (dec_le (received_place p at k) i)
    where
      to : (j : ℕ) → j ≡ i → Q j → Q i
      to j e q = rw e at q

      go : Dec (at + mark_words + (p - k) ≤ i) → Dec (issued_place p at k ≤ i) → Dec (received_place p at k ≤ i) → Q i
      go (no c) d e =
          let m : ℕ = k + (i - (at + mark_words)) in
          to (sent_place at k m) (omega arith) (h (sent_in m) (omega arith, omega arith))
      go (yes c) (no d) e =
          let m : ℕ = k + (i - (at + mark_words + (p - k))) in
          to (taken_place p at k m) (omega arith) (h (taken_in m) (omega arith, omega arith))
      go (yes c) (yes d) (no e) = to (issued_place p at k) (omega arith) (h all_sent tt)
      go (yes c) (yes d) (yes e) = to (received_place p at k) (omega arith) (h all_taken tt)

  number_word : (f : Field) → Has p k f → number x f ≡ word ws (place f)
  number_word (sent_in m) h = number_sent ws p k at m h.0 h.1 (omega (arith, h.1))
  number_word (taken_in m) h = number_taken ws p k at m h.0 h.1 (omega (arith, h.1))
  number_word all_sent h = refl
  number_word all_taken h = refl

  data Shell (m : ℕ) : Type 0 where
    in_it : k ≤ m → m < p → Shell m
    out : has_shell p k m ≡ false → Shell m

  shell : (m : ℕ) → Shell m
  shell m = go (dec_le k m) (dec_lt m p)
    where
      go : Dec (k ≤ m) → Dec (m < p) → Shell m
      go (no a) b = out (rw (lt-leb k m (omega arith)))
      go (yes a) (yes b) = in_it a b
      go (yes a) (no b) = out (rw (le-leb k m a, le-ltb m p (omega arith)))

  -- a test of each number that holds of 0
  module _ (g : ℕ → Bool) (zero_ok : g 0 ≡ true) where
    abbrev end : ℕ
    end = at + first_words p k

    abbrev run : Bool
    run = every (at + mark_words) (end - (at + mark_words)) (λ i. g (word ws i))

    abbrev pair : ℕ → Bool
    pair m = both (g (number x (sent_in m))) (g (number x (taken_in m)))

    abbrev totals : Bool
    totals = both (g (number x all_sent)) (g (number x all_taken))

    run_is : run ≡ both (every 0 width pair) totals
    run_is = same_test _ _ to from
      where
        to : run ≡ true → both (every 0 width pair) totals ≡ true
        to e =
            let one : (f : Field) → Has p k f → g (number x f) ≡ true =
            λ f h.
            ap g (number_word f h)
            ∙ every_at (at + mark_words) (end - (at + mark_words)) (λ i. g (word ws i)) e (place f)
            (omega (arith, (place_low f h).0)) (omega (arith, (place_low f h).1)) in
            both_make (every_make 0 width pair (λ m a b. go m one (shell m))) (both_make (one all_sent tt) (one all_taken tt))
          where
            go : (m : ℕ) → ((f : Field) → Has p k f → g (number x f) ≡ true) → Shell m → pair m ≡ true
            go m one (in_it c d) = both_make (one (sent_in m) (c, d)) (one (taken_in m) (c, d))
            go m one (out c) =
                let z = number_outside ws p k at m c in
                both_make (ap g z.0 ∙ zero_ok) (ap g z.1 ∙ zero_ok)

        from : both (every 0 width pair) totals ≡ true → run ≡ true
        from e =
            let q = both_true (every 0 width pair) totals e in
            let t = both_true (g (number x all_sent)) (g (number x all_taken)) q.1 in
            every_make (at + mark_words) (end - (at + mark_words)) (λ i. g (word ws i))
            (λ i a b.
            by_field (λ j. g (word ws j) ≡ true)
            (λ f h. ap g (sym (number_word f h)) ∙ each q.0 t.0 t.1 f h) i (omega arith) (omega arith))
          where
            each : every 0 width pair ≡ true → g (number x all_sent) ≡ true → g (number x all_taken) ≡ true → (f : Field)
                → Has p k f → g (number x f) ≡ true
            each e u v (sent_in m) h =
                (both_true (g (number x (sent_in m))) (g (number x (taken_in m)))
                (every_at 0 width pair e m (omega arith) (omega (arith, h.1)))).0
            each e u v (taken_in m) h =
                (both_true (g (number x (sent_in m))) (g (number x (taken_in m)))
                (every_at 0 width pair e m (omega arith) (omega (arith, h.1)))).1
            each e u v all_sent h = u
            each e u v all_taken h = v

  module _ (L : Limits) where
    low_zero : leb 0 (field_limit L) ≡ true
    low_zero = le-leb 0 (field_limit L) (omega arith)

    abbrev within : ℕ → Bool
    within n = leb n (field_limit L)

    -- with a frame there, a shell that it does not have is 0, which is low
    shell_is : (m : ℕ) → eqb (word ws at) 1 ≡ true → shell_ok L p k x m ≡ pair within low_zero m
    unfolding shell_ok
    shell_is m e = go (shell m)
      where
        go : Shell m
            → pair_ok L (both (eqb (word ws at) 1) (has_shell p k m)) (number x (sent_in m)) (number x (taken_in m))
            ≡ both (leb (number x (sent_in m)) (field_limit L)) (leb (number x (taken_in m)) (field_limit L))
        go (in_it c d) =
            let t : both (eqb (word ws at) 1) (has_shell p k m) ≡ true =
            both_make e (both_make (le-leb k m c) (lt-ltb m p d)) in
            ap (λ t. pair_ok L t (number x (sent_in m)) (number x (taken_in m))) t
        go (out c) = let z = number_outside ws p k at m c in rw (z.0, z.1, e, c, low_zero)

    none : (awaits : Bool) → word ws at ≡ 0 → run (λ n. leb n 0) refl ≡ first_test L awaits p k x
    unfolding first_test shell_ok
    none awaits e =
        let gone : eqb (word ws at) 1 ≡ false = rw e in
        let shells : every 0 width (pair (λ n. leb n 0) refl) ≡ every 0 width (pair (λ n. eqb n 0) refl) =
        every_same 0 width (pair (λ n. leb n 0) refl) (pair (λ n. eqb n 0) refl)
        (λ m a b i. both (low_is (number x (sent_in m)) i) (low_is (number x (taken_in m)) i)) in
        run_is (λ n. leb n 0) refl
        ∙ (λ i. both (shells i) (both (low_is (number x all_sent) i) (low_is (number x all_taken) i)))
        ∙ rw (gone, either_open awaits)

    some : (awaits : Bool) → word ws at ≡ 1 → both awaits (run within low_zero) ≡ first_test L awaits p k x
    unfolding first_test
    some true e =
        let here : eqb (word ws at) 1 ≡ true = rw e in
        let shells : every 0 width (shell_ok L p k x) ≡ every 0 width (pair within low_zero) =
        every_same 0 width (shell_ok L p k x) (pair within low_zero) (λ m a b. shell_is m here) in
        let sums : pair_ok L (eqb (word ws at) 1) (number x all_sent) (number x all_taken) ≡ totals within low_zero =
        ap (λ t. pair_ok L t (number x all_sent) (number x all_taken)) here in
        run_is within low_zero ∙ (λ i. both (sym shells i) (sym sums i))
    some false e = let here : eqb (word ws at) 1 ≡ true = rw e in rw here

    pub first_held_lem : (awaits : Bool)
        → held_test (field_limit L) ws awaits at (at + first_words p k)
        ≡ both (ltb (word ws at) 2) (first_test L awaits p k x)
    unfolding held_test
    first_held_lem awaits = go (ℕ_discrete (word ws at) 0) (ℕ_discrete (word ws at) 1)
      where
        go : Dec (word ws at ≡ 0) → Dec (word ws at ≡ 1)
            → choose (eqb (word ws at) 0) (run (λ n. leb n 0) refl)
            (both (eqb (word ws at) 1) (both awaits (run within low_zero)))
            ≡ both (ltb (word ws at) 2) (first_test L awaits p k x)
        go (yes e) d =
            choose_yes _ _ (eq-eqb _ 0 e)
            ∙ none awaits e
            ∙ ap (λ t. both t (first_test L awaits p k x)) (sym (lt-ltb (word ws at) 2 (omega arith)))
        go (no e) (yes d) =
            choose_no _ _ (ne_eqb _ 0 e)
            ∙ ap (λ t. both t (both awaits (run within low_zero))) (eq-eqb _ 1 d)
            ∙ some awaits d
            ∙ ap (λ t. both t (first_test L awaits p k x)) (sym (lt-ltb (word ws at) 2 (omega arith)))
        go (no e) (no d) =
            choose_no _ _ (ne_eqb _ 0 e)
            ∙ ap (λ t. both t (both awaits (run within low_zero))) (ne_eqb _ 1 d)
            ∙ ap (λ t. both t (first_test L awaits p k x)) (sym (le-ltb (word ws at) 2 (omega arith)))

    -- a frame that is awaited, with numbers within the limit
    pub first_low : word ws at ≡ 1 → ((f : Field) → Has p k f → number x f ≤ field_limit L)
        → both (ltb (word ws at) 2) (first_test L true p k x) ≡ true
    first_low e low-number =
        both_make (lt-ltb (word ws at) 2 (omega arith))
        (sym (some true e)
        ∙ every_make (at + mark_words) (end within low_zero - (at + mark_words)) (λ i. within (word ws i))
        (λ i a b.
        by_field (λ j. within (word ws j) ≡ true)
        (λ f h. le-leb (word ws (place f)) (field_limit L) (omega (arith, number_word f h, low-number f h))) i
        (omega arith) (omega arith)))

-- ---- pass 2

pairing : (a b : Bool) → both a (both b true) ≡ both a b
pairing false b = refl
pairing true false = refl
pairing true true = refl

module _ (L : Limits) (ws : List ℕ) (at : ℕ) (awaits : Bool) where
  abbrev zero_pair : Bool
  zero_pair = both (leb (word ws (agreed_place at)) 0) (both (leb (word ws (confirmed_place at)) 0) true)

  abbrev low_pair : Bool
  low_pair = both (leb (word ws (agreed_place at)) (field_limit L)) (both (leb (word ws (confirmed_place at)) (field_limit L)) true)

  abbrev test : Bool
  test =
      both (either awaits (not (eqb (word ws at) 1)))
      (pair_ok L (eqb (word ws at) 1) (word ws (agreed_place at)) (word ws (confirmed_place at)))

  by_mark : Dec (word ws at ≡ 0) → Dec (word ws at ≡ 1)
      → choose (eqb (word ws at) 0) zero_pair (both (eqb (word ws at) 1) (both awaits low_pair))
      ≡ both (ltb (word ws at) 2) test
  by_mark (yes e) d =
      rw (e, either_open awaits, low_is (word ws (agreed_place at)), low_is (word ws (confirmed_place at)))
      (pairing (eqb (word ws (agreed_place at)) 0) (eqb (word ws (confirmed_place at)) 0))
  by_mark (no e) (yes d) = rw d (by awaits)
    where
      by : (t : Bool)
          → both t low_pair ≡ both (either t false) (pair_ok L true (word ws (agreed_place at)) (word ws (confirmed_place at)))
      by true = pairing (leb (word ws (agreed_place at)) (field_limit L)) (leb (word ws (confirmed_place at)) (field_limit L))
      by false = refl
  by_mark (no e) (no d) = rw (ne_eqb _ 0 e, ne_eqb _ 1 d, le-ltb (word ws at) 2 (omega arith))

  pub second_held_lem : held_test (field_limit L) ws awaits at (at + second_words)
      ≡ both (ltb (word ws at) 2) (second_test L awaits (second_from ws at))
  unfolding held_test second_test
  second_held_lem =
      let two : at + second_words - (at + mark_words) ≡ second_words - mark_words = omega arith in
      let next : suc (at + mark_words) ≡ confirmed_place at = omega arith in
      rw (two, next) (by_mark (ℕ_discrete (word ws at) 0) (ℕ_discrete (word ws at) 1))

  -- a frame that is awaited, with numbers within the limit
  pub second_low : word ws at ≡ 1 → word ws (agreed_place at) ≤ field_limit L → word ws (confirmed_place at) ≤ field_limit L
      → both (ltb (word ws at) 2) (second_test L true (second_from ws at)) ≡ true
  unfolding second_test
  second_low e a b = rw (e, le-leb _ _ a, le-leb _ _ b)
