-- The numbers of a frame above shell k, added to the sums: the totals, then run by run the shells. Clause 3 holds for them exactly
-- where no sum comes above the limit.
use mathlib.Core.Path.{◌≡◌, refl, sym, ap, ◌∙◌}
use mathlib.Core.Bool.{Bool, true, false}
use mathlib.Core.List.{List}
use Prim.Native.Nat.{ℕ, ◌+◌, ◌-◌, ◌≤◌, ◌<◌}
use native.Mathlib.Omega.{arith}
use lib.ListN.{length, length-set, set}
use lib.Seq.{get_or-set_same, get_or-set_other}
use borrow.Author.Tests.{le-leb, leb-true}
use Rattle.base.proofs.Laws.{clash, choose_yes, choose_no}
use Rattle.node.specs.Sums.{Field, sent_in, taken_in, all_sent, all_taken, number}
use Rattle.node.specs.declared.Stored.{Stored}
use Rattle.layout.specs.Places.{mark_words, at_received, sent_place, taken_place, issued_place, received_place, sum_issued, sum_received}
use Rattle.layout.specs.Held.{word, first_from, sum_of}
use Rattle.layout.proofs.Reading.{number_sent, number_taken}
use Rattle.adding.specs.Adding.{Framed, Within, Added}
use Rattle.adding.specs.Pieces.{Apart, AddedAt, AddedRun, IsTotal, AddedTotals}

-- the tallies of the shells above k and below m
abbrev pub InShells : ℕ → ℕ → Field → Type 0
InShells k m (sent_in j) = (k < j) × (j < m)
InShells k m (taken_in j) = (k < j) × (j < m)
InShells k m all_sent = ⊥
InShells k m all_taken = ⊥

-- the numbers of the shells above k added to the sums, up to the first sum that would come above the limit
pub record AddedShells (p k : ℕ) (x : Stored) (limit : ℕ) (before after : List ℕ) (r : Bool) : Type 0 where
  pub within : r ≡ true → (f : Field) → InShells k p f → sum_of p before f + number x f ≤ limit
  pub over : r ≡ false → ((f : Field) → InShells k p f → sum_of p before f + number x f ≤ limit) → ⊥
  pub added : r ≡ true → (f : Field) → InShells k p f → sum_of p after f ≡ sum_of p before f + number x f
  pub others : r ≡ true → (j : ℕ) → sum_issued p ≤ j → word after j ≡ word before j
  pub length : length after ≡ length before

-- ---- One number

module _ (before : List ℕ) (to : ℕ) (ws : List ℕ) (from limit : ℕ) (after : List ℕ) (r : Bool)
    (a : AddedAt before to ws from limit after r) where
  abbrev sum : ℕ
  sum = word before to + word ws from

  -- the sum would come above the limit, and the sums are left
  pub not_added : r ≡ false → (sum ≤ limit → ⊥) × (after ≡ before)
  not_added e = ((λ l. clash (sym (le-leb sum limit l) ∙ sym a.ok ∙ e)), a.sums ∙ choose_no _ _ e)

  pub kept_length : length after ≡ length before
  kept_length = go r refl
    where
      go : (t : Bool) → r ≡ t → length after ≡ length before
      go true e = ap length (a.sums ∙ choose_yes _ _ e) ∙ length-set before to sum
      go false e = ap length (not_added e).1

  module _ (e : r ≡ true) where
    put : after ≡ set before to sum
    put = a.sums ∙ choose_yes _ _ e

    pub sum_low : sum ≤ limit
    sum_low = leb-true sum limit (sym a.ok ∙ e)

    pub sum_put : to < length before → word after to ≡ sum
    sum_put l = ap (λ y. word y to) put ∙ get_or-set_same before to sum 0 l

    pub other_kept : (j : ℕ) → (j ≡ to → ⊥) → word after j ≡ word before j
    other_kept j n = ap (λ y. word y j) put ∙ get_or-set_other before to j sum 0 (λ z. n (omega arith))

-- ---- A run of numbers

module _ (before : List ℕ) (to : ℕ) (ws : List ℕ) (from limit : ℕ) where
  -- the first i are done, and the other sums are as they were
  pub record Upto (i : ℕ) (sums : List ℕ) : Type 0 where
    pub long : length sums ≡ length before
    pub done : (j : ℕ) → j < i
        → (word before (to + j) + word ws (from + j) ≤ limit) × (word sums (to + j) ≡ word before (to + j) + word ws (from + j))
    pub others : (j : ℕ) → Apart to i j → word sums j ≡ word before j

module _ (ws before : List ℕ) (p k limit : ℕ) where
  abbrev x : Stored
  x = first_from ws p k 0

  -- the sum of a number with the frame's is within the limit, or is among the sums
  abbrev Fine : Field → Type 0
  Fine f = sum_of p before f + number x f ≤ limit

  abbrev New : List ℕ → Field → Type 0
  New sums f = sum_of p sums f ≡ sum_of p before f + number x f

  -- ---- The shells

  module _ (here : Framed ws before p k) where
    -- a number of the frame by its index in a run
    abbrev sent_run : ℕ
    sent_run = mark_words + 1

    abbrev taken_run : ℕ
    taken_run = mark_words + 1 + (p - k)

    sent_at_lem : (i : ℕ) → i < p - (k + 1) → number x (sent_in (k + 1 + i)) ≡ word ws (sent_run + i)
    sent_at_lem i h =
        let z : sent_place 0 k (k + 1 + i) ≡ sent_run + i = omega arith in
        number_sent ws p k 0 (k + 1 + i) (omega arith) (omega arith) (omega (arith, here.few)) ∙ ap (word ws) z

    taken_at : (i : ℕ) → i < p - (k + 1) → number x (taken_in (k + 1 + i)) ≡ word ws (taken_run + i)
    taken_at i h =
        let z : taken_place p 0 k (k + 1 + i) ≡ taken_run + i = omega (arith, here.low) in
        number_taken ws p k 0 (k + 1 + i) (omega arith) (omega arith) (omega (arith, here.few)) ∙ ap (word ws) z

    module _ (mid : List ℕ) (r : Bool) (one : AddedRun before (k + 1) ws sent_run (p - (k + 1)) limit mid r) where
      pub sent_over : r ≡ false → ((f : Field) → InShells k p f → Fine f) → ⊥
      sent_over e w =
          one.over e (λ i h. omega (arith, w (sent_in (k + 1 + i)) (omega arith, omega arith), sent_at_lem i h))

      module _ (good : r ≡ true) (after : List ℕ) (t : Bool)
          (two : AddedRun mid (p + k + 1) ws taken_run (p - (k + 1)) limit after t) where
        taken_sum : (i : ℕ) → i < p - (k + 1)
            → word mid (p + k + 1 + i) + word ws (taken_run + i)
            ≡ sum_of p before (taken_in (k + 1 + i)) + number x (taken_in (k + 1 + i))
        taken_sum i h =
            let z : p + k + 1 + i ≡ p + (k + 1 + i) = omega arith in
            λ j.
            (one.others good (p + k + 1 + i) (λ n. omega (arith, here.low)) ∙ ap (word before) z) j + sym (taken_at i h) j

        pub taken_over : t ≡ false → ((f : Field) → InShells k p f → Fine f) → ⊥
        taken_over e w =
            two.over e (λ i h. omega (arith, w (taken_in (k + 1 + i)) (omega arith, omega arith), taken_sum i h))

        pub shells_added : t ≡ true → AddedShells p k x limit before after true
        shells_added well =
            record {
              within = λ q f h. (fine f h).0;
              over = λ q. clash q;
              added = λ q f h. (fine f h).1;
              others = λ q j h.
                  two.others well j (λ n. omega (arith, here.low)) ∙ one.others good j (λ n. omega (arith, here.low));
              length = two.length ∙ one.length;
            }
          where
            fine : (f : Field) → InShells k p f → Fine f × New after f
            fine (sent_in m) h =
                let i = m - (k + 1) in
                let z : k + 1 + i ≡ m = omega arith in
                let w : Fine (sent_in (k + 1 + i)) × New after (sent_in (k + 1 + i)) = (
                  omega (arith, one.within good i (omega arith), sent_at_lem i (omega arith)),
                  two.others well (k + 1 + i) (λ n. absurd (n (omega (arith, here.low))))
                      ∙ one.inside good i (omega arith)
                      ∙ ap (λ y. word before (k + 1 + i) + y) (sym (sent_at_lem i (omega arith))),
                ) in
                rw z at w
            fine (taken_in m) h =
                let i = m - (k + 1) in
                let z : k + 1 + i ≡ m = omega arith in
                let y : p + (k + 1 + i) ≡ p + k + 1 + i = omega arith in
                let w : Fine (taken_in (k + 1 + i)) × New after (taken_in (k + 1 + i)) = (
                  omega (arith, two.within well i (omega arith), taken_sum i (omega arith)),
                  ap (word after) y ∙ two.inside well i (omega arith) ∙ taken_sum i (omega arith),
                ) in
                rw z at w
            fine all_sent h = elim h [ ]
            fine all_taken h = elim h [ ]

    -- ---- The totals

    pub totals_stopped : (sums : List ℕ) → length sums ≡ length before → (((f : Field) → IsTotal f → Fine f) → ⊥)
        → AddedTotals p x limit before sums false
    totals_stopped sums l none =
        record {
          within = λ q. clash (sym q);
          over = λ q. none;
          added = λ q. clash (sym q);
          others = λ q. clash (sym q);
          length = l;
        }

    module _ (one : List ℕ) (r : Bool) (a : AddedAt before (sum_issued p) ws (issued_place p 0 k) limit one r) where
      pub issued_over : r ≡ false → AddedTotals p x limit before one false
      issued_over e =
          totals_stopped one (kept_length before _ ws _ limit one r a)
          (λ w. (not_added before _ ws _ limit one r a e).0 (w all_sent tt))

      module _ (e : r ≡ true) (two : List ℕ) (t : Bool)
          (b : AddedAt one (sum_received p) ws (issued_place p 0 k + at_received) limit two t) where
        received_sum : word one (sum_received p) + word ws (issued_place p 0 k + at_received)
            ≡ sum_of p before all_taken + number x all_taken
        received_sum =
            let z : issued_place p 0 k + at_received ≡ received_place p 0 k = omega arith in
            λ i. other_kept before _ ws _ limit one r a e (sum_received p) (λ q. omega arith) i + ap (word ws) z i

        long : length two ≡ length before
        long = kept_length one _ ws _ limit two t b ∙ kept_length before _ ws _ limit one r a

        room : sum_received p < length before
        room = omega (arith, here.wide)

        totals_all : t ≡ true → AddedTotals p x limit before two true
        totals_all z =
            record {
              within = λ q. low;
              over = λ q. clash q;
              added = λ q. new;
              others = λ q j h.
                  other_kept one _ ws _ limit two t b z j (λ y. omega arith)
                  ∙ other_kept before _ ws _ limit one r a e j (λ y. omega arith);
              length = long;
            }
          where
            low : (f : Field) → IsTotal f → Fine f
            low (sent_in m) h = elim h [ ]
            low (taken_in m) h = elim h [ ]
            low all_sent h = sum_low before _ ws _ limit one r a e
            low all_taken h = omega (arith, sum_low one _ ws _ limit two t b z, received_sum)

            new : (f : Field) → IsTotal f → New two f
            new (sent_in m) h = elim h [ ]
            new (taken_in m) h = elim h [ ]
            new all_sent h =
                other_kept one _ ws _ limit two t b z (sum_issued p) (λ y. omega arith)
                ∙ sum_put before _ ws _ limit one r a e (omega (arith, room))
            new all_taken h =
                sum_put one _ ws _ limit two t b z (omega (arith, room, kept_length before _ ws _ limit one r a))
                ∙ received_sum

        pub totals_added : AddedTotals p x limit before two t
        totals_added = go t refl
          where
            go : (v : Bool) → t ≡ v → AddedTotals p x limit before two t
            go true z = rw z (totals_all z)
            go false z =
                rw z
                (totals_stopped two long
                (λ w. (not_added one _ ws _ limit two t b z).0 (omega (arith, received_sum, w all_taken tt))))

  -- ---- Both

  module _ (mid : List ℕ) (t : AddedTotals p x limit before mid true) where
    -- the sums of the shells are still the own ones
    shell_same : (f : Field) → InShells k p f → sum_of p mid f ≡ sum_of p before f
    shell_same (sent_in j) h = t.others refl j (omega arith)
    shell_same (taken_in j) h = t.others refl (p + j) (omega arith)
    shell_same all_sent h = elim h [ ]
    shell_same all_taken h = elim h [ ]

    pub shells_fine : Within limit p k x before → (f : Field) → InShells k p f → sum_of p mid f + number x f ≤ limit
    shells_fine w (sent_in j) h = omega (arith, shell_same (sent_in j) h, w (sent_in j) h)
    shells_fine w (taken_in j) h = omega (arith, shell_same (taken_in j) h, w (taken_in j) h)
    shells_fine w all_sent h = elim h [ ]
    shells_fine w all_taken h = elim h [ ]

    module _ (after : List ℕ) (s : AddedShells p k x limit mid after true) where
      pub within : Within limit p k x before
      within (sent_in j) h = omega (arith, shell_same (sent_in j) h, s.within refl (sent_in j) h)
      within (taken_in j) h = omega (arith, shell_same (taken_in j) h, s.within refl (taken_in j) h)
      within all_sent h = t.within refl all_sent tt
      within all_taken h = t.within refl all_taken tt

      pub added : Added p k x before after
      added (sent_in j) h = s.added refl (sent_in j) h ∙ ap (λ y. y + number x (sent_in j)) (shell_same (sent_in j) h)
      added (taken_in j) h = s.added refl (taken_in j) h ∙ ap (λ y. y + number x (taken_in j)) (shell_same (taken_in j) h)
      added all_sent h = s.others refl (sum_issued p) (omega arith) ∙ t.added refl all_sent tt
      added all_taken h = s.others refl (sum_received p) (omega arith) ∙ t.added refl all_taken tt
