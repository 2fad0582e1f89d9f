-- The test of a step by what the code reads. Before the position the clauses alone decide: a frame that agrees with sums within
-- the limit is within the limit. Elsewhere the words may be stored.
use mathlib.Core.Path.{◌≡◌, refl, sym, ap, ◌∙◌}
use mathlib.Core.Bool.{Bool, true, false, not}
use mathlib.Core.List.{List}
use Prim.Native.Nat.{ℕ, ◌+◌, ◌≤◌}
use native.Mathlib.Decide.{ℕ_discrete}
use native.Mathlib.Omega.{arith}
use lib.Dec.{ltb, leb, eqb}
use lib.ListN.{length}
use borrow.Author.Tests.{eqb-true}
use Rattle.base.specs.Choice.{choose, both, either}
use Rattle.base.specs.Limits.{Limits, field_limit}
use Rattle.base.proofs.Laws.{clash, choose_yes}
use Rattle.node.specs.Sums.{Field, Has, sent_in, taken_in, all_sent, all_taken, number}
use Rattle.node.specs.Agree.{first_clauses, second_clauses, all_hold}
use Rattle.node.specs.declared.Stored.{Stored}
use Rattle.node.proofs.Clauses.{FirstAgrees, first_known, second_known}
use Rattle.layout.specs.Places.{first_words, second_words, agreed_place, confirmed_place}
use Rattle.layout.specs.Held.{word, first_from, second_from, sum_of}
use Rattle.survey.specs.Pieces.{first_test, second_test, awaits_at, first_past, second_past, first_held, second_held}
use Rattle.survey.specs.declared.Spot.{Spot}
use Rattle.stored.specs.Held.{low_after, held_test}
use Rattle.stored.proofs.Frames.{first_held_lem, second_held_lem, first_low, second_low}
use Rattle.scan_tests.specs.Tests.{may_mark, bound_for, may_confirm}
use Rattle.adding.specs.Adding.{Framed}
use Rattle.adding.proofs.Fitting.{fitting_made}
use Rattle.pass_one.specs.Tried.{first_tried}
use Rattle.scanned.specs.Pieces.{Summed, first_whole, second_whole}

-- ---- what may be stored: the mark, then the numbers by the bound that it sets

marked : (none some awaits : Bool) (low : ℕ → Bool) (limit : ℕ)
    → both (either none (both some awaits)) (low (choose none 0 limit))
    ≡ choose none (low 0) (both some (both awaits (low limit)))
marked true some awaits low limit = refl
marked false true awaits low limit = refl
marked false false awaits low limit = refl

pub held_by_mark : (limit : ℕ) (ws : List ℕ) (awaits : Bool) (end : ℕ)
    → both (may_mark (word ws 0) awaits) (low_after (bound_for (word ws 0) limit) ws 0 end) ≡ held_test limit ws awaits 0 end
unfolding held_test
held_by_mark limit ws awaits end =
    marked (eqb (word ws 0) 0) (eqb (word ws 0) 1) awaits (λ bound. low_after bound ws 0 end) limit

paired : (a b : Bool) → both a b ≡ both a (both b true)
paired a true = refl
paired true false = refl
paired false false = refl

confirm_by_mark : (limit : ℕ) (ws : List ℕ) (awaits : Bool)
    → may_confirm (word ws 0) (word ws (agreed_place 0)) (word ws (confirmed_place 0)) awaits limit ≡ held_test limit ws awaits 0 second_words
unfolding held_test
confirm_by_mark limit ws awaits =
    let bound = bound_for (word ws 0) limit in
    ap (both (may_mark (word ws 0) awaits)) (paired (leb (word ws (agreed_place 0)) bound) (leb (word ws (confirmed_place 0)) bound))
    ∙ held_by_mark limit ws awaits second_words

-- ---- the clauses that are tried are those of the frame

pub first_tried_lem : (L : Limits) (fs sums : List ℕ) (p k : ℕ) → Framed fs sums p k
    → first_tried L fs sums p k ≡ first_clauses L p k (sum_of p sums) (first_from fs p k 0)
first_tried_lem L fs sums p k s = choose_yes _ _ (fitting_made p k fs sums s)

-- ---- a frame that agrees is within the limit

module _ (L : Limits) (fs sums : List ℕ) (p k : ℕ) (s : Framed fs sums p k) (w : Summed L p k sums)
    (a : FirstAgrees L p k (sum_of p sums) (first_from fs p k 0)) where
  abbrev x : Stored
  x = first_from fs p k 0

  -- shell k by clauses 1 and 2, the others by clause 3
  numbers_low : (f : Field) → Has p k f → number x f ≤ field_limit L
  numbers_low (sent_in m) h = go (ℕ_discrete m k)
    where
      go : Dec (m ≡ k) → number x (sent_in m) ≤ field_limit L
      go (yes e) = omega (arith, ap (λ i. number x (sent_in i)) e, a.taken, w.taken)
      go (no e) = let t = a.within (sent_in m) (omega (arith, h.0), h.1) in omega arith
  numbers_low (taken_in m) h = go (ℕ_discrete m k)
    where
      go : Dec (m ≡ k) → number x (taken_in m) ≤ field_limit L
      go (yes e) = omega (arith, ap (λ i. number x (taken_in i)) e, a.sent, w.sent)
      go (no e) = let t = a.within (taken_in m) (omega (arith, h.0), h.1) in omega arith
  numbers_low all_sent h = let t = a.within all_sent tt in omega arith
  numbers_low all_taken h = let t = a.within all_taken tt in omega arith

  stored : both (ltb (word fs 0) 2) (first_test L true p k x) ≡ true
  stored = first_low fs p k 0 s.low s.few L (eqb-true _ 1 a.stored) numbers_low

-- ---- the test of a step before the position is its clauses

settled : (m f t : Bool) → (t ≡ true → both m f ≡ true) → t ≡ both m (both f t)
settled true true t h = refl
settled true false true h = sym (h refl)
settled true false false h = refl
settled false f true h = sym (h refl)
settled false f false h = refl

open_test : (m f t : Bool) → t ≡ true → both m f ≡ both m (both f t)
open_test true true t e = sym e
open_test true false t e = refl
open_test false f t e = refl

untried : (a b t : Bool) → both a b ≡ false → either (not a) (either (not b) t) ≡ true
untried true true t e = clash e
untried true false t e = refl
untried false b t e = refl

-- ---- pass 1

module _ (L : Limits) (spot : Spot) (k : ℕ) (fs sums : List ℕ) (s : Framed fs sums spot.dims k) where
  abbrev p : ℕ
  p = spot.dims

  abbrev first : Stored
  first = first_from fs p k 0

  pub first_settled : Summed L p k sums → awaits_at spot k ≡ true → first_past spot k ≡ true
      → all_hold (first_clauses L p k (sum_of p sums) first) ≡ first_whole L spot k (sum_of p sums) (word fs 0) first
  unfolding first_whole first_held
  first_settled w e f =
      rw (e, f)
      (settled (ltb (word fs 0) 2) (first_test L true p k first) (all_hold (first_clauses L p k (sum_of p sums) first))
      (λ q. stored L fs sums p k s w (first_known L p k (sum_of p sums) first q)))

  -- a step that is not tried: what is stored may be there
  pub first_open : both (awaits_at spot k) (first_past spot k) ≡ false
      → held_test (field_limit L) fs (awaits_at spot k) 0 (length fs)
      ≡ first_whole L spot k (sum_of p sums) (word fs 0) first
  unfolding first_whole first_held
  first_open e =
      let all : length fs ≡ 0 + first_words p k = omega (arith, s.long) in
      ap (held_test (field_limit L) fs (awaits_at spot k) 0) all
      ∙ first_held_lem fs p k 0 s.low s.few L (awaits_at spot k)
      ∙ open_test (ltb (word fs 0) 2) (first_test L (awaits_at spot k) p k first) _
      (untried (awaits_at spot k) (first_past spot k) (all_hold (first_clauses L p k (sum_of p sums) first)) e)

-- ---- pass 2

module _ (L : Limits) (spot : Spot) (k : ℕ) (ss : List ℕ) (issued : ℕ) where
  pub second_settled : spot.agreed ≤ field_limit L → awaits_at spot k ≡ true → second_past spot k ≡ true
      → all_hold (second_clauses L spot.dims k issued spot.agreed (second_from ss 0))
      ≡ second_whole L spot k issued (word ss 0) (second_from ss 0)
  unfolding second_whole second_held
  second_settled agreed e f =
      rw (e, f)
      (settled (ltb (word ss 0) 2) (second_test L true (second_from ss 0))
      (all_hold (second_clauses L spot.dims k issued spot.agreed (second_from ss 0)))
      (λ q.
      let a = second_known L spot.dims k issued spot.agreed (second_from ss 0) q in
      second_low L ss 0 true (eqb-true _ 1 a.stored) (omega (arith, a.same)) (omega (arith, a.within))))

  pub second_open : both (awaits_at spot k) (second_past spot k) ≡ false
      → may_confirm (word ss 0) (word ss (agreed_place 0)) (word ss (confirmed_place 0)) (awaits_at spot k) (field_limit L)
      ≡ second_whole L spot k issued (word ss 0) (second_from ss 0)
  unfolding second_whole second_held
  second_open e =
      confirm_by_mark (field_limit L) ss (awaits_at spot k)
      ∙ second_held_lem L ss 0 (awaits_at spot k)
      ∙ open_test (ltb (word ss 0) 2) (second_test L (awaits_at spot k) (second_from ss 0)) _
      (untried (awaits_at spot k) (second_past spot k)
      (all_hold (second_clauses L spot.dims k issued spot.agreed (second_from ss 0))) e)
