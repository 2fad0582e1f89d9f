-- What the functions of a step do, by what the calls in them tell.
use mathlib.Core.Path.{◌≡◌, refl, sym, ap, ◌∙◌}
use mathlib.Core.Bool.{Bool, true, false, not}
use mathlib.Core.List.{List}
use Prim.Native.Nat.{ℕ, suc, ◌+◌, ◌≤◌, ◌<◌}
use native.Mathlib.Nat.{add-zero}
use native.Mathlib.Omega.{arith}
use lib.Dec.{eqb, ltb}
use lib.ListN.{length}
use borrow.Author.Tests.{lt-ltb, le-ltb, eq-eqb, ne_eqb}
use Rattle.base.specs.Choice.{choose, both, either}
use Rattle.base.specs.Limits.{Limits, field_limit, Fits, width}
use Rattle.base.proofs.Limits.{field_low}
use Rattle.base.proofs.Laws.{clash, choose_yes, choose_no, both_true}
use Rattle.node.specs.Sums.{Field, sent_in, taken_in, all_sent, all_taken, number}
use Rattle.node.specs.Sums.{Has as InFrame}
use Rattle.node.specs.Agree.{is_within, first_clauses, second_clauses, all_hold, first_failing, no_clause}
use Rattle.node.specs.declared.Stored.{Stored}
use Rattle.node.specs.declared.Confirm.{Confirm}
use Rattle.node.proofs.Clauses.{has_lower, first_known, second_known}
use Rattle.node.proofs.FirstFailing.{seven}
use Rattle.layout.specs.Places.{agreed_place, confirmed_place}
use Rattle.layout.specs.Held.{word, first_from, second_from, sum_of}
use Rattle.survey.specs.Pieces.{first_test, second_test, awaits_at, first_past, second_past, first_held}
use Rattle.survey.specs.declared.Spot.{Spot}
use Rattle.survey.proofs.Stored.{Has, first_none, first_same, second_none, second_same}
use Rattle.stored.specs.Held.{low_after, held_test}
use Rattle.scan_tests.specs.Tests.{may_confirm}
use Rattle.adding.specs.Adding.{Framed}
use Rattle.adding.proofs.Fitting.{fitting_made}
use Rattle.pass_one.specs.Tried.{PassedBy}
use Rattle.look.specs.Look.{Looked}
use Rattle.look.specs.declared.Look.{Look}
use Rattle.scanned.specs.Pieces.{past_of, Told, Summed, first_whole, second_whole, looks_at, FirstDone, SecondDone}
use Rattle.scanned.specs.Pieces.{FirstStep, SecondStep, Confirms, Steps}
use Rattle.scanned.specs.declared.Walked.{Walked}
use Rattle.scanned.specs.declared.Past.{Past}
use Rattle.scanned.proofs.Settled.{first_tried_lem, first_settled, first_open, second_settled, second_open}

-- ---- what the walk hands to a step

module _ (s : Spot) (k : ℕ) where
  pub awaited : k < s.dims → awaits_at s k ≡ not (both (eqb k 0) s.alone)
  unfolding awaits_at
  awaited l = ap (λ t. both t (not (both (eqb k 0) s.alone))) (lt-ltb k s.dims l)

  pub first_reach : k < s.dims → first_past s k ≡ ltb k (choose (eqb s.pass 1) s.dim s.dims)
  first_reach l = go (eqb s.pass 1)
    where
      go : (t : Bool) → either (not t) (ltb k s.dim) ≡ ltb k (choose t s.dim s.dims)
      go true = refl
      go false = sym (lt-ltb k s.dims l)

  pub second_reach : second_past s k ≡ ltb k (choose (eqb s.pass 1) 0 s.dim)
  second_reach = go (eqb s.pass 1)
    where
      go : (t : Bool) → both (not t) (ltb k s.dim) ≡ ltb k (choose t 0 s.dim)
      go true = sym (le-ltb k 0 (omega arith))
      go false = refl

pub told : (spot : Spot) (looks : Bool) (k : ℕ) → k < spot.dims → spot.dim ≤ spot.dims → (awaits : Bool)
    → awaits ≡ not (both (eqb k 0) spot.alone) → Told spot spot.dims k awaits (past_of spot looks)
told spot looks k low dim awaits a =
    record {
      dims = refl;
      awaited = awaited spot k low ∙ sym a;
      firsts = first_reach spot k low;
      seconds = second_reach spot k;
      look = at_look (eqb spot.pass 1) looks;
      confirm = at_confirm (eqb spot.pass 1) looks;
    }
  where
    at_look : (t u : Bool)
        → choose t spot.dim spot.dims ≤ choose t (choose u spot.dim spot.dims) spot.dims
    at_look true true = omega arith
    at_look true false = dim
    at_look false u = omega arith

    at_confirm : (t u : Bool)
        → choose t 0 spot.dim ≤ choose t spot.dims (choose u spot.dim spot.dims)
    at_confirm true u = omega arith
    at_confirm false true = omega arith
    at_confirm false false = dim

pub steps_told : (L : Limits) (fs ss sums : List ℕ) (spot : Spot) (past : Past) (k : ℕ) → Steps L fs ss sums spot past k
    → (awaits : Bool) → awaits ≡ not (both (eqb k 0) spot.alone) → Told spot spot.dims k awaits past
steps_told L fs ss sums spot past k h awaits a =
    rw h.tries (told spot h.looks k h.first.low h.dim awaits a)

-- ---- any step

-- the fields of a board have room in a state
pub has_room_lem : (p j : ℕ) → p ≤ width → (f : Field) → InFrame p j f → Has f
has_room_lem p j l (sent_in m) h = omega arith
has_room_lem p j l (taken_in m) h = omega arith
has_room_lem p j l all_sent h = tt
has_room_lem p j l all_taken h = tt

-- what is not before the position is not added
no_more : (a b : ℕ) (t : Bool) → (t ≡ true → b ≡ 0) → a ≡ a + choose t b 0
no_more a b true f = sym (ap (λ c. a + c) (f refl) ∙ add-zero a)
no_more a b false f = sym (add-zero a)

all_more : (a b : ℕ) (t : Bool) → t ≡ true → a + b ≡ a + choose t b 0
all_more a b t e = ap (λ u. a + choose u b 0) (sym e)

-- before the position only a step that awaits nobody is not tried
nobody : (a b : Bool) → both a b ≡ false → b ≡ true → a ≡ false
nobody true b e d = sym d ∙ e
nobody false b e d = refl

-- where no frame is stored all numbers are 0
zero_none : (t : Bool) (x : ℕ) → t ≡ false → choose t x 0 ≡ x → x ≡ 0
zero_none t x e f = sym f ∙ ap (λ u. choose u x 0) e

no_both : (a b : Bool) → (a ≡ true → b ≡ false) → both a b ≡ false
no_both true b f = f refl
no_both false b f = refl

-- ---- pass 1

module _ (L : Limits) (fs before : List ℕ) (spot : Spot) (past : Past) (k : ℕ) (w : Walked)
    (s : Framed fs before spot.dims k) where
  abbrev p : ℕ
  p = spot.dims

  abbrev one : Stored
  one = first_from fs p k 0

  -- the first of its clauses that fails
  abbrev failing : ℕ
  failing = first_failing (first_clauses L p k (sum_of p before) one)

  abbrev looked : Bool
  looked = looks_at spot past.look k

  -- where nobody is awaited nothing is stored
  none_first : awaits_at spot k ≡ false → first_whole L spot k (sum_of p before) (word fs 0) one ≡ true → (j : ℕ)
      (f : Field) → InFrame p j f → number one f ≡ 0
  unfolding first_whole
  none_first a r j f h =
      let m = both_true (ltb (word fs 0) 2) _ r in
      let z = both_true (first_test L (awaits_at spot k) p k one) _ m.1 in
      zero_none one.present (number one f) (first_none L (awaits_at spot k) p k one z.0 a)
      (first_same L (awaits_at spot k) p k one z.0 f (has_room_lem p j s.few f h))

  -- a step that is not tried
  stored_done : both (awaits_at spot k) (first_past spot k) ≡ false → (r : Walked)
      → r.ok ≡ held_test (field_limit L) fs (awaits_at spot k) 0 (length fs) → r.issued ≡ w.issued
      → r.clause ≡ choose looked failing w.clause
      → (looked ≡ true → r.clause ≡ no_clause → r.received.0 ≡ sum_of p before all_taken + number one all_taken)
      → (looked ≡ false → r.received ≡ w.received) → FirstDone L fs spot past k w before before r
  stored_done a r q i c t e =
      let whole = q ∙ first_open L spot k fs before s a in
      record {
        ok = whole;
        sums = λ g f h.
            no_more _ _ (first_past spot k) (λ d. none_first (nobody _ (first_past spot k) a d) (sym whole ∙ g) _ f h);
        length = refl;
        issued = i;
        clause = λ g. c;
        received = λ g. t;
        kept = e;
      }

  passed_done : Summed L p k before → awaits_at spot k ≡ true → first_past spot k ≡ true → looked ≡ false
      → (after : List ℕ) (t : Bool) → PassedBy L fs p k before after t
      → FirstDone L fs spot past k w before after
      (record { ok = t; issued = w.issued; clause = w.clause; received = w.received })
  passed_done sm a c u after t d =
      record {
        ok = d.ok ∙ ap all_hold (first_tried_lem L fs before p k s) ∙ first_settled L spot k fs before s sm a c;
        sums = λ r f h.
            d.sums r f (rw c at h) ∙ all_more (sum_of p before f) (number one f) (first_past spot k) c;
        length = d.length;
        issued = refl;
        clause = λ r. sym (choose_no _ _ u);
        received = λ r v. clash (sym v ∙ u);
        kept = λ v. refl;
      }

  -- the sums of the shells above k and the totals stay within the limit
  pub sums_within : (after : List ℕ) (r : Walked) → FirstDone L fs spot past k w before after r → r.ok ≡ true
      → first_past spot k ≡ true → ((f : Field) → InFrame p k f → sum_of p before f ≤ field_limit L) → (f : Field)
      → InFrame p (suc k) f → sum_of p after f ≤ field_limit L
  unfolding first_whole first_held
  sums_within after r d good c low f h = go (awaits_at spot k) refl
    where
      now_is : sum_of p after f ≡ sum_of p before f + number one f
      now_is = d.sums good f (rw c h) ∙ sym (all_more _ (number one f) (first_past spot k) c)

      go : (u : Bool) → awaits_at spot k ≡ u → sum_of p after f ≤ field_limit L
      go true a =
          let m = both_true (ltb (word fs 0) 2) _ (sym d.ok ∙ good) in
          let z = both_true (first_test L (awaits_at spot k) p k one) _ m.1 in
          let q : all_hold (first_clauses L p k (sum_of p before) one) ≡ true = rw (a, c) at z.1 in
          omega (arith, now_is, (first_known L p k (sum_of p before) one q).within f h)
      go false a =
          omega (
            arith,
            now_is,
            none_first a (sym d.ok ∙ good) (suc k) f h,
            low f (has_lower p k (suc k) f (omega arith) h),
          )

-- the words of a frame that is stored, and awaited
held_stored : (limit : ℕ) (ws : List ℕ) (awaits : Bool) (end : ℕ) → word ws 0 ≡ 1 → awaits ≡ true
    → held_test limit ws awaits 0 end ≡ low_after limit ws 0 end
unfolding held_test
held_stored limit ws awaits end e a = rw (e, a)

none_stored : (L : Limits) (p k : ℕ) (own : Field → ℕ) (x : Stored) → x.present ≡ false
    → first_failing (first_clauses L p k own x) ≡ 0
unfolding first_clauses first_failing
none_stored L p k own x e = choose_no _ _ e

-- by the tests of the code
module _ (L : Limits) (fs before : List ℕ) (p k : ℕ) (awaits : Bool) (past : Past) (w : Walked)
    (s : Framed fs before p k) where
  -- before the position
  pub first_passes : awaits ≡ true → k < past.firsts → (after : List ℕ) (t : Bool) → PassedBy L fs p k before after t
      → (r : Walked) → r ≡ record { ok = t; issued = w.issued; clause = w.clause; received = w.received }
      → FirstStep L fs p k awaits past w before after r
  first_passes a l after t d r e spot h sm =
      let c = h.firsts ∙ lt-ltb k past.firsts l in
      let u : looks_at spot past.look k ≡ false =
      no_both (awaits_at spot k) _ (λ v. ne_eqb k past.look (λ q. omega (arith, h.look))) in
      rw e
      (passed_done L fs before spot past k w (rw h.dims s) (rw h.dims (sm c)) (h.awaited ∙ a) c u after t
      (rw h.dims d))

  module _ (far : past.firsts ≤ k) where
    open_here : (spot : Spot) → Told spot p k awaits past → both (awaits_at spot k) (first_past spot k) ≡ false
    open_here spot h = no_both (awaits_at spot k) (first_past spot k) (λ v. h.firsts ∙ le-ltb k past.firsts far)

    module _ (a : awaits ≡ true) (here : k ≡ past.look) where
      looked_here : (spot : Spot) → Told spot p k awaits past → looks_at spot past.look k ≡ true
      looked_here spot h = rw (h.awaited, a) (eq-eqb k past.look here)

      -- at the position, with a frame
      pub first_looks : word fs 0 ≡ 1 → (x : Look) → Looked L fs before p k x
          → FirstStep L fs p k awaits past w before before
          (record { ok = x.ok; issued = w.issued; clause = x.clause; received = x.received })
      first_looks e x d spot h sm =
          let v = looked_here spot h in
          let q : Looked L fs before spot.dims k x = rw h.dims d in
          let f : Framed fs before spot.dims k = rw h.dims s in
          stored_done L fs before spot past k w f (open_here spot h) _
          (q.ok
          ∙ rw (fitting_made spot.dims k fs before f, e) refl
          ∙ sym (held_stored (field_limit L) fs (awaits_at spot k) (length fs) e (h.awaited ∙ a)))
          refl
          (q.clause ∙ ap first_failing (first_tried_lem L fs before spot.dims k f) ∙ sym (choose_yes _ _ v))
          (λ u. q.total) (λ u. clash (sym v ∙ u))

      -- and without
      pub first_lacks : (word fs 0 ≡ 1 → ⊥) → (t : Bool) → t ≡ held_test (field_limit L) fs awaits 0 (length fs)
          → (c : ℕ) → c ≡ 0
          → FirstStep L fs p k awaits past w before before
          (record { ok = t; issued = w.issued; clause = c; received = w.received })
      first_lacks e t q c z spot h sm =
          let v = looked_here spot h in
          stored_done L fs before spot past k w (rw h.dims s) (open_here spot h) _ (rw h.awaited q) refl
          (z ∙ sym (choose_yes _ _ v ∙ none_stored L spot.dims k _ _ (ne_eqb _ _ e)))
          (λ u f. absurd (omega (arith, z, f))) (λ u. refl)

  -- any other step
  pub first_stores : (awaits ≡ true → (past.firsts ≤ k) × (k ≡ past.look → ⊥)) → (t : Bool)
      → t ≡ held_test (field_limit L) fs awaits 0 (length fs) → (c : ℕ) → c ≡ w.clause
      → FirstStep L fs p k awaits past w before before
      (record { ok = t; issued = w.issued; clause = c; received = w.received })
  first_stores far t q c z spot h sm =
      let u : looks_at spot past.look k ≡ false =
      no_both (awaits_at spot k) _ (λ v. ne_eqb k past.look (far (sym h.awaited ∙ v)).1) in
      let a : both (awaits_at spot k) (first_past spot k) ≡ false =
      no_both (awaits_at spot k) (first_past spot k)
      (λ v. h.firsts ∙ le-ltb k past.firsts (far (sym h.awaited ∙ v)).0) in
      stored_done L fs before spot past k w (rw h.dims s) a _ (rw h.awaited q) refl (z ∙ sym (choose_no _ _ u))
      (λ v. clash (sym v ∙ u)) (λ v. refl)

-- ---- pass 2

module _ (L : Limits) (p k issued agreed : ℕ) (x : Confirm) where
  -- no clause fails exactly where all hold
  second_seven : eqb (first_failing (second_clauses L p k issued agreed x)) no_clause ≡ all_hold (second_clauses L p k issued agreed x)
  unfolding second_clauses
  second_seven =
      seven x.present true true (is_within L (issued + x.issued.0)) true (eqb x.agreed agreed)
      (choose (eqb (suc k) p) (eqb (issued + x.issued.0) agreed) true)

  -- and then the sum is within the limit
  pub second_fits : first_failing (second_clauses L p k issued agreed x) ≡ no_clause → issued + x.issued.0 ≤ field_limit L
  second_fits e = (second_known L p k issued agreed x (sym second_seven ∙ eq-eqb _ _ e)).within

  pub second_low : Fits L → first_failing (second_clauses L p k issued agreed x) ≡ no_clause → issued + x.issued.0 < 4294967296
  second_low fit e = omega (arith, second_fits e, field_low L fit)

module _ (L : Limits) (ss : List ℕ) (spot : Spot) (past : Past) (k : ℕ) (w : Walked) where
  abbrev two : Confirm
  two = second_from ss 0

  abbrev sum : ℕ
  sum = w.issued.0

  abbrev faults : ℕ
  faults = first_failing (second_clauses L spot.dims k sum spot.agreed two)

  none_second : awaits_at spot k ≡ false → second_whole L spot k sum (word ss 0) two ≡ true → two.issued.0 ≡ 0
  unfolding second_whole
  none_second a r =
      let m = both_true (ltb (word ss 0) 2) _ r in
      let u = both_true (second_test L (awaits_at spot k) two) _ m.1 in
      zero_none two.present two.issued.0 (second_none L (awaits_at spot k) two u.0 a)
      (second_same L (awaits_at spot k) two u.0)

  kept_done : both (awaits_at spot k) (second_past spot k) ≡ false → (t : Bool)
      → t ≡ may_confirm (word ss 0) (word ss (agreed_place 0)) (word ss (confirmed_place 0)) (awaits_at spot k) (field_limit L) → (c : ℕ)
      → c ≡ choose (looks_at spot past.confirm k) faults w.clause
      → SecondDone L ss spot past k w (record { ok = t; issued = w.issued; clause = c; received = w.received })
  kept_done a t q c e =
      let whole = q ∙ second_open L spot k ss sum a in
      record {
        ok = whole;
        more = λ r. no_more _ _ (second_past spot k) (λ d. none_second (nobody _ (second_past spot k) a d) (sym whole ∙ r));
        clause = λ r. e;
        received = refl;
      }

  confirmed_done : spot.agreed ≤ field_limit L → awaits_at spot k ≡ true → second_past spot k ≡ true
      → looks_at spot past.confirm k ≡ false → (r : Walked) → Confirms w (word ss (confirmed_place 0)) faults r
      → SecondDone L ss spot past k w r
  confirmed_done low a c u r d =
      record {
        ok =
            d.ok
            ∙ second_seven L spot.dims k sum spot.agreed two
            ∙ second_settled L spot k ss sum low a c;
        more = λ q. d.issued q ∙ all_more sum (word ss (confirmed_place 0)) (second_past spot k) c;
        clause = λ q. d.clause ∙ sym (choose_no _ _ u);
        received = d.received;
      }

-- by the tests of the code
module _ (L : Limits) (ss : List ℕ) (p k : ℕ) (awaits : Bool) (past : Past) (w : Walked) (agreed : ℕ) where
  abbrev first : ℕ
  first = first_failing (second_clauses L p k w.issued.0 agreed (second_from ss 0))

  -- before the position
  pub second_confirms : awaits ≡ true → k < past.seconds → (r : Walked) → Confirms w (word ss (confirmed_place 0)) first r
      → SecondStep L ss p k awaits past w agreed r
  second_confirms a l r d spot h e low =
      let u : looks_at spot past.confirm k ≡ false =
      no_both (awaits_at spot k) _ (λ v. ne_eqb k past.confirm (λ q. omega (arith, h.confirm))) in
      confirmed_done L ss spot past k w (rw e low) (h.awaited ∙ a) (h.seconds ∙ lt-ltb k past.seconds l) u r
      (rw (h.dims, e) d)

  -- at the position
  pub second_looks : past.seconds ≤ k → awaits ≡ true → k ≡ past.confirm → (t : Bool)
      → t ≡ may_confirm (word ss 0) (word ss (agreed_place 0)) (word ss (confirmed_place 0)) awaits (field_limit L) → (c : ℕ) → c ≡ first
      → SecondStep L ss p k awaits past w agreed
      (record { ok = t; issued = w.issued; clause = c; received = w.received })
  second_looks far a here t q c f spot h e low =
      let v : looks_at spot past.confirm k ≡ true = rw (h.awaited, a) (eq-eqb k past.confirm here) in
      kept_done L ss spot past k w (no_both (awaits_at spot k) (second_past spot k) (λ u. h.seconds ∙ le-ltb k past.seconds far)) t
      (rw h.awaited q) c (rw (h.dims, e) f ∙ sym (choose_yes _ _ v))

  -- any other step
  pub second_stores : (awaits ≡ true → (past.seconds ≤ k) × (k ≡ past.confirm → ⊥)) → (t : Bool)
      → t ≡ may_confirm (word ss 0) (word ss (agreed_place 0)) (word ss (confirmed_place 0)) awaits (field_limit L) → (c : ℕ) → c ≡ w.clause
      → SecondStep L ss p k awaits past w agreed
      (record { ok = t; issued = w.issued; clause = c; received = w.received })
  second_stores far t q c z spot h e low =
      let u : looks_at spot past.confirm k ≡ false =
      no_both (awaits_at spot k) _ (λ v. ne_eqb k past.confirm (far (sym h.awaited ∙ v)).1) in
      kept_done L ss spot past k w
      (no_both (awaits_at spot k) (second_past spot k)
      (λ v. h.seconds ∙ le-ltb k past.seconds (far (sym h.awaited ∙ v)).0)) t (rw h.awaited q) c
      (z ∙ sym (choose_no _ _ u))
