-- The walk over the stored frames carries its definition: from dimension to dimension, with what a step does.
use mathlib.Core.Path.{◌≡◌, refl, sym, ap, ◌∙◌}
use mathlib.Core.Bool.{Bool, true, false, not}
use mathlib.Core.List.{List}
use Prim.Native.Nat.{ℕ, suc, ◌+◌, ◌-◌, ◌*◌, ◌≤◌, ◌<◌, min}
use native.Mathlib.Decide.{dec_lt, ℕ_discrete}
use native.Mathlib.Numerals.{add-one}
use native.Mathlib.Omega.{arith}
use lib.Dec.{eqb, ltb}
use lib.ListN.{length}
use borrow.Author.Count.{below_more}
use borrow.Author.Tests.{lt-ltb, le-ltb, ltb-true, eq-eqb, ne_eqb, not-true}
use Rattle.base.specs.Choice.{choose, both, either, every}
use Rattle.base.specs.Limits.{Limits, field_limit, taken_limit, Fits, width}
use Rattle.base.proofs.Laws.{choose_yes, choose_no, both_true, both_make, every_at, every_make}
use Rattle.base.proofs.Limits.{mul_low}
use Rattle.tree.specs.Lookups.{bad_board}
use Rattle.tree.proofs.Lookups.{board_good}
use Rattle.frame.specs.Frame.{sent_at, taken_at}
use Rattle.frame.specs.declared.Sent.{Sent}
use Rattle.frame.specs.declared.Taken.{Taken}
use Rattle.node.specs.Sums.{dims, first_at, second_at, Field, Has, sent_in, taken_in, all_sent, all_taken, number, tally}
use Rattle.node.specs.Sums.{own, own_issued}
use Rattle.node.specs.Agree.{is_alone, first_clauses, second_clauses, clauses, all_hold, first_failing, no_clause}
use Rattle.node.specs.State.{board_ok, tallies_ok}
use Rattle.node.specs.declared.Stored.{Stored}
use Rattle.node.specs.declared.Confirm.{Confirm}
use Rattle.node.specs.declared.Node.{Node}
use Rattle.node.proofs.Clauses.{has_lower}
use Rattle.node.proofs.Totals.{total_at}
use Rattle.survey.specs.Pieces.{first_test, second_test, awaits_at, first_past, second_past, first_held, second_held, step_test}
use Rattle.survey.specs.declared.Spot.{Spot}
use Rattle.survey.proofs.Valid.{fails, not_both}
use Rattle.survey.proofs.Sums.{own_more, sends_low_lem, takes_low_lem, first_test_lem, second_test_lem}
use Rattle.survey.proofs.Stored.{first_same, second_same}
use Rattle.survey.proofs.Steps.{few, clauses_same, awaits_same}
use Rattle.survey.proofs.Tested.{step_at, step_first, step_second}
use Rattle.layout.specs.Places.{head_words, first_words, second_words, at_first, at_second, confirmed_place}
use Rattle.layout.specs.Held.{word, first_from, second_from, sum_of, unpacked, is_marked}
use Rattle.layout.proofs.Offsets.{first_more as place-more}
use Rattle.head.specs.Head.{spot_in}
use Rattle.walked.specs.Walk.{reach, confirm_reach, first_adds, second_adds, walked}
use Rattle.walked.proofs.Walked.{walked_sums, walked_issued, first_more, second_more}
use Rattle.walked.proofs.Walked.{dim_low, reach_low, confirm_reach_low}
use Rattle.adding.specs.Adding.{Framed}
use Rattle.scanned.specs.Scan.{clause_here}
use Rattle.scanned.specs.Pieces.{first_whole, second_whole, looks_at, past_of, FirstDone, SecondDone, Steps, Stepped}
use Rattle.scanned.specs.Pieces.{step_in, Walking, is_seen, Carries, WalkedAll}
use Rattle.scanned.specs.declared.Walked.{Walked}
use Rattle.scanned.specs.declared.Past.{Past}
use Rattle.scanned.proofs.Lent.{first_lent, second_lent, first_long, second_long, first_mark, second_mark, first_is, second_is}
use Rattle.scanned.proofs.Stepping.{has_room_lem, first_reach, second_reach, sums_within}

-- ---- the parts of a step are the step

joined : (m n f s a g h : Bool)
    → both (both m (both f (either a g))) (both n (both s (either a h)))
    ≡ both (both m n) (both f (both s (either a (both g h))))
joined false n f s a g h = refl
joined true true false s a g h = refl
joined true false false s a g h = refl
joined true n true s true g h = refl
joined true n true s false true h = refl
joined true false true s false false h = refl
joined true true true true false false h = refl
joined true true true false false false h = refl

module _ (L : Limits) (ws : List ℕ) (k : ℕ) where
  abbrev first_part : Bool
  first_part =
      let n = unpacked ws in
      first_whole L (spot_in L ws) k (own n k) (word ws (at_first (dims n) k)) (first_at n k)

  abbrev second_part : Bool
  second_part =
      let n = unpacked ws in
      second_whole L (spot_in L ws) k (own_issued n k) (word ws (at_second (dims n) k)) (second_at n k)

  parts : both first_part second_part ≡ step_in L ws k
  unfolding first_whole second_whole step_in step_test
  parts =
      let n = unpacked ws in
      let s = spot_in L ws in
      joined (ltb (word ws (at_first (dims n) k)) 2) (ltb (word ws (at_second (dims n) k)) 2)
      (first_test L (awaits_at s k) (dims n) k (first_at n k)) (second_test L (awaits_at s k) (second_at n k))
      (not (awaits_at s k)) (first_held L s k (own n k) (first_at n k)) (second_held L s k (own_issued n k) (second_at n k))

-- a step reads the sums only where it is before the position
module _ (L : Limits) (s : Spot) (k mark : ℕ) (low : k < s.dims) where
  first_reads : (f g : Field → ℕ) (x : Stored)
      → (first_past s k ≡ true → (h : Field) → Has s.dims k h → f h ≡ g h)
      → first_whole L s k f mark x ≡ first_whole L s k g mark x
  unfolding first_whole first_held
  first_reads f g x same =
      ap
      (λ t. both (ltb mark 2) (both (first_test L (awaits_at s k) s.dims k x) (either (not (awaits_at s k)) t)))
      (go (first_past s k) refl)
    where
      go : (t : Bool) → first_past s k ≡ t
          → either (not (first_past s k)) (all_hold (first_clauses L s.dims k f x))
          ≡ either (not (first_past s k)) (all_hold (first_clauses L s.dims k g x))
      go true q =
          ap (λ cs. either (not (first_past s k)) (all_hold cs)) (clauses_same L s.dims k f g x low (same q))
      go false q = rw q

  second_reads : (i j : ℕ) (y : Confirm) → (second_past s k ≡ true → i ≡ j)
      → second_whole L s k i mark y ≡ second_whole L s k j mark y
  unfolding second_whole second_held
  second_reads i j y alike =
      ap (λ t. both (ltb mark 2) (both (second_test L (awaits_at s k) y) (either (not (awaits_at s k)) t)))
      (go (second_past s k) refl)
    where
      go : (t : Bool) → second_past s k ≡ t
          → either (not (second_past s k)) (all_hold (second_clauses L s.dims k i s.agreed y))
          ≡ either (not (second_past s k)) (all_hold (second_clauses L s.dims k j s.agreed y))
      go true q =
          ap (λ e. either (not (second_past s k)) (all_hold (second_clauses L s.dims k e s.agreed y))) (alike q)
      go false q = rw q

-- ---- the tallies are within the limit

module _ (L : Limits) (n : Node) (board : board_ok L n ≡ true) (ok : tallies_ok L n ≡ true) where
  some_nodes : 0 < L.nodes
  unfolding board_ok
  some_nodes =
      let q = both_true (not (bad_board L n.nodes)) (ltb n.number n.nodes) board in
      let g = board_good L n.nodes (not-true _ q.0) in
      omega (arith, g.0, g.1)

  tally_low : (f : Field) → Has (dims n) 0 f → tally n f ≤ field_limit L
  tally_low =
      go (mul_low 1 L.nodes L.sends L.sends some_nodes (omega arith))
      (mul_low (L.nodes - 1) L.nodes L.sends L.sends (omega arith) (omega arith))
    where
      go : 1 * L.sends ≤ field_limit L → taken_limit L ≤ field_limit L → (f : Field) → Has (dims n) 0 f
          → tally n f ≤ field_limit L
      go a b (sent_in m) h = omega (arith, sends_low_lem L n ok, total_at (sent_at n.sent) m (dims n) h.1)
      go a b (taken_in m) h = omega (arith, takes_low_lem L n ok, total_at (taken_at n.taken) m (dims n) h.1)
      go a b all_sent h = omega (arith, sends_low_lem L n ok)
      go a b all_taken h = omega (arith, takes_low_lem L n ok)

-- ---- the step that is looked at

-- what does not hold
away : (a : Bool) {b : Bool} → b ≡ false → both a b ≡ false
away true e = e
away false e = refl

-- no step of the board is past its last
none_there : (a : Bool) (k p : ℕ) → k < p → both a (eqb k p) ≡ false
none_there a k p l = away a (ne_eqb k p (λ e. omega arith))

-- one step more: at the position the clause is said
seen_more : (looks awaits alone : Bool) (dim k said : ℕ) → (k ≡ dim → awaits ≡ not alone)
    → choose (both looks (both awaits (eqb k dim))) said (choose (both looks (ltb dim k)) (choose alone no_clause said) no_clause)
    ≡ choose (both looks (ltb dim (k + 1))) (choose alone no_clause said) no_clause
seen_more false awaits alone dim k said e = refl
seen_more true awaits alone dim k said e = go (ℕ_discrete k dim) (dec_lt dim k)
  where
    here : (a b : Bool) → a ≡ not b → choose (both a true) said no_clause ≡ choose b no_clause said
    here a true q = ap (λ t. choose (both t true) said no_clause) q
    here a false q = ap (λ t. choose (both t true) said no_clause) q

    go : Dec (k ≡ dim) → Dec (dim < k)
        → choose (both awaits (eqb k dim)) said (choose (ltb dim k) (choose alone no_clause said) no_clause)
        ≡ choose (ltb dim (k + 1)) (choose alone no_clause said) no_clause
    go (yes q) l =
        rw (eq-eqb k dim q, le-ltb dim k (omega arith), lt-ltb dim (k + 1) (omega arith)) (here awaits alone (e q))
    go (no q) (yes l) =
        rw (away awaits (ne_eqb k dim q), lt-ltb dim k l, lt-ltb dim (k + 1) (omega arith)) refl
    go (no q) (no l) =
        rw (away awaits (ne_eqb k dim q), le-ltb dim k (omega arith), le-ltb dim (k + 1) (omega arith)) refl

-- a test at the dimension that is looked at, which is no dimension where none is
at_dim_lem : (looks awaits : Bool) (dim k p a said b : ℕ) → k < p → (looks ≡ true → k ≡ dim → a ≡ said)
    → choose (both awaits (eqb k (choose looks dim p))) a b ≡ choose (both looks (both awaits (eqb k dim))) said b
at_dim_lem false awaits dim k p a said b l e = choose_no a b (none_there awaits k p l)
at_dim_lem true awaits dim k p a said b l e = go (ℕ_discrete k dim)
  where
    go : Dec (k ≡ dim) → choose (both awaits (eqb k dim)) a b ≡ choose (both awaits (eqb k dim)) said b
    go (yes q) = ap (λ z. choose (both awaits (eqb k dim)) z b) (e refl q)
    go (no q) = rw (away awaits (ne_eqb k dim q)) refl

-- ---- before the first dimension

pub carries_start : (L : Limits) (ws start : List ℕ) (here : Spot) (x : Sent) (looks : Bool) → Walking L ws start here x.0
    → (w : Walked) → w.issued ≡ x → w.clause ≡ no_clause → Carries L ws start looks 0 (head_words + 2 * here.dims) start w
unfolding at_first own own_issued walked
carries_start L ws start here x looks h w i c =
    let z : (r : ℕ) → 0 ≡ min 0 r = λ r. omega arith in
    let n = unpacked ws in
    let unseen : is_seen n looks 0 ≡ false = nothing looks n.dim in
    record {
      low = omega arith;
      place = ap (λ (s : Spot). head_words + 2 * s.dims) h.spot;
      length = refl;
      holds =
          record {
            sums = λ f q. h.sums f (rw (sym (z (reach n))) at q);
            issued = ap (λ (y : Sent). y.0) i ∙ h.sends;
          };
      within = λ f q.
          let g : Has (dims n) 0 f = rw (sym (z (reach n))) at q in
          omega (arith, h.sums f g, tally_low L n h.board h.tallies f g);
      steps = λ j l. absurd (omega arith);
      clause = c ∙ sym (choose_no _ _ unseen);
      received = λ q. not_both q unseen;
    }
  where
    nothing : (t : Bool) (d : ℕ) → both t (ltb d 0) ≡ false
    nothing true d = le-ltb d 0 (omega arith)
    nothing false d = refl

-- ---- at dimension k

module _ (L : Limits) (fit : Fits L) (ws start : List ℕ) (here : Spot) (sends : ℕ) (h : Walking L ws start here sends)
    (looks : Bool) (k at : ℕ) (sums : List ℕ) (w : Walked) (c : Carries L ws start looks k at sums w) where
  abbrev n : Node
  n = unpacked ws

  abbrev p : ℕ
  p = dims n

  abbrev spot : Spot
  spot = spot_in L ws

  bound : p ≤ width
  bound = few L fit n h.board

  -- the sums are the own sums of the dimension, up to the position's
  own_here : k ≤ reach n → (f : Field) → Has p k f → sum_of p sums f ≡ own n k f
  own_here l f q =
      let u : min k (reach n) ≡ k = omega arith in
      c.holds.sums f (rw (sym u) at q) ∙ walked_sums n k f ∙ ap (λ j. own n j f) u

  issued_here : k ≤ confirm_reach n → w.issued.0 ≡ own_issued n k
  issued_here l =
      let u : min k (confirm_reach n) ≡ k = omega arith in
      c.holds.issued ∙ walked_issued n k ∙ ap (own_issued n) u

  module _ (l : k < p) where
    abbrev fs : List ℕ
    fs = first_lent ws p k

    abbrev ss : List ℕ
    ss = second_lent ws p k

    abbrev x : Stored
    x = first_from fs p k 0

    abbrev y : Confirm
    y = second_from ss 0

    x_is : first_at n k ≡ x
    x_is = first_is ws k l bound h.long

    y_is : second_at n k ≡ y
    y_is = second_is ws k l bound h.long

    -- what the step is handed
    framed : Framed fs sums p k
    framed =
        record {
          low = l;
          few = bound;
          long = first_long ws k l bound h.long;
          wide = omega (arith, c.length, h.room);
        }

    handed : Steps L fs ss sums here (past_of here looks) k
    handed = rw h.spot core
      where
        core : Steps L fs ss sums spot (past_of spot looks) k
        core =
            record {
              first = framed;
              second = second_long ws k l bound h.long;
              summed = λ e.
                  let r = ltb-true k (reach n) (sym (first_reach spot k l) ∙ e) in
                  record {
                    sent = c.within (sent_in k) (omega arith, l);
                    taken = c.within (taken_in k) (omega arith, l);
                  };
              agreed = h.agreed;
              dim = dim_low n h.position;
              looks = looks;
              tries = refl;
            }

    -- the step does not pass
    stopped : (after : List ℕ) (r : Walked) → length after ≡ length sums → r.ok ≡ false → step_in L ws k ≡ false
        → WalkedAll L ws looks start after r
    stopped after r len bad e =
        record {
          ok =
              bad
              ∙ sym
              (fails (every 0 p (step_in L ws))
              (λ q. not_both (every_at 0 p (step_in L ws) q k (omega arith) (omega arith)) e));
          length = len ∙ c.length;
          issued = λ q. not_both q bad;
          sums = λ q. not_both q bad;
          clause = λ q. not_both q bad;
          received = λ q. not_both q bad;
        }

    abbrev past : Past
    past = past_of spot looks

    -- ---- pass 1

    module _ (after : List ℕ) (m : Walked) (done : FirstDone L fs spot past k w sums after m) where
      first_part_lem : m.ok ≡ first_part L ws k
      first_part_lem =
          done.ok
          ∙ first_reads L spot k (word fs 0) l (sum_of p sums) (own n k) x
          (λ e. own_here (let r = ltb-true k (reach n) (sym (first_reach spot k l) ∙ e) in omega arith))
          ∙ (λ i. first_whole L spot k (own n k) (first_mark ws k l bound h.long i) (sym x_is i))

      first_stops : m.ok ≡ false → (r : Walked) → r.ok ≡ false → WalkedAll L ws looks start after r
      first_stops e r bad =
          stopped after r done.length bad
          (sym (parts L ws k) ∙ ap (λ b. both b (second_part L ws k)) (sym first_part_lem ∙ e))

      -- ---- pass 2

      module _ (one : m.ok ≡ true) (r : Walked) (next : SecondDone L ss spot past k m r) where
        issued_same : m.issued.0 ≡ w.issued.0
        issued_same = ap (λ (z : Sent). z.0) done.issued

        second_part_lem : r.ok ≡ second_part L ws k
        second_part_lem =
            next.ok
            ∙ second_reads L spot k (word ss 0) l m.issued.0 (own_issued n k) y
            (λ e.
            issued_same
            ∙ issued_here (let r = ltb-true k (confirm_reach n) (sym (second_reach spot k) ∙ e) in omega arith))
            ∙ (λ i. second_whole L spot k (own_issued n k) (second_mark ws k l bound h.long i) (sym y_is i))

        step : r.ok ≡ step_in L ws k
        step = second_part_lem ∙ ap (λ b. both b (second_part L ws k)) (sym one ∙ first_part_lem) ∙ parts L ws k

        second_stops : r.ok ≡ false → WalkedAll L ws looks start after r
        second_stops e = stopped after r done.length e (sym step ∙ e)

        module _ (two : r.ok ≡ true) where
          ok : step_in L ws k ≡ true
          ok = sym step ∙ two

          step_here : step_at L n k ≡ true
          unfolding step_in
          step_here = (both_true (is_marked ws p k) (step_at L n k) ok).1

          -- ---- the walk over one dimension more

          -- where no frame is stored its numbers are 0, so that they can be added
          first_adds_lem : (f : Field) → Has p 0 f → first_adds n k (first_at n k) f ≡ choose (first_past spot k) (number x f) 0
          first_adds_lem f q =
              (λ i. choose (sym (first_reach spot k l) i)
              (first_same L _ p k (first_at n k) (sym (first_test_lem L n k) ∙ step_first L n h.board k step_here) f
              (has_room_lem p 0 bound f q) i) 0)
              ∙ ap (λ (z : Stored). choose (first_past spot k) (number z f) 0) x_is

          second_adds_lem : second_adds n k (second_at n k) ≡ choose (second_past spot k) (word ss (confirmed_place 0)) 0
          second_adds_lem =
              (λ i. choose (sym (second_reach spot k) i)
              (second_same L _ (second_at n k) (sym (second_test_lem L n k) ∙ step_second L n h.board k step_here) i) 0)
              ∙ ap (λ (z : Confirm). choose (second_past spot k) z.issued.0 0) y_is

          -- what the walk has after the step it had before it
          reached : (f : Field) → Has p (min (k + 1) (reach n)) f → Has p (choose (first_past spot k) (suc k) 0) f
          reached f q = rw (first_reach spot k l) (go (dec_lt k (reach n)))
            where
              go : Dec (k < reach n) → Has p (choose (ltb k (reach n)) (suc k) 0) f
              go (yes b) =
                  let u : min (k + 1) (reach n) ≡ suc k = omega arith in
                  rw (lt-ltb k (reach n) b) (rw u at q)
              go (no b) = rw (le-ltb k (reach n) (omega arith)) (has_lower p 0 (min (k + 1) (reach n)) f (omega arith) q)

          sums_more : (f : Field) → Has p (min (k + 1) (reach n)) f → sum_of p after f ≡ (walked n (k + 1)).sums f
          sums_more f q =
              done.sums one f (reached f q)
              ∙ (λ i.
              c.holds.sums f (has_lower p (min k (reach n)) (min (k + 1) (reach n)) f (omega arith) q) i
              + sym (first_adds_lem f (has_lower p 0 (min (k + 1) (reach n)) f (omega arith) q)) i)
              ∙ sym (ap (λ j. (walked n j).sums f) (add-one k) ∙ first_more n k f)

          issued_more : r.issued.0 ≡ (walked n (k + 1)).issued
          issued_more =
              next.more two
              ∙ (λ i. (issued_same ∙ c.holds.issued) i + sym second_adds_lem i)
              ∙ sym (ap (λ j. (walked n j).issued) (add-one k) ∙ second_more n k)

          within_more : (f : Field) → Has p (min (k + 1) (reach n)) f → sum_of p after f ≤ field_limit L
          within_more f q = go (dec_lt k (reach n))
            where
              go : Dec (k < reach n) → sum_of p after f ≤ field_limit L
              go (yes b) =
                  let u : min (k + 1) (reach n) ≡ suc k = omega arith in
                  let v : min k (reach n) ≡ k = omega arith in
                  sums_within L fs sums spot past k w framed after m done one
                  (first_reach spot k l ∙ lt-ltb k (reach n) b) (λ g z. c.within g (rw (sym v) at z)) f (rw u at q)
              go (no b) =
                  let u : min (k + 1) (reach n) ≡ min k (reach n) = omega arith in
                  let e = first_reach spot k l ∙ le-ltb k (reach n) (omega arith) in
                  omega (
                    arith,
                    done.sums one f (reached f q) ∙ ap (λ b. sum_of p sums f + choose b (number x f) 0) e,
                    c.within f (rw u at q),
                  )

          -- ---- the look

          abbrev said : ℕ
          said = first_failing (clauses L n n.pass n.dim)

          -- which frame is looked at, by the pass
          module _ (e : eqb n.pass 1 ≡ true) where
            first_only : r.clause ≡ m.clause
            first_only =
                next.clause two
                ∙ choose_no _ _ (ap (λ d. looks_at spot d k) (choose_yes _ _ e) ∙ none_there (awaits_at spot k) k p l)

            first_look : past.look ≡ choose looks n.dim p
            first_look = choose_yes _ _ e

          module _ (e : eqb n.pass 1 ≡ false) where
            second_only : m.clause ≡ w.clause
            second_only =
                done.clause one
                ∙ choose_no _ _ (ap (λ d. looks_at spot d k) (choose_no _ _ e) ∙ none_there (awaits_at spot k) k p l)

            second_look : past.confirm ≡ choose looks n.dim p
            second_look = choose_no _ _ e

          first_said : eqb n.pass 1 ≡ true → k ≡ n.dim → first_failing (first_clauses L p k (sum_of p sums) x) ≡ said
          first_said e q =
              let z : k ≤ reach n = omega (arith, choose_yes n.dim p e) in
              ap first_failing
              (clauses_same L p k (sum_of p sums) (own n k) x l (own_here z)
              ∙ ap (first_clauses L p k (own n k)) (sym x_is)
              ∙ ap (λ d. first_clauses L p d (own n d) (first_at n d)) q
              ∙ sym (choose_yes _ _ e))

          second_said : eqb n.pass 1 ≡ false → k ≡ n.dim
              → first_failing (second_clauses L p k m.issued.0 n.agreed y) ≡ said
          second_said e q =
              let z : k ≤ confirm_reach n = omega (arith, choose_no 0 n.dim e) in
              ap first_failing
              ((λ i. second_clauses L p k ((issued_same ∙ issued_here z) i) n.agreed (sym y_is i))
              ∙ ap (λ d. second_clauses L p d (own_issued n d) n.agreed (second_at n d)) q
              ∙ sym (choose_no _ _ e))

          step_clause : r.clause ≡ choose (both looks (both (awaits_at spot k) (eqb k n.dim))) said w.clause
          step_clause = go (eqb n.pass 1) refl
            where
              go : (t : Bool) → eqb n.pass 1 ≡ t
                  → r.clause ≡ choose (both looks (both (awaits_at spot k) (eqb k n.dim))) said w.clause
              go true e =
                  first_only e
                  ∙ done.clause one
                  ∙ ap (λ d. choose (looks_at spot d k) (first_failing (first_clauses L p k (sum_of p sums) x)) w.clause)
                  (first_look e)
                  ∙ at_dim_lem looks (awaits_at spot k) n.dim k p _ said w.clause l (λ u q. first_said e q)
              go false e =
                  next.clause two
                  ∙ (λ i.
                  choose (looks_at spot (second_look e i) k)
                  (first_failing (second_clauses L p k m.issued.0 n.agreed y)) (second_only e i))
                  ∙ at_dim_lem looks (awaits_at spot k) n.dim k p _ said w.clause l (λ u q. second_said e q)

          awaits_here : k ≡ n.dim → awaits_at spot k ≡ not (is_alone n n.dim)
          awaits_here q =
              awaits_same L n k h.board
              ∙ ap (λ t. both t (not (is_alone n k))) (lt-ltb k p l)
              ∙ ap (λ d. not (is_alone n d)) q

          clause_more : r.clause ≡ choose (is_seen n looks (k + 1)) (clause_here L n) no_clause
          clause_more =
              step_clause
              ∙ ap (λ z. choose (both looks (both (awaits_at spot k) (eqb k n.dim))) said z) c.clause
              ∙ seen_more looks (awaits_at spot k) (is_alone n n.dim) n.dim k said awaits_here

          received_more : is_seen n looks (k + 1) ≡ true → is_alone n n.dim ≡ false → n.pass ≡ 1 → r.clause ≡ no_clause
              → r.received.0 ≡ own n (suc n.dim) all_taken
          received_more s f one-pass agreed = ap (λ (z : Taken). z.0) next.received ∙ go (ℕ_discrete k n.dim)
            where
              e : eqb n.pass 1 ≡ true
              e = eq-eqb n.pass 1 one-pass

              looked : looks ≡ true
              looked = (both_true looks (ltb n.dim (k + 1)) s).0

              below : n.dim < k + 1
              below = ltb-true n.dim (k + 1) (both_true looks (ltb n.dim (k + 1)) s).1

              look_is : past.look ≡ n.dim
              look_is = first_look e ∙ choose_yes _ _ looked

              m_agreed : m.clause ≡ no_clause
              m_agreed = sym (first_only e) ∙ agreed

              go : Dec (k ≡ n.dim) → m.received.0 ≡ own n (suc n.dim) all_taken
              go (yes q) =
                  let at_position : looks_at spot past.look k ≡ true =
                  both_make (awaits_here q ∙ ap not f) (eq-eqb k past.look (q ∙ sym look_is)) in
                  let z : k ≤ reach n = omega (arith, choose_yes n.dim p e) in
                  done.received one at_position m_agreed
                  ∙ (λ i. own_here z all_taken tt i + ap (λ (z : Stored). number z all_taken) (sym x_is) i)
                  ∙ sym (own_more L n k (step_first L n h.board k step_here) all_taken tt)
                  ∙ ap (λ d. own n (suc d) all_taken) q
              go (no q) =
                  let past-it : looks_at spot past.look k ≡ false =
                  ap (λ d. looks_at spot d k) look_is ∙ away (awaits_at spot k) (ne_eqb k n.dim q) in
                  ap (λ (z : Taken). z.0) (done.kept past-it)
                  ∙ c.received (both_make looked (lt-ltb n.dim k (omega (arith, below)))) f one-pass
                  (sym (done.clause one ∙ choose_no _ _ past-it) ∙ m_agreed)

          carries_more : Carries L ws start looks (k + 1) (at + first_words here.dims k + second_words) after r
          carries_more =
              let same = ap (λ (s : Spot). s.dims) h.spot in
              let q : at_first p (k + 1) ≡ at_first p (suc k) = ap (at_first p) (add-one k) in
              record {
                low = omega arith;
                place = omega (arith, q, same, c.place, place-more p k);
                length = done.length ∙ c.length;
                holds = record { sums = sums_more; issued = issued_more };
                within = within_more;
                steps = below_more (λ j. step_in L ws j ≡ true) k c.steps ok;
                clause = clause_more;
                received = received_more;
              }

    -- ---- both passes, by the words and the steps that the loop hands over

    module _ (us vs : List ℕ) (e : us ≡ fs) (f : vs ≡ ss) (tries : Past) (g : tries ≡ past_of here looks) where
      pub lent : Steps L us vs sums here tries k
      lent = rw (e, f, g) handed

      module _ (after : List ℕ) (r : Walked) (st : Stepped L us vs here tries k w sums after r) where
        done : Stepped L fs ss spot past k w sums after r
        done = rw h.spot at (rw (e, f, g) at st)

        pub step_stops : r.ok ≡ false → WalkedAll L ws looks start after r
        step_stops bad = go done.middle.ok refl
          where
            go : (t : Bool) → done.middle.ok ≡ t → WalkedAll L ws looks start after r
            go true q = second_stops after done.middle done.first q r (done.second q) bad
            go false q = first_stops after done.middle done.first q r bad

        pub step_more : r.ok ≡ true
            → Carries L ws start looks (k + 1) (at + first_words here.dims k + second_words) after r
        step_more good = go done.middle.ok refl
          where
            go : (t : Bool) → done.middle.ok ≡ t
                → Carries L ws start looks (k + 1) (at + first_words here.dims k + second_words) after r
            go true q = carries_more after done.middle done.first q r (done.second q) good
            go false q = not_both good (done.stops q)

  pub ended : p ≤ k → w.ok ≡ true → WalkedAll L ws looks start sums w
  ended l e =
      let z : k ≡ p = omega (arith, c.low) in
      let at_end : n.dim < p → looks ≡ true → is_seen n looks k ≡ true =
      λ d s. both_make s (lt-ltb n.dim k (omega arith)) in
      record {
        ok = e ∙ sym (every_make 0 p (step_in L ws) (λ j a b. c.steps j (omega arith)));
        length = c.length;
        issued = λ q.
            c.holds.issued ∙ walked_issued n k ∙ ap (own_issued n) (capped (confirm_reach n) (confirm_reach_low n h.position));
        sums = λ q f g.
            let u = capped (reach n) (reach_low n h.position) in
            c.holds.sums f (rw (sym u) at g) ∙ walked_sums n k f ∙ ap (λ j. own n j f) u;
        clause = λ q s d. c.clause ∙ choose_yes _ _ (at_end d s);
        received = λ q s d. c.received (at_end d s);
      }
    where
      capped : (r : ℕ) → r ≤ p → min k r ≡ r
      capped r b = omega (arith, c.low)
