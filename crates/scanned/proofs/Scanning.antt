-- What the tests of a scan say of the words: where one fails they do not pass, where all hold they do, and the answer is
-- the scan.
use mathlib.Core.Path.{◌≡◌, refl, sym, ap, ◌∙◌}
use mathlib.Core.Bool.{Bool, true, false}
use mathlib.Core.List.{List}
use Prim.Native.Nat.{ℕ, ◌+◌, ◌-◌, ◌≤◌, ◌<◌}
use native.Mathlib.Decide.{dec_lt}
use native.Mathlib.Omega.{arith}
use lib.Dec.{eqb, leb}
use lib.ListN.{length}
use borrow.Author.Tests.{lt-ltb, le-ltb, le-leb, eq-eqb, ltb-true, leb-true}
use Rattle.base.specs.Choice.{choose, both}
use Rattle.base.specs.Limits.{Limits, field_limit, taken_limit, Fits, width}
use Rattle.base.proofs.Laws.{clash, choose_yes, choose_no, both_true, both_make, every_at, every_make}
use Rattle.frame.specs.Frame.{sent_number, taken_number, sent_at, taken_at}
use Rattle.node.specs.Sums.{dims, Field, Has, sent_in, taken_in, all_sent, all_taken, tally, total, own, own_issued}
use Rattle.node.specs.State.{tallies_ok, valid}
use Rattle.node.specs.declared.Node.{Node}
use Rattle.node.proofs.Totals.{total_same}
use Rattle.node.proofs.Valid.{valid_known}
use Rattle.survey.specs.declared.Spot.{Spot}
use Rattle.survey.specs.Pieces.{total_test}
use Rattle.survey.proofs.Valid.{fails, not_both}
use Rattle.survey.proofs.Valid as survey
use Rattle.survey.proofs.Sums.{sends_low_lem, takes_low_lem}
use Rattle.survey.proofs.Tested.{step_at, whole_step, step_past}
use Rattle.survey.proofs.Exits.{bad_total, good_total, found}
use Rattle.layout.specs.Places.{head_words, at_sent, at_taken, at_first, at_second, state_words, sum_received, sum_words}
use Rattle.layout.specs.Held.{word, dims_of, sum_of, unpacked, is_marked, is_whole, is_ready}
use Rattle.layout.proofs.Offsets.{first_above}
use Rattle.layout.proofs.Whole.{whole, whole_made, few}
use Rattle.layout.proofs.Reading.{sent_word, taken_word, first_word, second_word, first_past_lem, second_past_lem}
use Rattle.head.specs.Head.{spot_in}
use Rattle.head.proofs.Heads.{dims_is, Passing}
use Rattle.gather.specs.Gather.{sent_total, taken_total, Started}
use Rattle.gather.proofs.Room.{Tallied}
use Rattle.scanned.specs.Scan.{passes, no_scan, Gathered}
use Rattle.scan_tests.specs.Tests.{total_tested}
use Rattle.scanned.specs.Pieces.{step_in, Walking, WalkedAll, ScannedOn}
use Rattle.scanned.specs.declared.Scan.{Scan}
use Rattle.scanned.specs.declared.Walked.{Walked}

pub missed : (L : Limits) (looks : Bool) (ws before after : List ℕ) (r : Scan) → passes L (length before) ws ≡ false
    → r ≡ no_scan → length after ≡ length before → ScannedOn L looks ws before after r
missed L looks ws before after r e a b =
    let bad : r.ok ≡ false = ap (λ (s : Scan). s.ok) a in (
      record {
        ok = bad ∙ sym e;
        none = λ q. a;
        sends = λ q. not_both q bad;
        takes = λ q. not_both q bad;
        issued = λ q. not_both q bad;
        clause = λ q. not_both q bad;
        received = λ q. not_both q bad;
        dims = λ q. not_both q bad;
      },
      ((λ q. not_both q e), b),
    )

module _ (L : Limits) (room : ℕ) (ws : List ℕ) where
  not_passing : (is_whole L ws ≡ true → valid L (unpacked ws) ≡ true → sum_words (dims_of ws) ≤ room → ⊥)
      → passes L room ws ≡ false
  not_passing f =
      fails _
      (λ e.
      let q = both_true (is_ready L room ws) (valid L (unpacked ws)) e in
      let r = both_true (is_whole L ws) (leb (sum_words (dims_of ws)) room) q.0 in
      f r.0 q.1 (leb-true _ _ r.1))

  pub head_fails : (Passing L ws → ⊥) → passes L room ws ≡ false
  head_fails f =
      not_passing
      (λ w v s.
      let q = whole L ws w in
      let n = survey.whole L (unpacked ws) v in
      f
      (record {
        good = q.board;
        long = q.long;
        phase = q.phase;
        busy = q.busy;
        flag = q.flag;
        board = n.board;
        position = n.position;
        work = n.busy;
        agreed = (valid_known L (unpacked ws) v).agreed;
      }))

-- ---- once the head passes

module _ (L : Limits) (fit : Fits L) (room : ℕ) (ws : List ℕ) (head : Passing L ws) (here : Spot)
    (spot : here ≡ spot_in L ws) where
  abbrev n : Node
  n = unpacked ws

  abbrev p : ℕ
  p = here.dims

  pub equal : p ≡ dims n
  equal = ap (λ (s : Spot). s.dims) spot

  same : p ≡ dims_of ws
  same = equal ∙ dims_is ws

  pub few_dims : p ≤ width
  few_dims = omega (arith, same, few L fit ws head.good)

  sent_at_lem : (m : ℕ) → m < p → sent_at n.sent m ≡ word ws (at_sent m)
  sent_at_lem m l =
      sent_word ws m (omega (arith, few_dims)) ∙ choose_yes _ _ (lt-ltb m (dims_of ws) (omega (arith, same)))

  taken_at_lem : (m : ℕ) → m < p → taken_at n.taken m ≡ word ws (at_taken p m)
  taken_at_lem m l =
      taken_word ws m (omega (arith, few_dims))
      ∙ choose_yes _ _ (lt-ltb m (dims_of ws) (omega (arith, same)))
      ∙ ap (λ q. word ws (at_taken q m)) (sym same)

  sends_are : sent_total p ws ≡ tally n all_sent
  sends_are =
      total_same (λ m. word ws (at_sent m)) (sent_at n.sent) p (λ m l. sym (sent_at_lem m l))
      ∙ ap (total (sent_at n.sent)) equal

  takes_are : taken_total p ws ≡ tally n all_taken
  takes_are =
      total_same (λ m. word ws (at_taken p m)) (taken_at n.taken) p (λ m l. sym (taken_at_lem m l))
      ∙ ap (total (taken_at n.taken)) equal

  pub tallies_fail : (Tallied L p ws room → ⊥) → passes L room ws ≡ false
  tallies_fail f =
      not_passing L room ws
      (λ w v s.
      let ok = (survey.whole L n v).tallies in
      f
      (record {
        room =
            record {
              few = few_dims;
              long = omega (arith, ap state_words same, head.long, first_above p p);
              wide = omega (arith, same, s);
            };
        sends = omega (arith, sends_are, sends_low_lem L n ok);
        takes = omega (arith, takes_are, takes_low_lem L n ok);
      }))

  -- ---- once the tallies pass

  module _ (t : Tallied L p ws room) where
    -- a shell that the board does not have
    no_shell : (m : ℕ) → dims n ≤ m → m < width → (tally n (sent_in m) ≡ 0) × (tally n (taken_in m) ≡ 0)
    no_shell m a c =
        let e = le-ltb m (dims_of ws) (omega (arith, dims_is ws)) in
        (sent_word ws m c ∙ choose_no _ _ e, taken_word ws m c ∙ choose_no _ _ e)

    tallies : tallies_ok L n ≡ true
    unfolding tallies_ok
    tallies =
        both_make
        (both_make (le-leb (tally n all_sent) L.sends (omega (arith, t.sends, sends_are)))
        (le-leb (tally n all_taken) (taken_limit L) (omega (arith, t.takes, takes_are))))
        (every_make (dims n) (width - dims n) (λ m. both (eqb (tally n (sent_in m)) 0) (eqb (tally n (taken_in m)) 0))
        (λ m a c.
        let z = no_shell m a (omega arith) in
        both_make (eq-eqb (tally n (sent_in m)) 0 z.0) (eq-eqb (tally n (taken_in m)) 0 z.1)))

    gathered : (after : List ℕ) → Started p ws after → Gathered n 0 after
    unfolding own
    gathered after s f h = rw (sym equal) (go f (rw (sym equal) at h))
      where
        go : (f : Field) → Has p 0 f → sum_of p after f ≡ own n 0 f
        go (sent_in m) h = s.tallies m (omega arith) ∙ sym (sent_at_lem m h.1)
        go (taken_in m) h =
            let e : head_words + (p + m) ≡ at_taken p m = omega arith in
            s.tallies (p + m) (omega arith) ∙ ap (word ws) e ∙ sym (taken_at_lem m h.1)
        go all_sent h = s.issued ∙ sends_are
        go all_taken h = s.received ∙ takes_are

    pub walking : (after : List ℕ) → length after ≡ room → Started p ws after → (x : ℕ) → x ≡ sent_total p ws
        → Walking L ws after here x
    unfolding own_issued
    walking after len s x e =
        record {
          board = head.board;
          position = head.position;
          tallies = tallies;
          agreed = head.agreed;
          spot = spot;
          long = omega (arith, ap state_words (dims_is ws), head.long);
          room = omega (arith, equal, t.room.wide, len);
          sums = gathered after s;
          sends = e ∙ sends_are;
        }

    -- ---- the steps

    marked : (k : ℕ) → k < dims n → is_whole L ws ≡ true → is_marked ws (dims n) k ≡ true
    marked k l w =
        let q = whole L ws w in
        rw (dims_is ws)
        (both_make (lt-ltb _ _ (q.first k (omega (arith, dims_is ws))))
        (lt-ltb _ _ (q.second k (omega (arith, dims_is ws)))))

    step_fails : (looks : Bool) (start after : List ℕ) (r : Walked) → WalkedAll L ws looks start after r → r.ok ≡ false
        → passes L room ws ≡ false
    unfolding step_in
    step_fails looks start after r w e =
        not_passing L room ws
        (λ u v s.
        not_both
        (every_make 0 (dims n) (step_in L ws)
        (λ k a c.
        both_make (marked k (omega arith) u)
        (whole_step L n head.board k (omega (arith, equal, few_dims)) (survey.whole L n v))))
        (sym w.ok ∙ e))

    module _ (looks : Bool) (start after : List ℕ) (r : Walked) (w : WalkedAll L ws looks start after r) (ok : r.ok ≡ true) where
      steps : (k : ℕ) → k < dims n → (is_marked ws (dims n) k ≡ true) × (step_at L n k ≡ true)
      unfolding step_in
      steps k l =
          both_true (is_marked ws (dims n) k) (step_at L n k)
          (every_at 0 (dims n) (step_in L ws) (sym w.ok ∙ ok) k (omega arith) (omega arith))

      all_steps : (k : ℕ) → k < width → step_at L n k ≡ true
      all_steps k l = go (dec_lt k (dims n))
        where
          go : Dec (k < dims n) → step_at L n k ≡ true
          go (yes c) = (steps k c).1
          go (no c) =
              step_past L n k (omega arith)
              (first_word ws k l ∙ first_past_lem ws (dims_of ws) k (omega (arith, dims_is ws)))
              (second_word ws k l ∙ second_past_lem ws (dims_of ws) k (omega (arith, dims_is ws)))

      -- ---- T

      abbrev test : Bool
      test = total_tested here.pass here.agreed (word after (sum_received p))

      total_is : both (leb n.agreed (field_limit L)) test ≡ total_test L n.pass n.agreed (own n (dims n) all_taken)
      total_is =
          (λ i.
          both (leb n.agreed (field_limit L))
          (total_tested (spot i).pass (spot i).agreed (word after (sum_received (spot i).dims))))
          ∙ ap (λ x. both (leb n.agreed (field_limit L)) (total_tested n.pass n.agreed x)) (w.sums ok all_taken tt)
          ∙ go (eqb n.pass 1)
        where
          go : (u : Bool)
              → both (leb n.agreed (field_limit L))
              (eqb n.agreed (choose u 0 (own n (choose u n.dim (dims n)) all_taken)))
              ≡ both (leb n.agreed (field_limit L)) (eqb n.agreed (choose u 0 (own n (dims n) all_taken)))
          go true = refl
          go false = refl

      low_total : leb n.agreed (field_limit L) ≡ true
      low_total = le-leb _ _ head.agreed

      total_fails : test ≡ false → passes L room ws ≡ false
      total_fails f =
          not_passing L room ws
          (λ u v s.
          not_both v
          (bad_total L n (own n (dims n) all_taken) refl
          (sym total_is ∙ (λ i. both (low_total i) (f i)))))

      module _ (f : test ≡ true) where
        valid_state : valid L n ≡ true
        valid_state =
            found L fit n head.board all_steps head.position tallies
            (good_total L n (own n (dims n) all_taken) refl (sym total_is ∙ both_make low_total f)) head.work

        whole_words : is_whole L ws ≡ true
        whole_words =
            whole_made L ws
            (record {
              board = head.good;
              long = head.long;
              phase = head.phase;
              busy = head.busy;
              flag = head.flag;
              first = λ k l. ltb-true _ _ (marks k l).0;
              second = λ k l. ltb-true _ _ (marks k l).1;
            })
          where
            marks : (k : ℕ) → k < dims_of ws
                → (lib.Dec.ltb (word ws (at_first (dims_of ws) k)) 2 ≡ true)
                × (lib.Dec.ltb (word ws (at_second (dims_of ws) k)) 2 ≡ true)
            marks k l = both_true _ _ (rw (dims_is ws) at (steps k (omega (arith, dims_is ws))).0)

        passing : passes L room ws ≡ true
        passing =
            both_make
            (both_make whole_words (le-leb (sum_words (dims_of ws)) room (omega (arith, same, t.room.wide)))) valid_state

        pub scanned_all : (before : List ℕ) → length before ≡ room → length after ≡ length before → (x y : ℕ)
            → x ≡ sent_total p ws → y ≡ taken_total p ws
            → ScannedOn L looks ws before after
            (record {
              ok = true;
              dims = p;
              sends = sent_number x;
              takes = taken_number y;
              issued = r.issued;
              clause = r.clause;
              received = r.received;
            })
        scanned_all before q len x y a b = (
          record {
            ok = sym (ap (λ m. passes L m ws) q ∙ passing);
            none = λ e. clash e;
            sends = λ e. a ∙ sends_are;
            takes = λ e. b ∙ takes_are;
            issued = λ e. w.issued ok;
            clause = λ e. w.clause ok;
            received = λ e. w.received ok;
            dims = λ e. equal;
          },
          ((λ u. w.sums ok), len),
        )

    -- a step fails, or T does
    pub settled_not : (looks : Bool) (start after : List ℕ) (r : Walked) → WalkedAll L ws looks start after r
        → both r.ok (total_tested here.pass here.agreed (word after (sum_received p))) ≡ false
        → passes L room ws ≡ false
    settled_not looks start after r w e = go r.ok refl
      where
        go : (t : Bool) → r.ok ≡ t → passes L room ws ≡ false
        go true q = total_fails looks start after r w q (rw q at e)
        go false q = step_fails looks start after r w q
