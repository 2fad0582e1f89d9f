-- What it means that a head passes, and what is answered where it does and where it does not.
use mathlib.Core.Path.{◌≡◌, refl, sym, ap, ◌∙◌}
use mathlib.Core.Bool.{Bool, true, false, not}
use mathlib.Core.List.{List}
use Prim.Native.Nat.{ℕ, ◌≤◌, ◌<◌}
use native.Mathlib.Omega.{arith}
use lib.Dec.{eqb, ltb, leb}
use lib.ListN.{length}
use borrow.Author.Tests.{lt-ltb, le-leb, ltb-true, leb-true, eqb-true, not-true}
use Rattle.base.specs.Choice.{choose, both, either}
use Rattle.base.specs.Limits.{Limits, field_limit}
use Rattle.base.proofs.Laws.{clash, choose_yes, choose_no, cases, both_true, both_make}
use Rattle.tree.specs.Lookups.{bad_board}
use Rattle.node.specs.Sums.{dims}
use Rattle.node.specs.State.{board_ok, position_ok, busy_ok}
use Rattle.node.specs.declared.Node.{Node}
use Rattle.survey.specs.declared.Spot.{Spot}
use Rattle.survey.specs.Pieces.{head_test}
use Rattle.survey.specs.Spots.{spot_at}
use Rattle.layout.specs.Places.{at_number, at_pass, at_dim, at_agreed}
use Rattle.layout.specs.Places.{at_nodes, at_phase, at_busy, at_flag, state_words, head_words}
use Rattle.layout.specs.Held.{word, dims_of, unpacked}
use Rattle.layout.proofs.Offsets.{first_above}
use Rattle.head.specs.Head.{spot_in, head_passes, no_head, headed}
use Rattle.head.specs.Pieces.{head_tested, Boarded}
use Rattle.head.specs.declared.Head.{Head}

-- ---- the fields that are words

module _ (ws : List ℕ) where
  pub dims_is : dims (unpacked ws) ≡ dims_of ws
  unfolding unpacked
  dims_is = refl

  pub pass_is : (unpacked ws).pass ≡ word ws at_pass
  unfolding unpacked
  pass_is = refl

  pub agreed_is : (unpacked ws).agreed ≡ word ws at_agreed
  unfolding unpacked
  agreed_is = refl

  nodes_is : (unpacked ws).nodes ≡ word ws at_nodes
  unfolding unpacked
  nodes_is = refl

  spot_is : (L : Limits) (p : ℕ) → p ≡ dims_of ws
      → spot_at L p (word ws at_nodes) (word ws at_number) (word ws at_pass) (word ws at_dim) (word ws at_agreed) ≡ spot_in L ws
  unfolding unpacked
  spot_is L p e = ap (λ d. spot_at L d (word ws at_nodes) (word ws at_number) (word ws at_pass) (word ws at_dim) (word ws at_agreed)) e

-- ---- the head's test

pub record Passing (L : Limits) (ws : List ℕ) : Type 0 where
  pub good : bad_board L (word ws at_nodes) ≡ false
  pub long : state_words (dims_of ws) ≤ length ws
  pub phase : word ws at_phase < 256
  pub busy : word ws at_busy < 2
  pub flag : word ws at_flag < 2
  pub board : board_ok L (unpacked ws) ≡ true
  pub position : position_ok (unpacked ws) ≡ true
  pub work : busy_ok (unpacked ws) ≡ true
  pub agreed : (unpacked ws).agreed ≤ field_limit L

module _ (L : Limits) (ws : List ℕ) where
  pub head_known : head_passes L ws ≡ true → Passing L ws
  unfolding head_passes
  head_known e =
      let a = both_true _ _ e in
      let b = both_true _ _ a.1 in
      let c = both_true _ _ b.1 in
      let d = both_true _ _ c.1 in
      let f = both_true _ _ d.1 in
      let g = both_true _ _ f.1 in
      let h = both_true _ _ g.1 in
      let i = both_true _ _ h.1 in
      record {
        good = not-true _ a.0;
        long = leb-true _ _ b.0;
        phase = ltb-true _ _ c.0;
        busy = ltb-true _ _ d.0;
        flag = ltb-true _ _ f.0;
        board = g.0;
        position = h.0;
        work = i.0;
        agreed = leb-true _ _ i.1;
      }

  pub head_made : Passing L ws → head_passes L ws ≡ true
  unfolding head_passes
  head_made p =
      both_make (ap not p.good)
      (both_make (le-leb _ _ p.long)
      (both_make (lt-ltb _ _ p.phase)
      (both_make (lt-ltb _ _ p.busy)
      (both_make (lt-ltb _ _ p.flag)
      (both_make p.board (both_make p.position (both_make p.work (le-leb _ _ p.agreed))))))))

  -- where it can't pass, there is none
  pub no_head_lem : (Passing L ws → ⊥) → (r : Head) → r ≡ no_head → r ≡ headed L ws
  unfolding headed
  no_head_lem f r e = e ∙ go (head_passes L ws) refl
    where
      go : (t : Bool) → head_passes L ws ≡ t → no_head ≡ choose (head_passes L ws) (record { ok = true; spot = spot_in L ws }) no_head
      go true q = absurd (f (head_known q))
      go false q = sym (choose_no _ _ q)

  pub short : length ws < head_words → Passing L ws → ⊥
  short l p = omega (arith, p.long, first_above (dims_of ws) (dims_of ws))

-- the pass is 1 or 2
pass_low : (n : Node) → position_ok n ≡ true → n.pass < 3
unfolding position_ok
pass_low n = go (eqb (dims n) 0)
  where
    one : (s t : Bool) → eqb n.pass 1 ≡ s → eqb n.pass 2 ≡ t → either s t ≡ true → n.pass < 3
    one true t a b e = let q = eqb-true n.pass 1 a in omega arith
    one false true a b e = let q = eqb-true n.pass 2 b in omega arith
    one false false a b e = clash (sym e)

    go : (t : Bool)
        → choose t (both (eqb n.pass 1) (eqb n.dim 0))
        (both (either (eqb n.pass 1) (eqb n.pass 2)) (ltb n.dim (dims n)))
        ≡ true
        → n.pass < 3
    go true e = let q = eqb-true n.pass 1 (both_true (eqb n.pass 1) (eqb n.dim 0) e).0 in omega arith
    go false e =
        one (eqb n.pass 1) (eqb n.pass 2) refl refl
        (both_true (either (eqb n.pass 1) (eqb n.pass 2)) (ltb n.dim (dims n)) e).0

-- ---- on words that are enough for their board

module _ (L : Limits) (ws : List ℕ) (p : ℕ) (b : Boarded L ws p) where
  abbrev n : Node
  n = unpacked ws

  abbrev test : Bool
  test = head_test p n.nodes n.number n.pass n.dim n.busy n.flag

  test_is : test ≡ both (board_ok L n) (both (position_ok n) (busy_ok n))
  unfolding board_ok position_ok busy_ok
  test_is = rw (ap (bad_board L) (nodes_is ws) ∙ b.board, b.dims ∙ sym (dims_is ws))

  abbrev whole : Bool
  whole =
      both (ltb (word ws at_phase) 256)
      (both (ltb (word ws at_busy) 2) (both (ltb (word ws at_flag) 2) (both (leb n.agreed (field_limit L)) test)))

  words_are : (limit : ℕ) → limit ≡ field_limit L → head_tested limit p ws ≡ whole
  unfolding head_tested unpacked
  words_are limit e = rw e

  module _ (limit : ℕ) (e : limit ≡ field_limit L) where
    pub head_fails : head_tested limit p ws ≡ false → Passing L ws → ⊥
    head_fails f q =
        clash
        (sym
        (both_make (lt-ltb _ _ q.phase)
        (both_make (lt-ltb _ _ q.busy)
        (both_make (lt-ltb _ _ q.flag)
        (both_make (le-leb _ _ q.agreed)
        (test_is ∙ both_make q.board (both_make q.position q.work))))))
        ∙ sym (words_are limit e)
        ∙ f)

    pub head_passes_lem : head_tested limit p ws ≡ true → Passing L ws
    head_passes_lem f =
        let a = both_true (ltb (word ws at_phase) 256) _ (sym (words_are limit e) ∙ f) in
        let c = both_true (ltb (word ws at_busy) 2) _ a.1 in
        let d = both_true (ltb (word ws at_flag) 2) _ c.1 in
        let g = both_true (leb n.agreed (field_limit L)) test d.1 in
        let h = both_true (board_ok L n) _ (sym test_is ∙ g.1) in
        let i = both_true (position_ok n) (busy_ok n) h.1 in
        record {
          good = b.board;
          long = omega (arith, ap state_words b.dims, b.long);
          phase = ltb-true _ _ a.0;
          busy = ltb-true _ _ c.0;
          flag = ltb-true _ _ d.0;
          board = h.0;
          position = i.0;
          work = i.1;
          agreed = leb-true _ _ g.0;
        }

    module _ (f : head_tested limit p ws ≡ true) where
      pub pass_small : word ws at_pass < 3
      pass_small = omega (arith, pass_is ws, pass_low n (head_passes_lem f).position)

      pub some_head : (s : Spot)
          → s ≡ spot_at L p (word ws at_nodes) (word ws at_number) (word ws at_pass) (word ws at_dim) (word ws at_agreed)
          → record { ok = true; spot = s } ≡ headed L ws
      unfolding headed
      some_head s q =
          (λ i. record { ok = true; spot = (q ∙ spot_is ws L p b.dims) i })
          ∙ sym (choose_yes _ _ (head_made L ws (head_passes_lem f)))

-- ---- what an answer says

module _ (L : Limits) (ws : List ℕ) (r : Head) (e : r ≡ headed L ws) where
  ok_is : r.ok ≡ head_passes L ws
  unfolding headed
  ok_is =
      ap (λ (h : Head). h.ok) e
      ∙ cases (λ (h : Head). h.ok ≡ head_passes L ws) (head_passes L ws) _ _ (λ q. sym q) (λ q. sym q)

  pub missing : r.ok ≡ false → Passing L ws → ⊥
  missing q p = clash (sym (head_made L ws p) ∙ sym ok_is ∙ q)

  module _ (q : r.ok ≡ true) where
    passes : head_passes L ws ≡ true
    passes = sym ok_is ∙ q

    pub passing : Passing L ws
    passing = head_known L ws passes

    pub spot_known : r.spot ≡ spot_in L ws
    unfolding headed
    spot_known = ap (λ (h : Head). h.spot) (e ∙ choose_yes _ _ passes)
