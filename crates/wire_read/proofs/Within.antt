-- The test of a frame's numbers in its bytes: each number that the frame has is within the limit.
use mathlib.Core.Path.{◌≡◌, refl, sym, ap, ◌∙◌}
use mathlib.Core.Logic.{◌⊎◌, inl, inr}
use mathlib.Core.Bool.{Bool, true, false}
use mathlib.Core.List.{List}
use Prim.Native.Nat.{ℕ, ◌+◌, ◌-◌, ◌*◌, ◌≤◌, ◌<◌}
use native.Mathlib.Decide.{dec_lt, ℕ_discrete}
use native.Mathlib.Omega.{arith}
use lib.Dec.{leb, eqb}
use lib.ListN.{get_or}
use borrow.Author.Tests.{leb-true, le-leb, eq-eqb, ne_eqb}
use Rattle.base.specs.Choice.{both, every}
use Rattle.base.specs.Limits.{Limits, Fits, field_limit, width}
use Rattle.base.proofs.Laws.{choose_yes, choose_no, cases, both_make, list_at, list_one, every_at, every_make}
use Rattle.tree.specs.Tree.{dimension}
use Rattle.tree.specs.Lookups.{bad_board}
use Rattle.tree.proofs.Dimension.{smallest}
use Rattle.tree.proofs.Lookups.{board_good}
use Rattle.frame.proofs.Writing.{first_length_lem, second_length}
use Rattle.frame.specs.Frame.{bad_step, frame_length, number_at, has_shell, shell_at, number_ok, numbers_ok}
use Rattle.frame.specs.Frame.{sent_number, taken_number, sent_at, taken_at, first_fields, second_fields, fields_of}
use Rattle.frame.specs.declared.Sent.{Sent}
use Rattle.frame.specs.declared.Taken.{Taken}
use Rattle.frame.proofs.Shells.{shell_there, shell_gone}
use Rattle.frame.proofs.RoundTripChecks.{Numbers, numbers_known, numbers_good, number_low, step_known, shell_known}

-- a board has at most `width` shells
pub few : (L : Limits) → Fits L → (P p : ℕ) → bad_board L P ≡ false → p ≡ dimension P → p ≤ width
few L fit P p g e = rw e (smallest P width (let n = fit.nodes in omega (arith, (board_good L P g).1)))

-- tests that hold together are equal
same_test : (s t : Bool) → (s ≡ true → t ≡ true) → (t ≡ true → s ≡ true) → s ≡ t
same_test true t f g = sym (f refl)
same_test false true f g = g refl
same_test false false f g = refl

-- the fields by the pass
module _ (p : ℕ) (bs : List ℕ) where
  pub fields_first : get_or bs 0 0 ≡ 1 → fields_of p bs ≡ first_fields p bs
  unfolding fields_of
  fields_first e = choose_yes _ _ (eq-eqb _ _ e)

  pub fields_second : (get_or bs 0 0 ≡ 1 → ⊥) → fields_of p bs ≡ second_fields bs
  unfolding fields_of
  fields_second e = choose_no _ _ (ne_eqb _ _ e)

module _ (L : Limits) (p : ℕ) (bs : List ℕ) where
  abbrev k : ℕ
  k = get_or bs 2 0

  -- the i-th number is within the limit
  abbrev low : ℕ → Bool
  low i = leb (number_at bs i) (field_limit L)

  sent_is : (m : ℕ) → m < width → sent_at (first_fields p bs).sent m ≡ shell_at p k bs 0 m
  sent_is m h = ap (λ (x : Sent). x.0) (list_at width (λ m. sent_number (shell_at p k bs 0 m)) m (sent_number 0) h)

  taken_is : (m : ℕ) → m < width → taken_at (first_fields p bs).taken m ≡ shell_at p k bs (p - k) m
  taken_is m h = ap (λ (x : Taken). x.0) (list_at width (λ m. taken_number (shell_at p k bs (p - k) m)) m (taken_number 0) h)

  -- a tally is as it may be if its number is low where the frame has it
  shell_ok_lem : (start m : ℕ) → ((i : ℕ) → i < p - k → low (start + i) ≡ true)
      → number_ok L (has_shell p k m) (shell_at p k bs start m) ≡ true
  shell_ok_lem start m h =
      cases (λ t. t ≡ true) (has_shell p k m) _ _
      (λ q.
      let r = shell_known p k m q in
      rw (shell_there p k bs start m r.0 r.1) (h (m - k) (omega arith)))
      (λ q. eq-eqb _ _ (shell_gone p k bs start m q))

  module _ (narrow : p ≤ width) (below : k < p) where
    -- pass 1
    module _ (one : get_or bs 0 0 ≡ 1) where
      abbrev count : ℕ
      count = 2 * (p - k) + 2

      first_low : numbers_ok L p (first_fields p bs) ≡ true → every 0 count low ≡ true
      first_low e =
          every_make 0 count low
          (λ i a b.
          le-leb _ _ (go i (omega arith) (dec_lt i (p - k)) (dec_lt i (2 * (p - k))) (ℕ_discrete i (2 * (p - k)))))
        where
          n : Numbers L p (first_fields p bs)
          n = numbers_known L p (first_fields p bs) e

          has : ℕ → Bool
          has m = both (eqb (get_or bs 0 0) 1) (has_shell p k m)

          is_low_lem : (i x : ℕ) → x ≡ number_at bs i → x ≤ field_limit L → number_at bs i ≤ field_limit L
          is_low_lem i x q h = omega (arith, q)

          tally : (start i m x : ℕ) → start + (m - k) ≡ i → k ≤ m → m < p → x ≡ shell_at p k bs start m
              → number_ok L (has m) x ≡ true
              → number_at bs i ≤ field_limit L
          tally start i m x z a b q h =
              is_low_lem i x (q ∙ shell_there p k bs start m a b ∙ ap (λ j. number_at bs j) z) (number_low L (has m) x h)

          go : (i : ℕ) → i < count → Dec (i < p - k) → Dec (i < 2 * (p - k)) → Dec (i ≡ 2 * (p - k))
              → number_at bs i ≤ field_limit L
          go i b (yes a) d f =
              let m : ℕ = k + i in
              tally 0 i m _ (omega arith) (omega arith) (omega arith) (sent_is m (omega arith)) (n.sent m (omega arith))
          go i b (no a) (yes d) f =
              let m : ℕ = k + (i - (p - k)) in
              tally (p - k) i m _ (omega arith) (omega arith) (omega arith) (taken_is m (omega arith))
              (n.taken m (omega arith))
          go i b (no a) (no d) (yes f) = is_low_lem i _ (ap (λ j. number_at bs j) (sym f)) n.issued
          go i b (no a) (no d) (no f) =
              let z : 2 * (p - k) + 1 ≡ i = omega arith in
              is_low_lem i _ (ap (λ j. number_at bs j) z) (number_low L (eqb (get_or bs 0 0) 1) _ n.received)

      first_good : every 0 count low ≡ true → numbers_ok L p (first_fields p bs) ≡ true
      first_good e =
          numbers_good L p (first_fields p bs)
          (record {
            sent = λ m h. rw (eq-eqb _ _ one, sent_is m h) (shell_ok_lem 0 m (λ i l. at (0 + i) (omega arith)));
            taken = λ m h. rw (eq-eqb _ _ one, taken_is m h) (shell_ok_lem (p - k) m (λ i l. at (p - k + i) (omega arith)));
            issued = leb-true _ _ (at (2 * (p - k)) (omega arith));
            received = rw (eq-eqb _ _ one) (at (2 * (p - k) + 1) (omega arith));
            agreed = rw (ne_eqb (get_or bs 0 0) 2 (λ z. omega arith));
          })
        where
          at : (i : ℕ) → i < count → low i ≡ true
          at i l = every_at 0 count low e i (omega arith) (omega arith)

  -- pass 2
  module _ (two : get_or bs 0 0 ≡ 2) where
    other : eqb (get_or bs 0 0) 1 ≡ false
    other = ne_eqb (get_or bs 0 0) 1 (λ z. omega arith)

    second_low : numbers_ok L p (second_fields bs) ≡ true → every 0 2 low ≡ true
    second_low e =
        let n = numbers_known L p (second_fields bs) e in
        both_make (le-leb _ _ (number_low L (eqb (get_or bs 0 0) 2) _ n.agreed))
        (both_make (le-leb _ _ n.issued) refl)

    second_good : every 0 2 low ≡ true → numbers_ok L p (second_fields bs) ≡ true
    second_good e =
        numbers_good L p (second_fields bs)
        (record {
          sent = λ m h. rw (other, list_one 0 width (sent_number 0) m);
          taken = λ m h. rw (other, list_one 0 width (taken_number 0) m);
          issued = leb-true _ _ (every_at 0 2 low e 1 (omega arith) (omega arith));
          received = rw other;
          agreed = rw (eq-eqb _ _ two) (every_at 0 2 low e 0 (omega arith) (omega arith));
        })

  -- so many numbers, all those of a frame of the pass and dimension that the bytes state
  pub within : (c : ℕ) → p ≤ width → bad_step p (get_or bs 0 0) k ≡ false → 4 + 4 * c ≡ frame_length p (get_or bs 0 0) k
      → numbers_ok L p (fields_of p bs) ≡ every 0 c low
  within c narrow s l = let q = step_known p (get_or bs 0 0) k s in go q.0 q.1
    where
      go : (get_or bs 0 0 ≡ 1) ⊎ (get_or bs 0 0 ≡ 2) → k < p → numbers_ok L p (fields_of p bs) ≡ every 0 c low
      go (inl one) h =
          let z : c ≡ 2 * (p - k) + 2 = omega (arith, first_length_lem p (get_or bs 0 0) k one) in
          rw (fields_first p bs one, z) (same_test _ _ (first_low narrow h one) (first_good narrow h one))
      go (inr two) h =
          let z : c ≡ 2 = omega (arith, second_length p (get_or bs 0 0) k (λ e. omega arith)) in
          rw (fields_second p bs (λ e. omega arith), z) (same_test _ _ (second_low two) (second_good two))
