-- Whether the clauses hold, once the numbers of a frame are added: clause 3 by the runs, then clause 4.
use mathlib.Core.Path.{◌≡◌, refl, sym, ◌∙◌}
use mathlib.Core.Bool.{Bool, true, false}
use mathlib.Core.List.{List}
use Prim.Native.Nat.{ℕ, ◌+◌}
use native.Mathlib.Numerals.{add-one}
use lib.Dec.{eqb}
use lib.ListN.{length}
use borrow.Author.Tests.{eq-eqb, eqb-true}
use Rattle.base.specs.Choice.{choose}
use Rattle.base.proofs.Laws.{clash, cases, choose_yes}
use Rattle.base.specs.Limits.{Limits, field_limit}
use Rattle.node.specs.Sums.{Field, all_sent, all_taken}
use Rattle.node.specs.Agree.{first_clauses, all_hold}
use Rattle.node.specs.declared.Stored.{Stored}
use Rattle.node.proofs.Clauses.{FirstAgrees, first_known, first_good}
use Rattle.layout.specs.Places.{sum_issued, sum_received}
use Rattle.layout.specs.Held.{word, sum_of}
use Rattle.adding.specs.Adding.{Within, Added}
use Rattle.pass_one.specs.Pieces.{Opened, Agreed}

-- a test that can't hold
fails : (t : Bool) → (t ≡ true → ⊥) → false ≡ t
fails true f = absurd (f refl)
fails false f = refl

module _ (L : Limits) (p k : ℕ) (x : Stored) (before : List ℕ) where
  abbrev own : Field → ℕ
  own = sum_of p before

  -- a clause fails
  pub apart : (FirstAgrees L p k own x → ⊥) → (after : List ℕ) → length after ≡ length before
      → Agreed L p k x before after false
  apart none after l =
      record {
        ok = fails (all_hold (first_clauses L p k own x)) (λ e. none (first_known L p k own x e));
        sums = λ q. clash (sym q);
        length = l;
      }

  module _ (limit : ℕ) (e : limit ≡ field_limit L) where
    pub over : (Within limit p k x before → ⊥) → (after : List ℕ) → length after ≡ length before
        → Agreed L p k x before after false
    over none = apart (λ a. none (λ f g. rw e (a.within f g)))

    module _ (o : Opened k own x) (w : Within limit p k x before) (after : List ℕ) (add : Added p k x before after)
        (l : length after ≡ length before) where
      -- the totals with the frame's
      abbrev issued : ℕ
      issued = word after (sum_issued p)

      abbrev received : ℕ
      received = word after (sum_received p)

      -- clause 4
      abbrev tested : Bool
      tested = choose (eqb (k + 1) p) (eqb issued received) true

      holds : tested ≡ true → FirstAgrees L p k own x
      holds q =
          record {
            stored = o.stored;
            sent = o.sent;
            taken = o.taken;
            within = λ f g. rw (sym e) (w f g);
            last = λ z.
                let t : eqb (k + 1) p ≡ true = eq-eqb _ _ (add-one k ∙ z) in
                sym (add all_sent tt) ∙ eqb-true issued received (sym (choose_yes _ true t) ∙ q) ∙ add all_taken tt;
          }

      held : FirstAgrees L p k own x → tested ≡ true
      held a =
          cases (λ t. t ≡ true) (eqb (k + 1) p) _ _
          (λ t. eq-eqb _ _ (add all_sent tt ∙ a.last (sym (add-one k) ∙ eqb-true _ _ t) ∙ sym (add all_taken tt))) (λ t. refl)

      pub ended : Agreed L p k x before after tested
      ended = go tested refl
        where
          go : (t : Bool) → tested ≡ t → Agreed L p k x before after t
          go true q = record { ok = sym (first_good L p k own x (holds q)); sums = λ r. add; length = l }
          go false q = apart (λ a. clash (sym (held a) ∙ q)) after l
