-- What the tests of the lengths say, and what is answered where the tallies pass and where they do not.
use mathlib.Core.Path.{◌≡◌, refl, sym, ap, ◌∙◌}
use mathlib.Core.Bool.{Bool, true, false}
use mathlib.Core.List.{List}
use Prim.Native.Nat.{ℕ, ◌+◌, ◌*◌, ◌≤◌}
use lib.Dec.{leb}
use lib.ListN.{length}
use borrow.Author.Tests.{leb-true, le-leb}
use Rattle.base.specs.Choice.{choose, both}
use Rattle.base.specs.Limits.{Limits, taken_limit, width}
use Rattle.base.proofs.Laws.{clash, choose_yes, choose_no, cases, both_true, both_make}
use Rattle.layout.specs.Places.{head_words, sum_words}
use Rattle.gather.specs.Gather.{has_room, sent_total, taken_total, tallied, the_tallies, no_tallies, tallies_of}
use Rattle.gather.specs.declared.Tallies.{Tallies}

-- ---- the words of the tallies

pub record Room (p words room : ℕ) : Type 0 where
  pub few : p ≤ width
  pub long : head_words + 2 * p ≤ words
  pub wide : sum_words p ≤ room

pub room_known : (p words room : ℕ) → has_room p words room ≡ true → Room p words room
room_known p words room e =
    let a = both_true (leb p width) _ e in
    let b = both_true (leb (head_words + 2 * p) words) (leb (sum_words p) room) a.1 in
    record { few = leb-true p width a.0; long = leb-true _ words b.0; wide = leb-true _ room b.1 }

pub room_made : (p words room : ℕ) → Room p words room → has_room p words room ≡ true
room_made p words room r =
    both_make (le-leb _ _ r.few) (both_make (le-leb _ _ r.long) (le-leb _ _ r.wide))

-- ---- the tallies

pub record Tallied (L : Limits) (p : ℕ) (ws : List ℕ) (lent : ℕ) : Type 0 where
  pub room : Room p (length ws) lent
  pub sends : sent_total p ws ≤ L.sends
  pub takes : taken_total p ws ≤ taken_limit L

module _ (L : Limits) (p : ℕ) (ws : List ℕ) (room : ℕ) where
  abbrev test : Bool
  test = tallied L p ws room

  pub tallied_known : test ≡ true → Tallied L p ws room
  unfolding tallied
  tallied_known e =
      let a = both_true (has_room p (length ws) room) _ e in
      let b = both_true (leb (sent_total p ws) L.sends) (leb (taken_total p ws) (taken_limit L)) a.1 in
      record {
        room = room_known p (length ws) room a.0;
        sends = leb-true _ _ b.0;
        takes = leb-true _ _ b.1;
      }

  pub tallied_made : Tallied L p ws room → test ≡ true
  unfolding tallied
  tallied_made t =
      both_make (room_made p (length ws) room t.room) (both_make (le-leb _ _ t.sends) (le-leb _ _ t.takes))

  -- a test that can't hold
  pub not_tallied : (Tallied L p ws room → ⊥) → test ≡ false
  not_tallied f = go test refl
    where
      go : (t : Bool) → test ≡ t → test ≡ false
      go true e = absurd (f (tallied_known e))
      go false e = e

  pub none_told : test ≡ false → no_tallies ≡ tallies_of L p ws room
  unfolding tallies_of
  none_told e = sym (choose_no _ _ e)

  -- where there is room the totals decide
  pub told : has_room p (length ws) room ≡ true
      → choose (both (leb (sent_total p ws) L.sends) (leb (taken_total p ws) (taken_limit L))) (the_tallies p ws) no_tallies
      ≡ tallies_of L p ws room
  unfolding tallies_of tallied
  told e = rw e

-- ---- what an answer says

module _ (L : Limits) (p : ℕ) (ws : List ℕ) (room : ℕ) (r : Tallies) (e : r ≡ tallies_of L p ws room) where
  pub ok_is : r.ok ≡ tallied L p ws room
  unfolding tallies_of
  ok_is =
      ap (λ (t : Tallies). t.ok) e
      ∙ cases (λ (t : Tallies). t.ok ≡ tallied L p ws room) (tallied L p ws room) _ _ (λ q. sym q) (λ q. sym q)

  pub missing : r.ok ≡ false → Tallied L p ws room → ⊥
  missing q t = clash (sym (tallied_made L p ws room t) ∙ sym ok_is ∙ q)

  pub passes : r.ok ≡ true → tallied L p ws room ≡ true
  passes q = sym ok_is ∙ q

  pub totals_known : r.ok ≡ true → (r.sends.0 ≡ sent_total p ws) × (r.takes.0 ≡ taken_total p ws)
  unfolding tallies_of
  totals_known q =
      let z = e ∙ choose_yes _ _ (passes q) in
      (ap (λ (t : Tallies). t.sends.0) z, ap (λ (t : Tallies). t.takes.0) z)
