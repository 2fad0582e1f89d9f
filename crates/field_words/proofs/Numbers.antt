-- The tests of the numbers in words are those of the frame whose fields the words hold.
use mathlib.Core.Path.{◌≡◌, refl, ap}
use mathlib.Core.Bool.{Bool, true, false}
use mathlib.Core.List.{List}
use Prim.Native.Nat.{ℕ, ◌<◌}
use native.Mathlib.Decide.{ℕ_discrete}
use native.Mathlib.Omega.{arith}
use lib.Dec.{leb, eqb}
use lib.ListN.{get_or}
use borrow.Author.Tests.{le-leb, lt-leb, eq-eqb, ne_eqb}
use Rattle.base.specs.Choice.{both, every}
use Rattle.base.specs.Limits.{Limits, field_limit, width}
use Rattle.base.proofs.Laws.{every_same, list_at}
use Rattle.frame.specs.Frame.{sent_number, taken_number, sent_at, taken_at, number_ok, numbers_ok}
use Rattle.frame.specs.Parts.{shell_ok}
use Rattle.frame.specs.declared.Sent.{Sent}
use Rattle.frame.specs.declared.Taken.{Taken}
use Rattle.field_words.specs.Words.{at_sent, at_taken, frame_from}
use Rattle.field_words.specs.Pieces.{most, shell_low, totals_low}

none_low : (x : ℕ) → leb x 0 ≡ eqb x 0
none_low x = go (ℕ_discrete x 0)
  where
    go : Dec (x ≡ 0) → leb x 0 ≡ eqb x 0
    go (yes e) = rw (le-leb x 0 (omega arith), eq-eqb x 0 e)
    go (no e) = rw (lt-leb x 0 (omega arith), ne_eqb x 0 e)

-- the tallies that words hold
module _ (ws : List ℕ) (m : ℕ) (h : m < width) where
  pub sent_held_lem : sent_at (frame_from ws).sent m ≡ get_or ws (at_sent m) 0
  unfolding frame_from
  sent_held_lem =
      ap (λ (x : Sent). x.0) (list_at width (λ i. sent_number (get_or ws (at_sent i) 0)) m (sent_number 0) h)

  pub taken_held_lem : taken_at (frame_from ws).taken m ≡ get_or ws (at_taken m) 0
  unfolding frame_from
  taken_held_lem =
      ap (λ (x : Taken). x.0) (list_at width (λ i. taken_number (get_or ws (at_taken i) 0)) m (taken_number 0) h)

module _ (L : Limits) (p : ℕ) (ws : List ℕ) where
  number_low : (has : Bool) (x : ℕ) → leb x (most has (field_limit L)) ≡ number_ok L has x
  number_low true x = refl
  number_low false x = none_low x

  shell_low_lem : (m : ℕ) → m < width → shell_low (field_limit L) p ws m ≡ shell_ok L p (frame_from ws) m
  unfolding shell_low shell_ok frame_from
  shell_low_lem m h = rw (sent_held_lem ws m h, taken_held_lem ws m h, number_low, number_low)

  pub numbers_held : both (every 0 width (shell_low (field_limit L) p ws)) (totals_low (field_limit L) ws)
      ≡ numbers_ok L p (frame_from ws)
  unfolding numbers_ok shell_ok totals_low frame_from
  numbers_held =
      rw (
        every_same 0 width (shell_low (field_limit L) p ws) (shell_ok L p (frame_from ws)) (λ m a b. shell_low_lem m b),
        number_low,
        number_low,
      )
