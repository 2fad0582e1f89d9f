-- When a delivery is refused only because it is early.
use mathlib.Core.Path.{◌≡◌, refl, sym, ap, ◌∙◌}
use mathlib.Core.Logic.{◌≢◌, ◌⊎◌, inl, inr}
use mathlib.Core.Bool.{true}
use mathlib.Core.List.{List}
use Prim.Native.Nat.{ℕ, ◌<◌}
use native.Mathlib.Omega.{arith}
use borrow.Author.Tests.{ne_eqb, lt-leb}
use Rattle.base.specs.Limits.{Limits, taken_limit}
use Rattle.base.specs.declared.Kind.{Kind}
use Rattle.frame.specs.Timing.{timing, difference}
use Rattle.frame.specs.declared.Timing.TheVariants.{Now, Early, Late}
use Rattle.frame.specs.declared.Timing.{Timing}
use Rattle.node.specs.Sums.{all_taken, tally}
use Rattle.node.specs.State.{valid}
use Rattle.node.specs.Answers.{Given, Outcome, done, dropped, refused}
use Rattle.node.specs.Calls.{take, frame_in, by_timing}
use Rattle.node.specs.declared.Node.{Node}
use Rattle.node.proofs.Ways.{Comes, away, frame_comes, timing_now, timing_early, timing_late, frame_of as fieldsIn}

seven : (x : ℕ) → refused 7 ≡ refused x → x ≡ 7
seven x e = cc

not_refused : {A : Type 0} (x : ℕ) → done ≡ refused x → A
not_refused x e = let z : ◌≡◌ {A = ℕ} 0 1 = cc in absurd (omega arith)

dropped_not_refused : {A : Type 0} (x : ℕ) → dropped ≡ refused x → A
dropped_not_refused x e = let z : ◌≡◌ {A = ℕ} 0 1 = cc in absurd (omega arith)

pub take_clear : (L : Limits) (n : Node) (kind : Kind) (a byte x : ℕ) → valid L n ≡ true → a < n.nodes → a ≢ n.number
    → (difference byte n.phase ≡ 0) ⊎ (difference byte n.phase ≡ 1)
    → (difference byte n.phase ≡ 0 → tally n all_taken < taken_limit L) → (take L n kind a byte).answer ≡ refused x
    → x ≡ 7
unfolding take
take_clear L n kind a byte x v l ne (inl d) r e =
    not_refused x (sym (rw (
      v,
      lt-leb n.nodes a l,
      ne_eqb a n.number ne,
      timing_now byte n.phase d,
      lt-leb (taken_limit L) (tally n all_taken) (r d),
    ) refl) ∙ e)
take_clear L n kind a byte x v l ne (inr d) r e =
    seven x (sym (rw (v, lt-leb n.nodes a l, ne_eqb a n.number ne, timing_early byte n.phase d) refl) ∙ e)

pub frame_clear : (L : Limits) (n : Node) (bs : List ℕ) → Comes L n bs → (x : ℕ)
    → (away L n bs ≡ 0) ⊎ ((away L n bs ≡ 1) ⊎ (away L n bs ≡ 255)) → (frame_in L n bs).answer ≡ refused x → x ≡ 7
frame_clear L n bs c x df e = by df
  where
    is : (t : Timing) → timing (fieldsIn L n bs).phase n.phase ≡ t
        → (by_timing n (fieldsIn L n bs) t).answer ≡ refused x
    is t q =
        ap (λ t. (by_timing n (fieldsIn L n bs) t).answer) (sym q)
        ∙ ap (λ (g : Given Outcome). g.answer) (sym (frame_comes L n bs c)) ∙ e

    by : (away L n bs ≡ 0) ⊎ ((away L n bs ≡ 1) ⊎ (away L n bs ≡ 255)) → x ≡ 7
    by (inl d) = not_refused x (is Now (timing_now (fieldsIn L n bs).phase n.phase d))
    by (inr (inl d)) = seven x (is Early (timing_early (fieldsIn L n bs).phase n.phase d))
    by (inr (inr d)) = dropped_not_refused x (is Late (timing_late (fieldsIn L n bs).phase n.phase d))
