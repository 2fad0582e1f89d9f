-- Who is named at a place that was looked up is a number of the largest board.
use mathlib.Core.Path.{◌≡◌, refl, subst}
use mathlib.Core.List.Memᴰ
use mathlib.Core.List.{Memᴰ}
use Prim.Native.Nat.{ℕ, ◌<◌}
use native.Mathlib.Omega.{arith}
use Rattle.base.specs.Limits.{Limits, Fits, base}
use Rattle.base.specs.Refusal.{Answered, refused, found}
use Rattle.tree.specs.Tree.{Place, place, sends_to, receivers}
use Rattle.tree.specs.Lookups.{place_lookup}
use Rattle.tree.proofs.Lookups.{board_good, place_known}
use Rattle.tree.proofs.Places.{receives_awaits}
use Rattle.due.specs.Due.{to_whom}

module _ (L : Limits) (fit : Fits L) (P k a b : ℕ) where
  sends : (x : Place) → x ≡ place P k a → Memᴰ b (sends_to x) → Memᴰ b (receivers P k a)
  unfolding receivers
  sends x e i = subst (λ y. Memᴰ b (sends_to y)) e i

  pub receivers_low : Memᴰ b (to_whom (place_lookup L P k a)) → b < base.nodes
  receivers_low m = go (place_lookup L P k a) refl m
    where
      go : (r : Answered Place) → place_lookup L P k a ≡ r → Memᴰ b (to_whom r) → b < base.nodes
      go (refused x) e i = absurd (Memᴰ.not-nil i)
      go (found x) e i =
          let q = place_known L P k a x e in
          let r = receives_awaits P k a b q.1 (sends x q.2 i) in
          omega (arith, board_good L P q.0, r.0, fit.nodes)
