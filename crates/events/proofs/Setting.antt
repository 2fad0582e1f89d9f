-- What is fixed for a board of two nodes or more: limits that a build may have, and P within them.
use mathlib.Core.Path.{◌≡◌, sym}
use mathlib.Core.Logic.{◌≢◌}
use mathlib.Core.Option.{some}
use Prim.Native.Nat.{ℕ, ◌≤◌, ◌<◌}
use native.Mathlib.Omega.{arith}
use Rattle.base.specs.Limits.{Limits, width}
use Rattle.tree.specs.Tree.{dimension, awaited, receivers, distance}
use Rattle.events.specs.Fit.{Fit}
use Rattle.cycle.proofs.Tree.{Tree}
use Rattle.cycle.proofs.Partners.{partners, await_is, hear as hear-of, receivers_await as receivers-await-of}
use Rattle.cycle.proofs.Partners.{Among, shell_ok_lem as shell-of}
use Rattle.cycle.proofs.Lists.{All}
use Rattle.cycle.proofs.OnePhase.{Shell}
use Rattle.tree.proofs.Dimension.{smallest, positive}
use Rattle.tree.proofs.Distances.{distance_below_lem}

pub record Setting (L : Limits) (P : ℕ) : Type 0 where
  pub fit : Fit L
  pub two : 2 ≤ P
  pub few : P ≤ L.nodes

module _ {L : Limits} {P : ℕ} (setting : Setting L P) where
  abbrev pub tree : Tree P (dimension P)
  tree = partners P setting.two

  -- the shells of a board have room
  pub dim_low : dimension P ≤ width
  dim_low = smallest P width (omega (arith, setting.few, setting.fit.room))

  pub dim_pos : 0 < dimension P
  dim_pos = positive P setting.two

  pub awaited_is : (k a : ℕ) → awaited P k a ≡ tree.awaited k a
  awaited_is k a = sym (await_is P setting.two k a)

  pub hear : (k a c : ℕ) → c < P → tree.awaited k c ≡ some a → Among (receivers P k a) c
  hear k a c h e = hear-of P setting.two k a c h e

  pub receivers_await : (k a : ℕ) → a < P → All (λ c. (c < P) × (tree.awaited k c ≡ some a)) (receivers P k a)
  receivers_await k a h = receivers-await-of P setting.two k a h

  pub shell_ok_lem : (a b : ℕ) → a < P → b < P → a ≢ b → Shell tree a b (distance P a b)
  shell_ok_lem a b ha hb ne = shell-of P setting.two a b ha hb ne

  pub shell_lt : (a b : ℕ) → a < P → b < P → a ≢ b → distance P a b < dimension P
  shell_lt a b ha hb ne = distance_below_lem P a b ha ne hb
