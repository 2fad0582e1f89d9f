-- `whom_of` names those to whom a node at a place sends.
use Rattle.std.proofs.Common.{arith, refl, sym, subst, ◌≡◌, ℕ, ◌<◌}
use mathlib.Core.List.{Memᴰ}
use Rattle.base.specs.Limits.{base}
use Rattle.tree.specs.Tree.{sends_to}
use Rattle.tree.specs.declared.Placed.{Placed}
use Rattle.tree.specs.Lookups.{place_of}
use Rattle.due.proofs.whom_of.Goals as goal

-- who is named at a place that is told apart is a number of the largest board
told : {placed told_apart : Placed} {b : ℕ} → ((b : ℕ) → Memᴰ b (sends_to (place_of placed)) → b < base.nodes)
    → placed ≡ told_apart
    → Memᴰ b (sends_to (place_of told_apart))
    → b < base.nodes
told {b = b} low e m = low b (subst (λ p. Memᴰ b (sends_to (place_of p))) (sym e) m)

pub overflow_cast-result : goal.overflow_cast-result
overflow_cast-result c = omega (arith, told c.requires c.in-Neighbour.is (Memᴰ.head refl))

pub overflow_cast-result-in-Messenger : goal.overflow_cast-result-in-Messenger
overflow_cast-result-in-Messenger c = omega (arith, told c.requires c.in-Messenger.is (Memᴰ.head refl))

pub overflow_cast-result-in-Messenger-2 : goal.overflow_cast-result-in-Messenger-2
overflow_cast-result-in-Messenger-2 c = omega (arith, told c.requires c.in-Messenger.is (Memᴰ.tail (Memᴰ.head refl)))
