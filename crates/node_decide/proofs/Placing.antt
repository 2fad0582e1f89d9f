-- The lookup of a node's position names its receivers.
use mathlib.Core.Path.{◌≡◌, sym, ap, ◌∙◌}
use Prim.Native.Nat.{◌<◌}
use native.Mathlib.Decide.{ℕ_discrete}
use native.Mathlib.Omega.{arith}
use borrow.Author.Tests.{le-leb, lt-leb}
use Rattle.base.specs.Limits.{Limits}
use Rattle.base.specs.Refusal.{Answered, refused, found}
use Rattle.tree.specs.Tree.{Place, place, receivers}
use Rattle.tree.specs.Lookups.{place_lookup}
use Rattle.tree.proofs.Lookups.{place_found}
use Rattle.node.specs.Sums.{dims}
use Rattle.node.specs.Barrier.{receivers_due}
use Rattle.node.specs.declared.Node.{Node}
use Rattle.node.proofs.Bound.{one_receivers}
use Rattle.node.proofs.Valid.{Valid}
use Rattle.due.specs.Due.{to_whom}

module _ (L : Limits) (n : Node) (h : Valid L n) where
  abbrev looked : Answered Place
  looked = place_lookup L n.nodes n.dim n.number

  module _ (d : n.dim < dims n) where
    there : looked ≡ found (place n.nodes n.dim n.number)
    there = place_found L n.nodes n.number n.dim h.board h.number d

  module _ (z : dims n ≡ 0) where
    nowhere : looked ≡ refused 10
    unfolding place_lookup
    nowhere = rw (h.board, lt-leb n.nodes _ h.number, le-leb (dims n) n.dim (omega arith))

  pub looked_whom : to_whom looked ≡ receivers_due n
  unfolding receivers
  looked_whom = go (ℕ_discrete (dims n) 0)
    where
      go : Dec (dims n ≡ 0) → to_whom looked ≡ receivers_due n
      go (yes z) = ap to_whom (nowhere z) ∙ sym (one_receivers n.nodes n.dim n.number z)
      go (no z) = ap to_whom (there (h.dim (omega arith)))
