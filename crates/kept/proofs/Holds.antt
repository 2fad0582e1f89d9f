-- Words in which a state was put hold it.
use mathlib.Core.Path.{◌≡◌, refl, sym, ap, ◌∙◌, subst}
use mathlib.Core.Bool.{true}
use mathlib.Core.List.{List}
use Prim.Native.Nat.{ℕ}
use lib.ListN.{length as size}
use Rattle.base.specs.Limits.{Limits, Fits}
use Rattle.node.specs.declared.Node.{Node}
use Rattle.layout.specs.Places.{at_nodes}
use Rattle.layout.specs.Held.{word, unpacked, is_whole, holding}
use Rattle.layout.proofs.Becomes.{Becomes, becomes_words}

pub record Holds (L : Limits) (ws : List ℕ) (n : Node) : Type 0 where
  pub whole : is_whole L (holding ws n) ≡ true
  pub node : unpacked (holding ws n) ≡ n
  pub nodes : n.nodes ≡ (unpacked ws).nodes
  pub length : size (holding ws n) ≡ size ws

board : (ws : List ℕ) → (unpacked ws).nodes ≡ word ws at_nodes
unfolding unpacked
board ws = refl

pub becomes_holds : (L : Limits) → Fits L → {ws after : List ℕ} {n : Node} → Becomes L ws after n → Holds L ws n
becomes_holds L fit {ws} {after} {n} b =
    let e = becomes_words L fit b in
    record {
      whole = subst (λ l. is_whole L l ≡ true) e b.whole;
      node = subst (λ l. unpacked l ≡ n) e b.node;
      nodes = sym (ap (λ (m : Node). m.nodes) b.node) ∙ board after ∙ b.nodes ∙ sym (board ws);
      length = subst (λ l. size l ≡ size ws) e b.length;
    }
