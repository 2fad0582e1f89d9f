-- What words become when some of them are written: they hold another state, of the same board, and the words after it
-- stay.
use mathlib.Core.Path.{◌≡◌, refl, sym, ◌∙◌}
use mathlib.Core.Bool.{true}
use mathlib.Core.List.{List}
use Prim.Native.Nat.{ℕ}
use lib.ListN.{length as size}
use Rattle.base.specs.Limits.{Limits, Fits}
use Rattle.node.specs.declared.Node.{Node}
use Rattle.layout.specs.Places.{at_nodes}
use Rattle.layout.specs.Held.{word, unpacked, is_whole, holding, spare as rest}
use Rattle.layout.proofs.Repack.{repacked}

pub record Becomes (L : Limits) (ws after : List ℕ) (n : Node) : Type 0 where
  pub whole : is_whole L after ≡ true
  pub node : unpacked after ≡ n
  pub nodes : word after at_nodes ≡ word ws at_nodes
  pub spare : rest after ≡ rest ws
  pub length : size after ≡ size ws

pub becomes_words : (L : Limits) (fit : Fits L) {ws after : List ℕ} {n : Node} → Becomes L ws after n
    → after ≡ holding ws n
becomes_words L fit {after = after} b = sym (repacked L fit after b.whole) ∙ rw (b.node, b.spare)

pub becomes_same : (L : Limits) (ws : List ℕ) → is_whole L ws ≡ true → Becomes L ws ws (unpacked ws)
becomes_same L ws e = record { whole = e; node = refl; nodes = refl; spare = refl; length = refl }

pub becomes_then : (L : Limits) {ws mid after : List ℕ} {m n : Node} → Becomes L ws mid m → Becomes L mid after n
    → Becomes L ws after n
becomes_then L a b =
    record {
      whole = b.whole;
      node = b.node;
      nodes = b.nodes ∙ a.nodes;
      spare = b.spare ∙ a.spare;
      length = b.length ∙ a.length;
    }
