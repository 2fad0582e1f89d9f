-- The laws of the tree, as they are promised.
use mathlib.Core.Path.{◌≡◌, ap}
use mathlib.Core.Option.{none, some}
use mathlib.Core.List.{[]}
use Prim.Native.Nat.{ℕ, ◌≤◌, ◌<◌}
use native.Mathlib.Decide.{dec_le}
use native.Mathlib.Omega.{arith}
use Rattle.tree.specs.Tree.{dimension, run_of, alone, hermit, place, awaits, sends_to, awaited, receivers}
use Rattle.tree.proofs.Dimension.{fits, smallest}
use Rattle.tree.proofs.Places.{awaits_receives, receives_awaits, neighbour_place, messenger_place, messenger_hermit}
use Rattle.tree.proofs.Places.{hermit_next_lem}
use Rattle.tree.proofs.Halves.{same_place, alone_lowest}
use Rattle.tree.proofs.Distances.{inside_yes, inside_in, near, nearer, distance_below_lem, distance_symmetric, shell_awaited}
use Rattle.tree.proofs.Distances.{awaited_shell, alone_shell, same_shells_lem}
use Rattle.promises.specs.Promises.{Tree}

hermit_place : (P k a b : ℕ) → place P k a ≡ hermit b → (receivers P k a ≡ []) × (awaited P k a ≡ some b)
unfolding receivers awaited
hermit_place P k a b e = (ap sends_to e, ap awaits e)

alone_awaits : (P k a : ℕ) → place P k a ≡ alone → awaited P k a ≡ none
unfolding awaited
alone_awaits P k a e = ap awaits e

-- a board with a dimension has two nodes or more
two_nodes : (P k : ℕ) → k < dimension P → 2 ≤ P
two_nodes P k l = go (dec_le P 1)
  where
    go : Dec (P ≤ 1) → 2 ≤ P
    go (yes h) = absurd (omega (arith, smallest P 0 h))
    go (no h) = omega arith

pub tree : (P : ℕ) → Tree P
tree P =
    record {
      fits = fits P;
      smallest = smallest P;
      sent = receives_awaits P;
      awaits = awaits_receives P;
      neighbours = λ k a b h. neighbour_place P k a h b;
      hermits = hermit_place P;
      hermit_next = λ k a b h. hermit_next_lem P k a h b;
      messengers = λ k a b h l. messenger_place P k a l b h;
      hermit_before = λ k a b h l. messenger_hermit P k a l b h;
      same_place = λ k a b bs l h. same_place P k a l h b bs;
      alones = λ k a h l e. alone_lowest P k a l h (two_nodes P k l) (alone_awaits P k a e);
      near = λ k a b h i ne l e. near P a b h ne i k l (inside_in (run_of P k a) b e);
      nearer = λ k a b h i ne l d. inside_yes (run_of P k a) b (nearer P a b h ne i k l d);
      below = λ a b h i ne. distance_below_lem P a b h ne i;
      symmetric = distance_symmetric P;
      shells = λ k a w b l h q. (
        (λ s. inside_yes (run_of P k w) b (shell_awaited P k a l h w b q s)),
        (λ i. awaited_shell P k a l h w b q (inside_in (run_of P k w) b i)),
      );
      alone_shells = λ k a b l h e. alone_shell P k a l h b (alone_awaits P k a e);
      same_shells = λ k m a c b h l t i. same_shells_lem P k m a c b h l t (inside_in (run_of P k a) c i);
    }
