-- The words that a fresh node is put in hold it.
use mathlib.Core.Path.{◌≡◌, refl, sym, ◌∙◌, subst}
use mathlib.Core.Bool.{true, false}
use mathlib.Core.List.{List, [], ◌∷◌}
use Prim.Native.Nat.{ℕ, ◌≤◌, ◌<◌}
use native.Mathlib.Omega.{arith}
use lib.ListN.{length, drop}
use borrow.Author.Tests.{le-leb}
use Rattle.base.specs.Limits.{Limits, Fits}
use Rattle.base.proofs.Laws.{choose_yes}
use Rattle.tree.specs.Tree.{dimension}
use Rattle.tree.specs.Lookups.{bad_board}
use Rattle.node.specs.Change.{fresh_in}
use Rattle.node.proofs.Ways.{fresh_does}
use Rattle.layout.specs.Places.{state_words}
use Rattle.layout.specs.Held.{unpacked, is_whole}
use Rattle.layout.proofs.Whole.{few}
use Rattle.layout.proofs.Fresh.{freshly, fresh_whole, fresh_held}
use Rattle.node_fresh.specs.Fresh.{fresh_words}
use Rattle.node_fresh.proofs.Starts.{fresh_put}

module _ (L : Limits) (fit : Fits L) (P a : ℕ) (ws : List ℕ) (good : bad_board L P ≡ false) (low : a < P)
    (room : state_words (dimension P) ≤ length ws) where
  words : freshly P a 0 (drop (state_words (dimension P)) ws) ≡ fresh_words L P a ws
  words =
      sym (choose_yes _ _ (le-leb _ _ room))
      ∙ (fresh_put L P a ws (fresh_does L P a good low) (dimension P) refl room (few L fit (P ∷ []) good)).1

  pub fresh_words_lem : (is_whole L (fresh_words L P a ws) ≡ true) × (unpacked (fresh_words L P a ws) ≡ fresh_in P a 0)
  fresh_words_lem =
      subst (λ l. (is_whole L l ≡ true) × (unpacked l ≡ fresh_in P a 0)) words
      (fresh_whole P a 0 _ L good (omega arith), fresh_held P a 0 _)
