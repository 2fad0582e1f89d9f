-- Laws of a fresh node in lent words: what is answered and left where the call refuses, where the words are too few, and
-- where the state is put.
use mathlib.Core.Path.{◌≡◌, sym, ap, ◌∙◌}
use mathlib.Core.Bool.{Bool}
use mathlib.Core.List.{List, [], ◌∷◌, ◌++◌, append_assoc}
use Prim.Native.Nat.{ℕ, ◌-◌, ◌≤◌, ◌<◌}
use lib.Dec.{leb}
use lib.ListN.{length, drop}
use borrow.Author.Tests.{le-leb, lt-leb}
use Rattle.base.specs.Choice.{choose, list}
use Rattle.base.specs.Limits.{Limits, width}
use Rattle.base.proofs.Laws.{choose_yes}
use Rattle.tree.specs.Tree.{dimension}
use Rattle.node.specs.Change.{fresh_in, no_node}
use Rattle.node.specs.Answers.{give, Outcome, done, refused}
use Rattle.node.specs.Calls.{refusal, fresh}
use Rattle.node.specs.declared.Node.{Node}
use Rattle.layout.specs.Places.{state_words, head_words}
use Rattle.layout.proofs.Repack.{fresh_packed}
use Rattle.node_fresh.specs.Fresh.{with_room, put_state, fresh_on, fresh_words}

module _ (L : Limits) (P a : ℕ) (ws : List ℕ) where
  abbrev enough : Bool
  enough = leb (state_words (dimension P)) (length ws)

  -- what is answered, by what the call answers, and what is left
  answered : (n : Node) (o : Outcome) → fresh L P a ≡ give n o → fresh_on L P a ws ≡ with_room enough o
  unfolding fresh_on
  answered n o e = rw e

  left : (n : Node) (o q : Outcome) → fresh L P a ≡ give n o → fresh_on L P a ws ≡ q
      → fresh_words L P a ws ≡ put_state (dimension P) n ws q
  unfolding fresh_words
  left n o q e f = rw (e, f)

  pub fresh_stops : {x : ℕ} → fresh L P a ≡ refusal no_node x
      → (refused x ≡ fresh_on L P a ws) × (ws ≡ fresh_words L P a ws)
  fresh_stops {x} e =
      let o = answered no_node (refused x) e in (sym o, sym (left no_node (refused x) (refused x) e o))

  module _ (e : fresh L P a ≡ give (fresh_in P a 0) done) where
    pub fresh_short : length ws < state_words (dimension P) → (refused 13 ≡ fresh_on L P a ws) × (ws ≡ fresh_words L P a ws)
    fresh_short h =
        let o = answered (fresh_in P a 0) done e ∙ ap (λ t. with_room t done) (lt-leb _ _ h) in
        (sym o, sym (left (fresh_in P a 0) done (refused 13) e o))

    pub fresh_put : (p : ℕ) → p ≡ dimension P → state_words p ≤ length ws → p ≤ width
        → (done ≡ fresh_on L P a ws)
        × (choose (leb (state_words p) (length ws))
        ((P ∷ a ∷ 0 ∷ 1 ∷ 1 ∷ 0 ∷ 1 ∷ 0 ∷ [])
        ++ (list 0 (state_words p - head_words) (λ i. 0) ++ drop (state_words p) ws))
        ws
        ≡ fresh_words L P a ws)
    fresh_put p q h l =
        let b : state_words (dimension P) ≤ length ws = rw q at h in
        let w : dimension P ≤ width = rw q at l in
        let o = answered (fresh_in P a 0) done e ∙ ap (λ t. with_room t done) (le-leb _ _ b) in
        let head : List ℕ = P ∷ a ∷ 0 ∷ 1 ∷ 1 ∷ 0 ∷ 1 ∷ 0 ∷ [] in
        let r : List ℕ = drop (state_words (dimension P)) ws in (
          sym o,
          choose_yes _ _ (le-leb _ _ h)
              ∙ rw q (sym (append_assoc head (list 0 (state_words (dimension P) - head_words) (λ i. 0)) r)
              ∙ ap (λ x. x ++ r) (sym (fresh_packed P a 0 w))
              ∙ sym (left (fresh_in P a 0) done done e o)),
        )
