-- The turn of a node that looks, by the words, is that of the state that they hold.
use mathlib.Core.Path.{◌≡◌, sym, ap, ◌∙◌, subst}
use mathlib.Core.Bool.{true, false}
use mathlib.Core.List.{List}
use Prim.Native.Nat.{ℕ, suc, ◌%◌, ◌≤◌, ◌<◌}
use native.Mathlib.Decide.{ℕ_discrete}
use native.Mathlib.Omega.{arith}
use lib.Dec.{ltb, leb, eqb}
use lib.ListN.{length}
use borrow.Author.Tests.{eqb-true, ne_eqb, le-leb, lt-ltb, le-ltb}
use Rattle.base.specs.Limits.{Limits, Fits}
use Rattle.base.proofs.Laws.{choose_yes, choose_no, cases, both_make}
use Rattle.node.specs.Sums.{dims, all_taken, own}
use Rattle.node.specs.Agree.{is_alone, no_clause}
use Rattle.node.specs.declared.Node.{Node}
use Rattle.node.proofs.Passes.{last_awaits}
use Rattle.layout.specs.Places.{head_words, at_pass, at_dim, at_agreed}
use Rattle.layout.specs.Held.{word, unpacked}
use Rattle.scanned.specs.Scan.{clause_here}
use Rattle.node_turn.specs.Turn.{onward_turn}
use Rattle.node_turn.specs.declared.Turn.TheVariants.{Waits}
use Rattle.node_look.specs.Looks.{has_step, look_turn}
use Rattle.node_decide.proofs.Turning.{Looks, looks_out, looks_on, looks_wait}
use Rattle.node_decide.proofs.Handed.{Lent, head_room, held, dim_low}

-- what a scan says of the step of the position, if the board has one
pub record Seen (L : Limits) (n : Node) (c t : ℕ) : Type 0 where
  pub clause : n.dim < dims n → c ≡ clause_here L n
  pub received : n.dim < dims n → is_alone n n.dim ≡ false → n.pass ≡ 1 → c ≡ no_clause
      → t ≡ own n (suc n.dim) all_taken

module _ (L : Limits) (fit : Fits L) (ws sums : List ℕ) (p total : ℕ) (h : Lent L ws sums p total)
    (clause received : ℕ) (seen : Seen L (unpacked ws) clause received) where
  abbrev n : Node
  n = unpacked ws

  headed : leb head_words (length ws) ≡ true
  headed = le-leb head_words (length ws) (head_room L ws h.whole)

  -- a board of one node has no position
  nowhere : p ≡ 0 → has_step ws p ≡ false
  nowhere z = let e : ltb (word ws at_dim) p ≡ false = le-ltb (word ws at_dim) p (omega arith) in rw (headed, e)

  module _ (low : n.dim < p) where
    somewhere : has_step ws p ≡ true
    unfolding unpacked
    somewhere = both_make headed (lt-ltb (word ws at_dim) p low)

    in_dims : n.dim < dims n
    in_dims = omega (arith, low, h.dims)

    -- T, since nobody is alone in the last dimension
    total_is : clause ≡ no_clause → n.pass ≡ 1 → dims n ≤ suc n.dim → received ≡ own n (dims n) all_taken
    total_is e one last =
        let z : suc n.dim ≡ dims n = omega (arith, in_dims) in
        let met = last_awaits n.nodes n.dim n.number z (held L fit ws sums p total h).number in
        seen.received in_dims met one e ∙ ap (λ k. own n k all_taken) z

    module _ (some : eqb (dims n) 0 ≡ false) where
      onwards : eqb clause no_clause ≡ true → Looks L n (onward_turn p (word ws at_pass) (word ws at_dim) (word ws at_agreed) received)
      unfolding unpacked
      onwards e =
          subst (λ q. Looks L n (onward_turn q n.pass n.dim n.agreed received)) (sym h.dims)
          (looks_on L n some in_dims received (total_is (eqb-true _ _ e)) (ap (λ c. eqb c no_clause) (sym (seen.clause in_dims)) ∙ e))

      waits : eqb clause no_clause ≡ false → Looks L n (Waits (clause % 256))
      waits e =
          let c = seen.clause in_dims in
          subst (λ c. Looks L n (Waits (c % 256))) (sym c) (looks_wait L n some (ap (λ c. eqb c no_clause) (sym c) ∙ e))

  pub looked : Looks L n (look_turn ws p clause received)
  unfolding look_turn
  looked = go (ℕ_discrete p 0)
    where
      go : Dec (p ≡ 0) → Looks L n (look_turn ws p clause received)
      go (yes z) = subst (Looks L n) (sym (choose_no _ _ (nowhere z))) (looks_out L n (sym h.dims ∙ z))
      go (no z) =
          let low = dim_low L fit ws sums p total h (omega arith) in
          let some = ne_eqb (dims n) 0 (λ e. z (h.dims ∙ e)) in
          subst (Looks L n) (sym (choose_yes _ _ (somewhere low)))
          (cases (Looks L n) (eqb clause no_clause) _ _ (onwards low some) (waits low some))
