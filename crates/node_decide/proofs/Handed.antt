-- What is known of a state that is lent with its sums: its head, and the sums for its position.
use mathlib.Core.Path.{◌≡◌, sym, ap, ◌∙◌}
use mathlib.Core.Bool.{true}
use mathlib.Core.List.{List}
use Prim.Native.Nat.{ℕ, ◌≤◌, ◌<◌}
use native.Mathlib.Omega.{arith}
use lib.ListN.{length}
use borrow.Author.Tests.{eq-eqb, ne_eqb}
use Rattle.base.specs.Limits.{Limits, Fits, base, width}
use Rattle.base.proofs.Laws.{choose_yes, choose_no}
use Rattle.tree.proofs.Lookups.{board_good}
use Rattle.node.specs.Sums.{dims, Field, Has, own, own_issued}
use Rattle.node.specs.State.{valid}
use Rattle.node.specs.declared.Node.{Node}
use Rattle.node.proofs.Valid.{Valid, valid_known}
use Rattle.layout.specs.Places.{head_words, at_number}
use Rattle.layout.specs.Held.{word, dims_of, unpacked, is_whole, sum_of}
use Rattle.layout.proofs.Offsets.{first_above}
use Rattle.layout.proofs.Whole.{Whole, whole, few}
use Rattle.walked.specs.Walk.{reach, confirm_reach}
use Rattle.scanned.specs.Scan.{Gathered}

-- the state that is lent passes the test, and its sums are at hand
pub record Lent (L : Limits) (ws sums : List ℕ) (p total : ℕ) : Type 0 where
  pub whole : is_whole L ws ≡ true
  pub valid : valid L (unpacked ws) ≡ true
  pub dims : p ≡ dims (unpacked ws)
  pub gathered : Gathered (unpacked ws) (reach (unpacked ws)) sums
  pub issued : total ≡ own_issued (unpacked ws) (confirm_reach (unpacked ws))

-- a state has a head
pub head_room : (L : Limits) (ws : List ℕ) → is_whole L ws ≡ true → head_words ≤ length ws
head_room L ws e = omega (arith, (whole L ws e).long, first_above (dims_of ws) (dims_of ws))

module _ (L : Limits) (fit : Fits L) (ws sums : List ℕ) (p total : ℕ) (h : Lent L ws sums p total) where
  abbrev n : Node
  n = unpacked ws

  pub held : Valid L n
  held = valid_known L n h.valid

  pub lies : Whole L ws
  lies = whole L ws h.whole

  pub low_dims : p ≤ width
  unfolding unpacked
  low_dims = let e : p ≡ dims_of ws = h.dims in omega (arith, e, few L fit ws lies.board)

  pub number_low : word ws at_number < base.nodes
  unfolding unpacked
  number_low = omega (arith, held.number, board_good L n.nodes held.board, fit.nodes)

  pub dim_low : 0 < p → n.dim < p
  dim_low z = rw h.dims (held.dim (rw (sym h.dims) z))

  -- the sums of pass 1 are those for the position
  pub gathered : n.pass ≡ 1 → (f : Field) → Has (dims n) n.dim f → sum_of (dims n) sums f ≡ own n n.dim f
  gathered first f b =
      let here : reach n ≡ n.dim = choose_yes _ _ (eq-eqb n.pass 1 first) in
      h.gathered f (rw here b) ∙ ap (λ k. own n k f) here

  -- and that of pass 2
  pub issued_is : n.pass ≡ 2 → total ≡ own_issued n n.dim
  issued_is second = h.issued ∙ ap (own_issued n) (choose_no _ _ (ne_eqb n.pass 1 (λ q. omega arith)))
