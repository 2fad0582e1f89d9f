-- `fresh` answers `fresh_on` and leaves `fresh_words`.
use borrow.Author.Rules.{rules}
use borrow.Author.Tests.{le-leb}
use native.Mathlib.Omega.{arith}
use mathlib.Core.Path.{◌≡◌, sym, ap, ◌∙◌}
use mathlib.Core.Bool.{false}
use mathlib.Core.List.{[], ◌∷◌}
use Prim.Native.Nat.{ℕ, ◌≤◌}
use Rattle.std.proofs.Common.{Err}
use Rattle.base.specs.Limits.{limits_of, width}
use Rattle.base.proofs.Limits.{fits_of}
use Rattle.base.proofs.Laws.{here, later}
use Rattle.tree.specs.Tree.{dimension}
use Rattle.tree.specs.Lookups.{bad_board}
use Rattle.tree.proofs.Lookups.{dimension_refused, dimension_found}
use Rattle.node.specs.Answers.{give, done, refused, outcome_of}
use Rattle.node.specs.Change.{fresh_in}
use Rattle.node.specs.Calls.{fresh}
use Rattle.node.proofs.Ways.{fresh_refuses, fresh_does}
use Rattle.layout.specs.Places.{state_words}
use Rattle.layout.proofs.Whole.{few}
use Rattle.node_fresh.proofs.Starts.{fresh_stops, fresh_short, fresh_put}
use Rattle.node_fresh.proofs.fresh.Goals as goal
use Rattle.node_fresh.proofs.fresh.Goals.{Else-nodes-number}

pub returns-in_err-p : goal.returns-in_err-p
returns-in_err-p c =
    let a = c.args in
    let passed : c.from_residual.result ≡ Err c.in_err-p.field-0.0 = search rules in
    let bad = dimension_refused _ _ _ (sym c.in_err-p.ensures) in
    let stops = fresh_stops (limits_of a.b) a.nodes a.number a.state.now (fresh_refuses _ _ _ (here bad.0)) in
    record { answer = ap outcome_of passed ∙ ap refused bad.1 ∙ stops.0; memory = stops.1 }

pub returns-then-nodes-number : goal.returns-then-nodes-number
returns-then-nodes-number c =
    let a = c.args in
    let good = dimension_found _ _ _ (sym c.in_ok-p.ensures) in
    let stops =
    fresh_stops (limits_of a.b) a.nodes a.number a.state.now
    (fresh_refuses _ _ _ (later good.0 (here (le-leb _ _ c.if-nodes-number.true)))) in
    record { answer = stops.0; memory = stops.1 }

-- the board is good, the node is on it, and p is the board's dimension
module _ (c : Else-nodes-number) where
  abbrev nodes : ℕ
  nodes = c.args.nodes

  known : (bad_board (limits_of c.args.b) nodes ≡ false) × (c.in_ok-p.p ≡ dimension nodes)
  known = dimension_found _ _ _ (sym c.in_ok-p.ensures)

  narrow : dimension nodes ≤ width
  narrow =
      let b = c.args.b in
      let g = c.well_formed.0 in
      few (limits_of b) (fits_of b (omega (arith, g))) (nodes ∷ []) known.0

  does : let a = c.args in
      fresh (limits_of a.b) a.nodes a.number ≡ give (fresh_in a.nodes a.number 0) done
  does = let a = c.args in fresh_does (limits_of a.b) _ _ known.0 c.if-nodes-number.false

pub overflow_cast-p : goal.overflow_cast-p
overflow_cast-p c = omega (arith, (known c).1, narrow c)

pub returns-then-state-state_words : goal.returns-then-state-state_words
returns-then-state-state_words c =
    let a = c.args in
    let s = (goal.at.returns-then-state-state_words c).Else-nodes-number in
    let words = c.state_words.ensures ∙ ap state_words (known s).1 in
    let short =
    fresh_short (limits_of a.b) a.nodes a.number a.state.now (does s) (omega (arith, words, c.if-state-state_words.true)) in
    record { answer = short.0; memory = short.1 }

pub overflow_cast-p-2 : goal.overflow_cast-p-2
overflow_cast-p-2 c = let s = (goal.at.overflow_cast-p-2 c).Else-nodes-number in omega (arith, (known s).1, narrow s)

pub returns : goal.returns
returns c =
    let a = c.args in
    let s = (goal.at.returns c).Else-nodes-number in
    let k = (known s).1 in
    let put =
    fresh_put (limits_of a.b) a.nodes a.number a.state.now (does s) _ k
    (omega (arith, c.state_words.ensures, c.if-state-state_words.false)) (omega (arith, k, narrow s)) in
    record { answer = put.0; memory = c.put_fresh.ensures ∙ put.1 }
