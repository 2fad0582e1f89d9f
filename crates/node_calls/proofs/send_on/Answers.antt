-- `send_on` answers `send`.
use borrow.Author.Rules.{rules}
use borrow.Author.Tests.{leb-false, eqb-false}
use native.Mathlib.Omega.{arith}
use mathlib.Core.Path.{◌≡◌, sym, ap, ◌∙◌, subst}
use mathlib.Core.Bool.{not}
use mathlib.Core.List.{List}
use Prim.Native.Nat.{ℕ, ◌+◌, ◌≤◌, ◌<◌}
use Rattle.std.proofs.Common.{Ok, Err}
use lib.ListN.{length}
use Rattle.base.specs.Limits.{Limits, Fits, limits_of, width}
use Rattle.base.specs.Refusal.{Check}
use Rattle.base.proofs.Limits.{fits_of}
use Rattle.base.proofs.Laws.{Passes, Stops, later, order_passes}
use Rattle.tree.specs.Tree.{dimension, distance}
use Rattle.node.specs.Sums.{all_sent, tally}
use Rattle.node.specs.Answers.{give, done}
use Rattle.node.specs.Calls.{refusal, one_sent, send}
use Rattle.node.specs.declared.Accepted.TheVariants.{Done}
use Rattle.node.specs.declared.Node.{Node}
use Rattle.node.proofs.Valid.{Valid, valid_known}
use Rattle.node.proofs.Ways.{send_checks, send_refuses}
use Rattle.layout.specs.Held.{unpacked, dims_of, word}
use Rattle.layout.specs.Pieces.{Passed}
use Rattle.layout.proofs.Answers.{gives, stays}
use Rattle.refusals.specs.Tests.{send_tests}
use Rattle.refusals.proofs.First.{met_some, met_none}
use Rattle.layout.specs.Places.{at_nodes, at_number, at_busy, head_words, at_sent}
use Rattle.node_take.proofs.Counted.{tallies_room, sent_within, put_one_sent}
use Rattle.node_take.proofs.Shells.{shell_known}
use Rattle.tree.specs.Lookups.{distance_lookup}
use Rattle.node_take.specs.Shell.{shell_of}
use Rattle.node_calls.proofs.send_on.Goals as goal
use Rattle.node_calls.proofs.send_on.Goals.{Start}

-- what is handed
module _ (s : Start) where
  abbrev L : Limits
  L = limits_of s.args.b

  abbrev ws : List ℕ
  ws = s.args.state.now

  abbrev n : Node
  n = unpacked ws

  abbrev to : ℕ
  to = s.args.to

  fit : Fits L
  fit = fits_of s.args.b (omega (arith, s.well_formed.0))

  passed : Passed L ws
  passed = s.requires.0

  good : Valid L n
  good = valid_known L n passed.valid

  long : head_words + (dims_of ws + dims_of ws) ≤ length ws
  long = tallies_room L ws passed.whole

  -- the tests of the words, then those of the state
  abbrev tests : List Check
  tests = send_tests L (word ws at_nodes) (word ws at_number) (word ws at_busy) s.args.sends.0 to

  stops : {x : ℕ} → Stops tests x → send L n to ≡ refusal n x
  unfolding unpacked
  stops {x} t =
      send_refuses L n to
      (later (ap not passed.valid)
      (subst (λ k. Stops (send_tests L (word ws at_nodes) (word ws at_number) (word ws at_busy) k to) x) s.requires.1 t))

  passes : Passes tests → send L n to ≡ give (one_sent n (distance n.nodes n.number to)) done
  unfolding unpacked send
  passes t =
      order_passes (refusal n) (send_checks L n to) _
      (ap not passed.valid, subst (λ k. Passes (send_tests L (word ws at_nodes) (word ws at_number) (word ws at_busy) k to)) s.requires.1 t)

pub bounds-state-0 : goal.bounds-state-0
bounds-state-0 c = omega (arith, long (goal.at.bounds-state-0 c).Start)

pub bounds-state-1 : goal.bounds-state-1
bounds-state-1 c = omega (arith, long (goal.at.bounds-state-1 c).Start)

pub bounds-state-3 : goal.bounds-state-3
bounds-state-3 c = omega (arith, long (goal.at.bounds-state-3 c).Start)

pub returns-in_err-may_send : goal.returns-in_err-may_send
returns-in_err-may_send c =
    let s = (goal.at.returns-in_err-may_send c).Start in
    let told : c.from_residual.result ≡ Err c.in_err-may_send.field-0.0 = search rules in
    rw told
    (stays (L s) (fit s) (λ m. send (L s) m (to s)) (ws s) (Err _) (passed s).whole
    (stops s (met_some (tests s) c.in_err-may_send.ensures)))

-- a send that is not refused, to a node in a shell
module _ (s : Start) (none : Passes (tests s)) (shell : ℕ)
    (looked : shell ≡ shell_of (distance_lookup (L s) (word (ws s) at_nodes) (word (ws s) at_number) (to s)))
  where
    sends : tally (n s) all_sent < (L s).sends
    sends = omega (arith, leb-false (L s).sends s.args.sends.0 none.1.1.1.0, s.requires.1)

    known : let P = word (ws s) at_nodes in
        (shell ≡ distance P (word (ws s) at_number) (to s)) × (shell < dimension P) × (shell < width)
    unfolding unpacked
    known =
        shell_known (L s) (fit s) _ _ _ shell looked (good s).board (good s).number
        (leb-false _ _ none.0) (eqb-false _ _ none.1.0)

    shell_in : shell < dims_of (ws s)
    shell_in = known.1

    -- the tally has room for one more
    more : word (ws s) (at_sent shell) < 65535
    more =
        omega (
          arith,
          sends,
          (fit s).sends,
          sent_within (L s) (ws s) (passed s).whole shell shell_in known.2,
        )

    shell_is : shell ≡ distance (n s).nodes (n s).number (to s)
    unfolding unpacked
    shell_is = known.0

pub overflow_add-at : goal.overflow_add-at
overflow_add-at c =
    let s = (goal.at.overflow_add-at c).Start in
    omega (arith, (known s (met_none (tests s) c.in_ok-may_send.ensures) _ c.shell_of-at.ensures).2)

pub bounds-state-at : goal.bounds-state-at
bounds-state-at c =
    let s = (goal.at.bounds-state-at c).Start in
    omega (arith, long s, shell_in s (met_none (tests s) c.in_ok-may_send.ensures) _ c.shell_of-at.ensures)

pub overflow_add-state : goal.overflow_add-state
overflow_add-state c =
    let s = (goal.at.overflow_add-state c).Start in
    omega (arith, more s (met_none (tests s) c.in_ok-may_send.ensures) _ c.shell_of-at.ensures)

pub bounds-state-at-2 : goal.bounds-state-at-2
bounds-state-at-2 c =
    let s = (goal.at.bounds-state-at-2 c).Start in
    omega (arith, long s, shell_in s (met_none (tests s) c.in_ok-may_send.ensures) _ c.shell_of-at.ensures)

pub returns : goal.returns
returns c =
    let s = (goal.at.returns c).Start in
    let m = c.shell_of-at.result in
    let e = c.shell_of-at.ensures in
    let none = met_none (tests s) c.in_ok-may_send.ensures in
    gives (L s) (fit s) (λ x. send (L s) x (to s)) (ws s) (Ok Done) _ _
    (passes s none ∙ ap (λ x. give (one_sent (n s) x) done) (sym (shell_is s none m e)))
    (put_one_sent (L s) (ws s) (passed s).whole m (shell_in s none m e) (known s none m e).2)
