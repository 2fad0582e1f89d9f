-- `take_on` answers `take`.
use borrow.Author.Rules.{rules}
use borrow.Author.Tests.{leb-false, eqb-false}
use native.Mathlib.Omega.{arith}
use mathlib.Core.Path.{◌≡◌, sym, ap, ◌∙◌, subst}
use mathlib.Core.Bool.{not}
use mathlib.Core.List.{List}
use Prim.Native.Nat.{ℕ, ◌+◌, ◌≤◌, ◌<◌}
use Rattle.std.proofs.Common.{Ok, Err}
use lib.ListN.{length}
use Rattle.base.specs.Limits.{Limits, Fits, limits_of, taken_limit, width, base}
use Rattle.base.specs.Refusal.{Check}
use Rattle.base.specs.declared.Kind.{Kind}
use Rattle.base.proofs.Limits.{fits_of, taken_low}
use Rattle.base.proofs.Laws.{Passes, Stops, later, order_passes}
use Rattle.tree.specs.Tree.{dimension, distance}
use Rattle.node.specs.Sums.{all_taken, tally}
use Rattle.node.specs.Answers.{give, done}
use Rattle.node.specs.Calls.{refusal, counted, take}
use Rattle.node.specs.declared.Accepted.TheVariants.{Done}
use Rattle.node.specs.declared.Node.{Node}
use Rattle.node.proofs.Valid.{Valid, valid_known}
use Rattle.node.proofs.Ways.{take_checks, take_refuses}
use Rattle.layout.specs.Places.{at_nodes, at_number, at_phase}
use Rattle.layout.specs.Places.{at_taken, head_words}
use Rattle.layout.specs.Held.{unpacked, dims_of, word}
use Rattle.layout.specs.Pieces.{Passed}
use Rattle.layout.proofs.Whole.{whole, few}
use Rattle.layout.proofs.Becomes.{Becomes}
use Rattle.layout.proofs.Answers.{gives, stays}
use Rattle.refusals.specs.Tests.{take_tests}
use Rattle.refusals.proofs.First.{met_some, met_none}
use Rattle.tree.specs.Lookups.{distance_lookup}
use Rattle.node_take.specs.Shell.{shell_of}
use Rattle.node_take.specs.Pieces.{counted_words, woken_words}
use Rattle.node_take.proofs.Counted.{tallies_room, taken_within, counted_length, put_taken_one}
use Rattle.node_take.proofs.Shells.{shell_known}
use Rattle.node_take.proofs.take_on.Goals as goal
use Rattle.node_take.proofs.take_on.Goals.{Start}

-- what is handed
module _ (s : Start) where
  abbrev L : Limits
  L = limits_of s.args.b

  abbrev ws : List ℕ
  ws = s.args.state.now

  abbrev n : Node
  n = unpacked ws

  abbrev kind : Kind
  kind = s.args.kind

  abbrev from : ℕ
  from = s.args.from

  abbrev phase : ℕ
  phase = s.args.phase

  fit : Fits L
  fit = fits_of s.args.b (omega (arith, s.well_formed.0))

  passed : Passed L ws
  passed = s.requires.0

  good : Valid L n
  good = valid_known L n passed.valid

  long : head_words + (dims_of ws + dims_of ws) ≤ length ws
  long = tallies_room L ws passed.whole

  narrow : dims_of ws ≤ width
  narrow = few L fit ws (whole L ws passed.whole).board

  dims_is : s.args.p ≡ dims_of ws
  unfolding unpacked
  dims_is = s.requires.1

  -- the tests of the words, then those of the state
  abbrev tests : List Check
  tests = take_tests L (word ws at_nodes) (word ws at_number) (word ws at_phase) s.args.takes.0 from phase

  stops : {x : ℕ} → Stops tests x → take L n kind from phase ≡ refusal n x
  unfolding unpacked
  stops {x} t =
      take_refuses L n kind from phase
      (later (ap not passed.valid)
      (subst (λ k. Stops (take_tests L (word ws at_nodes) (word ws at_number) (word ws at_phase) k from phase) x) s.requires.2 t))

  passes : Passes tests → take L n kind from phase ≡ give (counted n kind (distance n.nodes n.number from)) done
  unfolding unpacked take
  passes t =
      order_passes (refusal n) (take_checks L n from phase) _ (
        ap not passed.valid,
        subst (λ k. Passes (take_tests L (word ws at_nodes) (word ws at_number) (word ws at_phase) k from phase)) s.requires.2 t,
      )

pub bounds-state-0 : goal.bounds-state-0
bounds-state-0 c = omega (arith, long (goal.at.bounds-state-0 c).Start)

pub bounds-state-1 : goal.bounds-state-1
bounds-state-1 c = omega (arith, long (goal.at.bounds-state-1 c).Start)

pub bounds-state-2 : goal.bounds-state-2
bounds-state-2 c = omega (arith, long (goal.at.bounds-state-2 c).Start)

pub overflow_cast-here : goal.overflow_cast-here
overflow_cast-here c =
    let s = (goal.at.overflow_cast-here c).Start in
    omega (arith, (whole (L s) (ws s) (passed s).whole).phase)

pub returns-in_err-may_take : goal.returns-in_err-may_take
returns-in_err-may_take c =
    let s = (goal.at.returns-in_err-may_take c).Start in
    let told : c.from_residual.result ≡ Err c.in_err-may_take.field-0.0 = search rules in
    rw told
    (stays (L s) (fit s) (λ m. take (L s) m (kind s) (from s) (phase s)) (ws s) (Err _) (passed s).whole
    (stops s (met_some (tests s) c.in_err-may_take.ensures)))

pub overflow_add-p : goal.overflow_add-p
overflow_add-p c = let s = (goal.at.overflow_add-p c).Start in omega (arith, dims_is s, narrow s)

-- a take that is not refused, from a node in a shell
module _ (s : Start) (none : Passes (tests s)) (shell : ℕ)
    (looked : shell ≡ shell_of (distance_lookup (L s) (word (ws s) at_nodes) (word (ws s) at_number) (from s)))
  where
    takes : tally (n s) all_taken < taken_limit (L s)
    takes = omega (arith, leb-false (taken_limit (L s)) s.args.takes.0 none.1.1.1.1.0, s.requires.2)

    known : let P = word (ws s) at_nodes in
        (shell ≡ distance P (word (ws s) at_number) (from s)) × (shell < dimension P) × (shell < width)
    unfolding unpacked
    known =
        shell_known (L s) (fit s) _ _ _ shell looked (good s).board (good s).number
        (leb-false _ _ none.0) (eqb-false _ _ none.1.0)

    shell_in : shell < dims_of (ws s)
    shell_in = known.1

    abbrev place : ℕ
    place = at_taken s.args.p shell

    place_is : place ≡ at_taken (dims_of (ws s)) shell
    place_is = ap (λ p. at_taken p shell) (dims_is s)

    -- the tally has room for one more
    more : word (ws s) place < taken_limit base
    more =
        rw place_is
        (omega (
          arith,
          takes,
          taken_low (L s) (fit s),
          taken_within (L s) (ws s) (passed s).whole shell shell_in known.2,
        ))

    shell_is : shell ≡ distance (n s).nodes (n s).number (from s)
    unfolding unpacked
    shell_is = known.0

pub overflow_add-p-2 : goal.overflow_add-p-2
overflow_add-p-2 c =
    let s = (goal.at.overflow_add-p-2 c).Start in
    let none = met_none (tests s) c.in_ok-may_take.ensures in
    omega (arith, dims_is s, narrow s, shell_in s none _ c.shell_of.ensures)

pub count-requires : goal.count-requires
count-requires c =
    let s = (goal.at.count-requires c).Start in
    let none = met_none (tests s) c.in_ok-may_take.ensures in
    let in_dims = shell_in s none _ c.shell_of.ensures in
    (omega arith, omega (arith, dims_is s, long s, in_dims), omega (arith, more s none _ c.shell_of.ensures))

pub wake-requires : goal.wake-requires
wake-requires c =
    let s = (goal.at.wake-requires c).Start in
    omega (arith, ap length c.count.ensures, counted_length (ws s) (at_taken s.args.p c.shell_of.result), long s)

pub returns : goal.returns
returns c =
    let s = (goal.at.returns c).Start in
    let m = c.shell_of.result in
    let e = c.shell_of.ensures in
    let none = met_none (tests s) c.in_ok-may_take.ensures in
    let put = put_taken_one (L s) (ws s) (passed s).whole m (shell_in s none m e) (known s none m e).2 (kind s) in
    let after =
    c.wake.ensures ∙ ap (woken_words (kind s)) (c.count.ensures ∙ ap (counted_words (ws s)) (place_is s none m e)) in
    gives (L s) (fit s) (λ x. take (L s) x (kind s) (from s) (phase s)) (ws s) (Ok Done) _ _
    (passes s none ∙ ap (λ x. give (counted (n s) (kind s) x) done) (sym (shell_is s none m e)))
    (subst (λ l. Becomes (L s) (ws s) l (counted (n s) (kind s) m)) (sym after) put)
