-- `frame_on` answers `frame_in`.
use borrow.Author.Rules.{rules}
use native.Mathlib.Omega.{arith}
use mathlib.Core.Path.{◌≡◌, sym, ap, ◌∙◌, subst}
use mathlib.Core.List.{List}
use Prim.Native.Nat.{ℕ, ◌≤◌}
use lib.ListN.{length}
use Rattle.std.proofs.Common.{Ok, Err}
use Rattle.base.specs.Limits.{Limits, Fits, limits_of}
use Rattle.base.proofs.Limits.{fits_of}
use Rattle.frame.specs.Frame.{fields_of}
use Rattle.node.specs.Answers.{Given, Outcome, outcome_of, done}
use Rattle.node.specs.Calls.{gotten, frame_in}
use Rattle.node.specs.declared.Accepted.{Accepted}
use Rattle.node.specs.declared.Accepted.TheVariants.{Done, Dropped}
use Rattle.node.specs.declared.Node.{Node}
use Rattle.layout.specs.Places.{head_words}
use Rattle.layout.specs.Held.{dims_of, unpacked}
use Rattle.layout.specs.Pieces.{Passed}
use Rattle.layout.proofs.Becomes.{Becomes}
use Rattle.layout.proofs.Answers.{gives, stays}
use Rattle.frame_refusals.specs.Judged.{judged}
use Rattle.layout.specs.Places.{at_nodes, at_number, at_phase}
use Rattle.layout.specs.Held.{word}
use Rattle.node_frames.specs.Pieces.{Judged, stored_words, Storable}
use Rattle.node_frames.proofs.OnWords.{head_long, phase_low, storable, stored, judged_known}
use Rattle.node_frames.proofs.frame_on.Goals as goal
use Rattle.node_frames.proofs.frame_on.Goals.{Start}

-- what is handed
module _ (s : Start) where
  abbrev L : Limits
  L = limits_of s.args.b

  abbrev ws : List ℕ
  ws = s.args.state.now

  abbrev bs : List ℕ
  bs = s.args.bytes.now

  fit : Fits L
  fit = fits_of s.args.b (omega (arith, s.well_formed.0))

  passed : Passed L ws
  passed = s.requires.0

  long : head_words ≤ length ws
  long = head_long fit bs passed

  abbrev call : Node → Given Outcome
  call n = frame_in L n bs

  -- what is said of the frame, by the words of the head
  abbrev said : Outcome
  said = judged L (word ws at_nodes) (word ws at_number) (word ws at_phase) bs

pub bounds-state-0 : goal.bounds-state-0
bounds-state-0 c = omega (arith, long (goal.at.bounds-state-0 c).Start)

pub bounds-state-1 : goal.bounds-state-1
bounds-state-1 c = omega (arith, long (goal.at.bounds-state-1 c).Start)

pub bounds-state-2 : goal.bounds-state-2
bounds-state-2 c = omega (arith, long (goal.at.bounds-state-2 c).Start)

pub overflow_cast-state : goal.overflow_cast-state
overflow_cast-state c =
    let s = (goal.at.overflow_cast-state c).Start in omega (arith, phase_low (fit s) (bs s) (passed s))

pub returns-in_err-accepted : goal.returns-in_err-accepted
returns-in_err-accepted c =
    let s = (goal.at.returns-in_err-accepted c).Start in
    let told : c.from_residual.result ≡ Err c.in_err-accepted.field-0.0 = search rules in
    rw told
    (stays (L s) (fit s) (call s) (ws s) (Err _) (passed s).whole
    (judged_known (fit s) (bs s) (passed s) _ c.in_err-accepted.ensures))

-- a frame that is not refused
module _ (s : Start) (a : Accepted) (e : outcome_of (Ok a) ≡ said s) where
  accepts : (r : Accepted) → a ≡ r → Judged (L s) (ws s) (bs s) (outcome_of (Ok r))
  accepts r q =
      judged_known (fit s) (bs s) (passed s) (outcome_of (Ok r)) (ap (λ x. outcome_of (Ok x)) (sym q) ∙ e)

  -- it is stored
  module _ (q : a ≡ Done) where
    taken : Judged (L s) (ws s) (bs s) done
    taken = accepts Done q

    fits : Storable s.args.p (ws s) (bs s)
    fits =
        subst (λ p. Storable p (ws s) (bs s)) (sym s.requires.1) (storable (fit s) (bs s) (passed s) taken.0)

    becomes : (after : List ℕ) → after ≡ stored_words s.args.p (ws s) (bs s)
        → Becomes (L s) (ws s) after (gotten (unpacked (ws s)) (fields_of (dims_of (ws s)) (bs s)))
    becomes after e =
        subst (λ l. Becomes (L s) (ws s) l (gotten (unpacked (ws s)) (fields_of (dims_of (ws s)) (bs s))))
        (sym (e ∙ ap (λ p. stored_words p (ws s) (bs s)) s.requires.1))
        (stored (fit s) (bs s) (passed s) taken.0)

pub store-requires : goal.store-requires
store-requires c =
    let s = (goal.at.store-requires c).Start in fits s _ c.in_ok-accepted.ensures c.in-Done.is

pub returns-in-Done : goal.returns-in-Done
returns-in-Done c =
    let s = (goal.at.returns-in-Done c).Start in
    let e = c.in_ok-accepted.ensures in
    let q = c.in-Done.is in
    gives (L s) (fit s) (call s) (ws s) (Ok Done) _ _ (taken s _ e q).1 (becomes s _ e q _ c.store.ensures)

pub returns-in-Dropped : goal.returns-in-Dropped
returns-in-Dropped c =
    let s = (goal.at.returns-in-Dropped c).Start in
    stays (L s) (fit s) (call s) (ws s) (Ok Dropped) (passed s).whole
    (accepts s _ c.in_ok-accepted.ensures Dropped c.in-Dropped.is)
