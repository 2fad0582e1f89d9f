-- `step` answers `barrier` on the words.
use Rattle.std.proofs.Common.{rules, arith, ◌≡◌, refl, ap, ◌∙◌, sym, ℕ, ◌≤◌, Bool, true, false, not, List, length, leb, Option, Some, None, is_some, Result, Err, Ok}
use borrow.Author.Tests.{eq-eqb, ne_eqb, le-ltb, leb-true, not-false}
use mathlib.Core.Logic.{inl, inr}
use lib.Dec.{ltb}
use Rattle.base.specs.Limits.{Limits, Fits, width}
use Rattle.base.specs.declared.Refusal.{Refusal}
use Rattle.base.proofs.Laws.{clash, both_true, choose_no}
use Rattle.base.proofs.Limits.{fits_of}
use Rattle.node.specs.Answers.{barrier_of}
use Rattle.node.specs.Barrier.{is_empty}
use Rattle.node.specs.declared.Node.{Node}
use Rattle.node.specs.declared.Receivers.{Receivers}
use Rattle.node.specs.declared.Step.{Step}
use Rattle.layout.specs.Places.{at_busy, head_words, sum_words}
use Rattle.layout.specs.Held.{word, dims_of, unpacked, is_whole, holding}
use Rattle.layout.proofs.Repack.{repacked}
use Rattle.walked.specs.Walk.{reach}
use Rattle.scanned.specs.Scan.{passes, Gathered, Scanned}
use Rattle.scanned.specs.declared.Scan.{Scan}
use Rattle.scanned.proofs.Known.{Known, failed, passed}
use Rattle.due.specs.Due.{due_to, whom_list}
use Rattle.node_turn.specs.Turn.{node_after, words_after}
use Rattle.node_turn.specs.declared.Turn.{Turn}
use Rattle.node_act.proofs.Acting.{acted}
use Rattle.node_decide.specs.Decides.{decide_turn, decide_lent}
use Rattle.node_decide.proofs.Handed.{Lent, head_room, low_dims}
use Rattle.node_decide.proofs.Turning.{turned, turns_same, refuses_state, refuses_busy}
use Rattle.node_decide.proofs.Decided.{decided}
use Rattle.node_barrier.proofs.Answering.{On, no_state_lem, on_state_lem}
use Rattle.node_barrier.proofs.step.Goals as goal

-- a frame is due to nobody where there are no receivers
is_nobody : (whom : Option Receivers) (none : Bool) → is_some whom ≡ not none → is_empty (whom_list whom) ≡ true → none ≡ true
is_nobody None none e q = not-false none (sym e)
is_nobody (Some to) none e q = clash (sym q)

-- the words that are handed, and what a scan says of them
module _ (L : Limits) (fit : Fits L) (ws : List ℕ) (room : ℕ) (looks : Bool) (found : Scan) (scan : Scanned L room looks ws found) where
  abbrev n : Node
  n = unpacked ws

  no_state : (buf : List ℕ) → not found.ok ≡ true → On L ws buf room ws buf (Err Refusal.State)
  no_state buf e = elim (failed L room looks ws found scan e) [
    | inl none ↦ no_state_lem L ws buf room none
    | inr bad ↦
        let w = both_true (is_whole L ws) (leb (sum_words (dims_of ws)) room) bad.0 in
        on_state_lem L ws buf room bad.0 (Err Refusal.State) (Err Refusal.State) ws buf refl (refuses_state L n buf bad.1)
        (sym (repacked L fit ws w.0))
  ]

  -- ---- a state that passes the test

  module _ (ok : not found.ok ≡ false) where
    known : Known L room looks ws found
    known = passed L room looks ws found scan ok

    long : head_words ≤ length ws
    long = head_room L ws known.whole

    headed : ltb (length ws) head_words ≡ false
    headed = le-ltb (length ws) head_words long

    dims_are : found.dims ≡ dims_of ws
    unfolding unpacked
    dims_are = known.dims

    -- the words after a refusal, and after a turn
    kept : ws ≡ holding ws n
    kept = sym (repacked L fit ws known.whole)

    after : (t : Turn) → words_after ws found.dims t ≡ holding ws (node_after n t)
    after t = ap (λ p. words_after ws p t) dims_are ∙ acted L fit ws known.whole t

    working : (buf : List ℕ) → word ws at_busy ≡ 1 → On L ws buf room ws buf (Err Refusal.Working)
    unfolding unpacked
    working buf q =
        on_state_lem L ws buf room known.ready (Err Refusal.Working) (Err Refusal.Working) ws buf refl
        (refuses_busy L n buf known.valid (eq-eqb _ 1 q)) kept

    -- with the sums that are gathered
    module _ (sums : List ℕ) (gathers : passes L room ws ≡ true → Gathered n (reach n) sums) (long_sums : length sums ≡ room) where
      lent : Lent L ws sums found.dims found.issued.0
      lent =
          record {
            whole = known.whole;
            valid = known.valid;
            dims = known.dims;
            gathered = gathers known.passes;
            issued = known.issued;
          }

      few : found.dims ≤ width
      few = low_dims L fit ws sums found.dims found.issued.0 lent

      enough : sum_words found.dims ≤ length sums
      enough =
          let r = both_true (is_whole L ws) (leb (sum_words (dims_of ws)) room) known.ready in
          omega (arith, leb-true (sum_words (dims_of ws)) room r.1, long_sums, dims_are)

      -- of an idle node; where a frame is due to nobody the step of the position was looked at
      module _ (idle : word ws at_busy ≡ 1 → ⊥) (whom : Option Receivers) (due : whom_list whom ≡ due_to L ws)
          (looked : is_empty (whom_list whom) ≡ true → looks ≡ true) where
        is_idle : n.busy ≡ false
        unfolding unpacked
        is_idle = ne_eqb _ 1 idle

        stepped : (buf : List ℕ) (answer : Result Step Refusal) (t : Result Turn Refusal) (words lent_after : List ℕ)
            → barrier_of answer ≡ (turned n t).answer
            → t ≡ decide_turn ws sums found.dims whom found.issued.0 found.clause found.received.0 (length buf)
            → lent_after ≡ decide_lent ws sums found.dims whom found.issued.0 buf
            → words ≡ holding ws (turned n t).node
            → On L ws buf room words lent_after answer
        stepped buf answer t words lent_after a e g w =
            let turn =
            decided L fit ws sums found.dims found.issued.0 lent enough is_idle buf found.clause found.received.0 whom due
            (λ q. record { clause = known.clause (looked q); received = known.received (looked q) }) in
            on_state_lem L ws buf room known.ready answer t words lent_after a (turns_same L n buf g e turn) w

pub returns-then-not-known : goal.returns-then-not-known
returns-then-not-known c =
    let fit = fits_of c.args.b (omega arith) in
    no_state _ fit _ _ _ _ c.scan_of-known.ensures.answer _ c.if-not-known.true

pub bounds-state-3 : goal.bounds-state-3
bounds-state-3 c =
    let fit = fits_of c.args.b (omega arith) in
    omega (arith, long _ fit c.args.state.now _ _ _ c.scan_of-known.ensures.answer c.if-not-known.false)

pub returns-then-is_busy : goal.returns-then-is_busy
returns-then-is_busy c =
    let fit = fits_of c.args.b (omega arith) in
    working _ fit _ _ _ _ c.scan_of-known.ensures.answer c.if-not-known.false _ c.if-is_busy.true

pub overflow_cast-p : goal.overflow_cast-p
overflow_cast-p c =
    let fit = fits_of c.args.b (omega arith) in
    let s = c.scan_of-known.ensures in
    omega (arith, few _ fit c.args.state.now _ _ _ s.answer c.if-not-known.false _ s.sums.0 s.sums.1)

pub returns-in_err-turn : goal.returns-in_err-turn
returns-in_err-turn c =
    let fit = fits_of c.args.b (omega arith) in
    let s = c.scan_of-known.ensures in
    let t = c.in_err-turn in
    let refused : c.from_residual.result ≡ Err t.field-0.0 = search rules in
    stepped _ fit _ _ _ _ s.answer c.if-not-known.false _ s.sums.0 s.sums.1 c.if-is_busy.false _ c.to_whom-whom.ensures
    (is_nobody _ _ c.is_none.ensures) _ c.from_residual.result (Err t.field-0.0) _ _ (ap barrier_of refused) t.ensures.turn
    t.ensures.memory (kept _ fit _ _ _ _ s.answer c.if-not-known.false)

pub returns : goal.returns
returns c =
    let fit = fits_of c.args.b (omega arith) in
    let s = c.scan_of-known.ensures in
    let t = c.in_ok-turn in
    let no = headed _ fit c.args.state.now _ _ _ s.answer c.if-not-known.false in
    stepped _ fit _ _ _ _ s.answer c.if-not-known.false _ s.sums.0 s.sums.1 c.if-is_busy.false _ c.to_whom-whom.ensures
    (is_nobody _ _ c.is_none.ensures) _ c.act.result (Ok t.turn) _ _ (ap barrier_of (c.act.ensures.answer ∙ choose_no _ _ no))
    t.ensures.turn t.ensures.memory
    (c.act.ensures.memory ∙ choose_no _ _ no ∙ after _ fit _ _ _ _ s.answer c.if-not-known.false t.turn)
