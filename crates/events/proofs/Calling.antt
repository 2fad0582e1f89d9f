-- A barrier call is a step.
use mathlib.Core.Path.{◌≡◌, refl, sym, ap, ◌∙◌, subst}
use mathlib.Core.Logic.{◌⊎◌, inl, inr}
use mathlib.Core.Bool.{true, false}
use mathlib.Core.Option.{some}
use mathlib.Core.List.{List, [], ◌∷◌, ◌++◌, append_assoc}
use Prim.Native.Nat.{ℕ, suc, ◌+◌, ◌<◌}
use native.Mathlib.Omega.{arith}
use Rattle.base.specs.Limits.{Limits, field_limit}
use Rattle.tree.specs.Tree.{dimension}
use Rattle.frame.specs.Frame.{fields_of, frame_bytes}
use Rattle.node.specs.Sums.{all_taken, dims, own}
use Rattle.node.specs.Change.{at}
use Rattle.node.specs.Answers.{Given, Barrier}
use Rattle.node.specs.Calls.{step_number}
use Rattle.node.specs.Barrier.{frame_due, receivers_due}
use Rattle.events.specs.Board.{Board, calls, gave, posted, after_call}
use Rattle.cycle.proofs.Lists.{All}
use Rattle.cycle.proofs.Exact.{taken_all, Entries, own_sums}
use Rattle.cycle.proofs.OnePhase.{report, posts, frame_of, dim_of, at_step}
use Rattle.cycle.proofs.Ledger.{Dated, Ledger, Reached}
use Rattle.cycle.proofs.Reached.{invariant, within_one}
use Rattle.cycle.proofs.Window.{Window, Move, window_keeps}
use Rattle.cycle.proofs.Dating.{dated}
use Rattle.cycle.proofs.Events.{state_of, page_with, act_wait, act_move, act_put}
use Rattle.events.proofs.Setting.{Setting, tree, dim_pos, receivers_await}
use Rattle.node.proofs.Ways.{CallWay}
use Rattle.events.proofs.View.{view, own_is, own_like}
use Rattle.events.proofs.Pairs.{Pair, pair_append}
use Rattle.events.proofs.Sim.{has_stored, window_same, awaited_in, awaited_in_lem, Says}
use Rattle.events.proofs.Sim.{Carried, Sim, stored_same}
use Rattle.events.proofs.Marks.{Marks, frames_named, frames_apart}
use Rattle.node.proofs.Valid.{step_first, step_second}
use Rattle.events.proofs.Emit.{emitted}
use Rattle.events.proofs.Played.{Played, Next, held, turned_to, turns_still, hold, dims_is}
use Rattle.events.proofs.Caller.{dim_at, rest_of, rcv_is, heard_by, mute_of, agree_of, hold_at, hold_still}
use Rattle.events.proofs.Leaving.{leave_next}

module _ {L : Limits} {P : ℕ} {setting : Setting L P} {w : Board} (play : Played setting w) where
  abbrev p : ℕ
  p = dimension P

  abbrev ledger : Ledger
  ledger = play.ledger

  abbrev reached : Reached (tree setting) (field_limit L) play.ledger
  reached = play.reached

  abbrev sim : Sim setting w play.ledger
  sim = play.sim

  abbrev marks : Marks P w.untaken w.sends w.items play.ledger
  marks = play.marks

  module _ (a : ℕ) (h : a < P) where
    -- frames go out on their links, in order
    win_posts : (x : Entries) (s : ℕ) (rs : List ℕ) (ms : List Dated) → s < p + p
        → All (λ c. (c < P) × ((tree setting).awaited (dim_of p s) c ≡ some a)) rs
        → Window (awaited_in setting) ledger.phase (has_stored ledger) ms
        → Window (awaited_in setting) ledger.phase (has_stored ledger)
        (ms ++ dated (ledger.phase a) (posts a (report s x) rs))
    win_posts x s [] ms l q i = subst (Window (awaited_in setting) ledger.phase (has_stored ledger)) (sym (nil ms)) i
      where
        nil : (ms : List Dated) → ms ++ [] ≡ ms
        nil [] = refl
        nil (m ∷ ms) = ap (λ l. m ∷ l) (nil ms)
    win_posts x s (c ∷ rs) ms l q i =
        subst (Window (awaited_in setting) ledger.phase (has_stored ledger))
        (append_assoc ms (m ∷ []) (dated (ledger.phase a) (posts a (report s x) rs)))
        (win_posts x s rs (ms ++ (m ∷ [])) l q.1
        (window_keeps (awaited_in setting)
        (Move.out m refl (within_one reached c a q.0.0 h)
        (λ t e. let z : s ≡ t = cc in subst
        (λ t. awaited_in setting t c ≡ some a) z (awaited_in_lem setting s c l ∙ q.0.1))) i))
      where
        m : Dated
        m = record { phase = ledger.phase a; item = record { from = a; to = c; load = report s x } }

    pair_posts : (bs : List ℕ) (s : ℕ) (x : Entries) (rs : List ℕ) → Says setting a (w.count a) (fields_of p bs) s x
        → All (λ c. (c < P) × ((tree setting).awaited (dim_of p s) c ≡ some a)) rs
        → Pair (Carried setting) (posted a bs (w.count a) rs) (dated (ledger.phase a) (posts a (report s x) rs))
    pair_posts bs s x [] b q = tt
    pair_posts bs s x (c ∷ rs) b q = (
      record { from = refl; to = refl; phase = sim.counts a; from_lt = h; to_lt = q.0.0; load = b },
      pair_posts bs s x rs b q.1,
    )

    pub call_next : (len : ℕ) (q : Given Barrier) → CallWay L (w.nodes a) len q
        → Next setting w play (calls a len) (after_call (gave w a q.node) a (w.nodes a) q.answer)
    call_next len q (CallWay.refused x s) = held play (calls a len) a
    call_next len q (CallWay.sends first rest v b fl e ro) =
        turned_to play (calls a len) a h
        (at_step (state_of ledger a) (state_of ledger a).step false (state_of ledger a).agreed)
        (at (w.nodes a) (w.nodes a).pass (w.nodes a).dim false (w.nodes a).agreed) ms refl
        (act_put reached a (receivers_due (w.nodes a)) h (rest_of play a h b)
        (λ c hc k. heard_by play a h c hc k))
        (hold_still play a h) _
        (pair_append (Carried setting) w.items
        (posted a (frame_bytes (dims (w.nodes a)) (frame_due (w.nodes a))) (w.count a) (receivers_due (w.nodes a)))
        ledger.items (dated (ledger.phase a)
        (posts a (report (state_of ledger a).step x) (receivers_due (w.nodes a)))) sim.items
        (pair_posts (frame_bytes (dims (w.nodes a)) (frame_due (w.nodes a))) (state_of ledger a).step x
        (receivers_due (w.nodes a)) (emitted setting a (w.count a) (w.nodes a) (state_of ledger a)
        (hold play a h) v) awaiting)) (window_same
        (stored_same setting sim a h
        (page_with (ledger.pages (ledger.phase a)) a
        (at_step (state_of ledger a) (state_of ledger a).step false (state_of ledger a).agreed))
        (at_step (state_of ledger a) (state_of ledger a).step false (state_of ledger a).agreed) refl
        (at (w.nodes a) (w.nodes a).pass (w.nodes a).dim false (w.nodes a).agreed) (hold_still play a h)
        (sim.capped (ledger.phase a) a h) ms (λ s. refl))
        (win_posts x (state_of ledger a).step (receivers_due (w.nodes a)) ledger.items
        ((invariant reached).now a (ledger.phase a) refl) awaiting sim.win))
        w.busy (sim.busy a h) (λ y z. refl)
        (frames_named P w.untaken w.sends w.items a (frame_bytes (dims (w.nodes a)) (frame_due (w.nodes a)))
        (w.count a) (receivers_due (w.nodes a)) marks.named)
        (frames_apart P w.items a (frame_bytes (dims (w.nodes a)) (frame_due (w.nodes a))) (w.count a)
        (receivers_due (w.nodes a)) marks.apart)
      where
        x : Entries
        x = frame_of p (state_of ledger a) (state_of ledger a).step

        ms : List Dated
        ms =
            ledger.items ++ dated (ledger.phase a)
            (posts a (report (state_of ledger a).step (frame_of p (state_of ledger a) (state_of ledger a).step))
            (receivers_due (w.nodes a)))

        awaiting : All (λ c. (c < P) × ((tree setting).awaited (dim_of p (state_of ledger a).step) c ≡ some a))
            (receivers_due (w.nodes a))
        awaiting =
            subst (λ d. All (λ c. (c < P) × ((tree setting).awaited d c ≡ some a)) (receivers_due (w.nodes a)))
            (sym (dim_at play a h)) (subst (All (λ c. (c < P) × ((tree setting).awaited (w.nodes a).dim c ≡ some a)))
            (sym (rcv_is play a h))
            (receivers_await setting (w.nodes a).dim a h))
    call_next len q (CallWay.waits v b m z g) =
        turns_still play (calls a len) a h
        (at_step (state_of ledger a) (state_of ledger a).step false (state_of ledger a).agreed)
        (at (w.nodes a) (w.nodes a).pass (w.nodes a).dim false (w.nodes a).agreed) refl refl
        (act_wait reached a h (rest_of play a h b) (mute_of play a h m)) (hold_still play a h) w.busy
        (sim.busy a h) (λ y z. refl)
    call_next len q (CallWay.next v b m g d) =
        turns_still play (calls a len) a h
        (at_step (state_of ledger a) (suc (state_of ledger a).step) true (w.nodes a).agreed)
        (at (w.nodes a) (w.nodes a).pass (suc (w.nodes a).dim) true (w.nodes a).agreed) refl refl
        (act_move reached a (w.nodes a).agreed h (rest_of play a h b) (mute_of play a h m)
        (agree_of play a h g) (λ z. (hold play a h).like.agreed)
        (λ z. absurd (not_last (hold play a h).pass z)) (lower (hold play a h).pass))
        (hold_at play a h (w.nodes a).pass (suc (w.nodes a).dim) (suc (state_of ledger a).step) true
        (w.nodes a).agreed
        (hold play a h).pass d' (up (hold play a h).pass)) w.busy (sim.busy a h) (λ y z. refl)
      where
        d' : suc (w.nodes a).dim < p
        d' = omega (arith, dims_is play a h)

        at_is : step_number p (w.nodes a).pass (w.nodes a).dim ≡ (state_of ledger a).step
        at_is = (hold play a h).like.step

        up : ((w.nodes a).pass ≡ 1) ⊎ ((w.nodes a).pass ≡ 2)
            → step_number p (w.nodes a).pass (suc (w.nodes a).dim) ≡ suc (state_of ledger a).step
        up (inl e) =
            omega (
              arith,
              at_is,
              step_first p (w.nodes a).pass (suc (w.nodes a).dim) e,
              step_first p (w.nodes a).pass (w.nodes a).dim e,
            )
        up (inr e) =
            omega (
              arith,
              at_is,
              step_second p (w.nodes a).pass (suc (w.nodes a).dim) e,
              step_second p (w.nodes a).pass (w.nodes a).dim e,
            )

        not_last : ((w.nodes a).pass ≡ 1) ⊎ ((w.nodes a).pass ≡ 2) → suc (state_of ledger a).step ≡ p → ⊥
        not_last (inl e) z = omega (arith, at_is, step_first p (w.nodes a).pass (w.nodes a).dim e, d')
        not_last (inr e) z = omega (arith, at_is, step_second p (w.nodes a).pass (w.nodes a).dim e)

        lower : ((w.nodes a).pass ≡ 1) ⊎ ((w.nodes a).pass ≡ 2) → suc (state_of ledger a).step < p + p
        lower (inl e) = omega (arith, at_is, step_first p (w.nodes a).pass (w.nodes a).dim e, d')
        lower (inr e) = omega (arith, at_is, step_second p (w.nodes a).pass (w.nodes a).dim e, d')
    call_next len q (CallWay.second v b m z g d e) =
        turns_still play (calls a len) a h (at_step (state_of ledger a) (suc (state_of ledger a).step) true t)
        (at (w.nodes a) 2 0 true t) refl refl
        (act_move reached a t h (rest_of play a h b) (mute_of play a h m) (agree_of play a h g)
        (λ z. absurd (omega (arith, at_is, (hold play a h).low)))
        (λ z. total_is) (omega (arith, at_is, d', dim_pos setting)))
        (hold_at play a h 2 0 (suc (state_of ledger a).step) true t (inr refl) (dim_pos setting)
        (omega (arith, at_is, d')))
        w.busy (sim.busy a h) (λ y z. refl)
      where
        t : ℕ
        t = own (w.nodes a) (dims (w.nodes a)) all_taken

        d' : suc (w.nodes a).dim ≡ p
        d' = omega (arith, dims_is play a h, (hold play a h).low, d)

        at_is : (state_of ledger a).step ≡ (w.nodes a).dim
        at_is = sym (hold play a h).like.step ∙ step_first p (w.nodes a).pass (w.nodes a).dim e

        total_is : own (w.nodes a) (dims (w.nodes a)) all_taken ≡ own_sums (state_of ledger a).tallies
            (state_of ledger a).stored p taken_all
        total_is =
            ap (λ q. own (w.nodes a) q all_taken) (dims_is play a h)
            ∙ own_is p (w.nodes a) p (omega arith) taken_all
            ∙ own_like p (view p (w.nodes a)) (state_of ledger a) (hold play a h).like p
            (omega arith) taken_all tt
    call_next len q (CallWay.leaves v b m z g d e) =
        leave_next play a h len b m g (omega (arith, dims_is play a h, (hold play a h).low, d))
        (two (hold play a h).pass)
      where
        two : ((w.nodes a).pass ≡ 1) ⊎ ((w.nodes a).pass ≡ 2) → (w.nodes a).pass ≡ 2
        two (inl z) = absurd (e z)
        two (inr z) = z
    call_next len q (CallWay.single v b d) = absurd (omega (arith, dims_is play a h, dim_pos setting))
