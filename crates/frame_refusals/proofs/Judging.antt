-- What is said of a frame, test by test.
use mathlib.Core.Path.{◌≡◌, refl, sym, ap, ◌∙◌}
use mathlib.Core.Logic.{◌≢◌, ◌⊎◌, inl, inr}
use mathlib.Core.Bool.{true, false, not}
use mathlib.Core.List.{List}
use Prim.Native.Nat.{ℕ, ◌≤◌}
use native.Mathlib.Omega.{arith}
use lib.Dec.{eqb}
use lib.ListN.{length, get_or}
use borrow.Author.Tests.{eqb-true, eqb-false, eq-eqb, ne_eqb, not-true, not-false}
use Rattle.base.specs.Limits.{Limits}
use Rattle.base.specs.Refusal.{Answered, refused, found, in_order}
use Rattle.base.proofs.Laws.{cases, Stops, here, later, order_passes, order_stops}
use Rattle.frame.specs.Frame.{read_frame, answer_of}
use Rattle.frame.specs.Timing.{timing}
use Rattle.frame.specs.declared.Frame.{Frame}
use Rattle.frame.specs.declared.Timing.{Timing}
use Rattle.frame.proofs.Answers.{answer_refused, answer_done}
use Rattle.frame.proofs.RoundTripAccepted.{size, read_known, size_first, size_second}
use Rattle.node.specs.Answers.{Outcome, refused as barred}
use Rattle.frame_refusals.specs.Judged.{by_time, once_read, awaits_sender, sender_tests, judged}

-- the head of bytes that the reader takes is there
pub head_there : (L : Limits) (nodes : ℕ) (bs : List ℕ) → answer_of (read_frame L nodes bs) ≡ found tt → 4 ≤ length bs
head_there L nodes bs a =
    let r = answer_done (read_frame L nodes bs) a in
    let k = read_known L nodes bs r.0 r.1 in
    go r.0 k.count k.accepted.pass
  where
    go : (f : Frame) → length bs ≡ size nodes f → (f.pass ≡ 1) ⊎ (f.pass ≡ 2) → 4 ≤ length bs
    go f l (inl e) = omega (arith, size_first nodes f e)
    go f l (inr e) = omega (arith, size_second nodes f e)

module _ (L : Limits) (nodes number phase : ℕ) (bs : List ℕ) where
  -- what is said of bytes that are read
  abbrev rest : Outcome
  rest = in_order barred (sender_tests L nodes number bs) (by_time (timing (get_or bs 1 0) phase))

  pub judged_unread : (x : ℕ) → answer_of (read_frame L nodes bs) ≡ refused x → barred x ≡ judged L nodes number phase bs
  unfolding judged
  judged_unread x a = sym (ap (λ o. once_read o rest) (answer_refused _ x a))

  module _ (a : answer_of (read_frame L nodes bs) ≡ found tt) where
    read : judged L nodes number phase bs ≡ rest
    unfolding judged
    read = ap (λ o. once_read o rest) (answer_done _ a).1

    stopped : {x : ℕ} → Stops (sender_tests L nodes number bs) x → barred x ≡ judged L nodes number phase bs
    stopped s = sym (read ∙ order_stops barred _ s)

    pub judged_own : get_or bs 3 0 ≡ number → barred 3 ≡ judged L nodes number phase bs
    judged_own e = stopped (here (eq-eqb _ _ e))

    module _ (e : get_or bs 3 0 ≢ number) where
      pub judged_unawaited : awaits_sender L nodes number bs ≡ false → barred 11 ≡ judged L nodes number phase bs
      judged_unawaited h = stopped (later (ne_eqb _ _ e) (here (ap not h)))

      pub judged_timed : awaits_sender L nodes number bs ≡ true → (t : Timing) → timing (get_or bs 1 0) phase ≡ t
          → by_time t ≡ judged L nodes number phase bs
      judged_timed h t z =
          sym
          (read
          ∙ order_passes barred (sender_tests L nodes number bs) _ (ne_eqb _ _ e, (ap not h, tt))
          ∙ ap by_time z)

  -- a fact of what is said, by the test that decides it
  pub judged_cases : (F : Outcome → Type 0)
      → ((x : ℕ) → answer_of (read_frame L nodes bs) ≡ refused x → F (barred x))
      → (answer_of (read_frame L nodes bs) ≡ found tt → get_or bs 3 0 ≡ number → F (barred 3))
      → (answer_of (read_frame L nodes bs) ≡ found tt → get_or bs 3 0 ≢ number → awaits_sender L nodes number bs ≡ false
      → F (barred 11))
      → (answer_of (read_frame L nodes bs) ≡ found tt → get_or bs 3 0 ≢ number → awaits_sender L nodes number bs ≡ true
      → F (by_time (timing (get_or bs 1 0) phase)))
      → F (judged L nodes number phase bs)
  unfolding judged
  judged_cases F unread own unawaited timed = go (read_frame L nodes bs) refl
    where
      go : (r : Answered Frame) → read_frame L nodes bs ≡ r → F (once_read r rest)
      go (refused x) e = unread x (ap answer_of e)
      go (found f) e =
          let a = ap answer_of e in
          cases F (eqb (get_or bs 3 0) number) _ _ (λ e. own a (eqb-true _ _ e))
          (λ e.
          cases F (not (awaits_sender L nodes number bs)) _ _ (λ h. unawaited a (eqb-false _ _ e) (not-true _ h))
          (λ h. timed a (eqb-false _ _ e) (not-false _ h)))
