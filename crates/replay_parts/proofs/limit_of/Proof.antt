-- `limit_of` is `limit_of`: the answer recorded is the event's last byte.
use borrow.Author.Rules.{rules}
use borrow.Author.Tests.{eq-eqb, ne_eqb}
use mathlib.Core.Path.{◌≡◌, sym, ◌∙◌}
use native.Mathlib.Omega.{arith}
use Rattle.recording.specs.Recording.{recording_in}
use Rattle.replay_parts.specs.Events.{answer_of, limit_of}
use Rattle.replay_parts.proofs.Places.{event_at}
use Rattle.replay_parts.proofs.limit_of.Statement.{statement}
use Rattle.replay_parts.proofs.limit_of.Tie as tie

add-byte-at : tie.Need-overflow_add-place_of
add-byte-at c = omega (arith, c.shared_slice_known-1.given 1)

-- the byte that is compared is the recorded answer
recorded : (c : tie.After-byte_at-recorded)
    → let x = c.args in c.byte_at-recorded.result ≡ answer_of (recording_in x.recording.now) x.i
unfolding answer_of
recorded c = c.byte_at-recorded.ensures ∙ event_at _ _ 3 _ (omega arith)

returns : tie.Need-returns-then-answer-recorded
unfolding limit_of
returns c = rw (eq-eqb _ _ (c.if-answer-recorded.true ∙ recorded c.before))

returns_2 : tie.Need-returns
unfolding limit_of
returns_2 c = rw (ne_eqb _ _ (λ e. c.if-answer-recorded.false (e ∙ sym (recorded c.before))))

pub limit_of_spec : {M : Type 1} → statement M
limit_of_spec =
    tie.close
    (tie.spec (λ c κs. search rules) add-byte-at (λ c κs. search rules) (λ c. search rules) returns returns_2)
