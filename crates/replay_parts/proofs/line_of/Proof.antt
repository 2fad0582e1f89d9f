-- `line_of` is `line_of`: the letter and the numbers are the event's first three bytes.
use borrow.Author.Rules.{rules}
use mathlib.Core.Path.{◌∙◌}
use native.Mathlib.Omega.{arith}
use Rattle.replay_parts.specs.Events.{line_of}
use Rattle.replay_parts.proofs.Places.{event_at}
use Rattle.replay_parts.proofs.line_of.Statement.{statement}
use Rattle.replay_parts.proofs.line_of.Tie as tie

add-byte-at-2 : tie.Need-overflow_add-at-2
add-byte-at-2 c = omega (arith, c.shared_slice_known-1.given 1)

returns : tie.Need-returns
unfolding line_of
returns c =
    let b = c in
    let s = b in
    let f = s in
    let x = f.args in
    c.line_by.ensures
    ∙ rw (
      b.byte_at.ensures ∙ event_at x.recording.now x.i 0 _ (omega arith),
      f.byte_at-first.ensures ∙ event_at x.recording.now x.i 1 _ (omega arith),
      s.byte_at-second.ensures ∙ event_at x.recording.now x.i 2 _ (omega arith),
    )

pub line_of_spec : {M : Type 1} → statement M
line_of_spec =
    tie.close
    (tie.spec (λ c κs. search rules) (λ c. search rules) (λ c κs. search rules) add-byte-at-2 (λ c κs. search rules)
    (λ c κs. search rules) (λ c. search rules) (λ c. search rules) (λ c κs. search rules) returns)
