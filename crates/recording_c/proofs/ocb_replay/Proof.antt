-- `ocb_replay` answers `replay_answer`, and leaves what it says in all lent memory.
use borrow.Author.Rules.{rules}
use mathlib.Core.Path.{◌≡◌, ap, ◌∙◌}
use mathlib.Core.List.{List}
use Prim.Native.Nat.{ℕ}
use Rattle.replay_ends.specs.declared.Replayed.{Replayed}
use Rattle.recording_answers.specs.Words.{position_words}
use Rattle.recording_c.proofs.ocb_replay.Statement.{statement}
use Rattle.recording_c.proofs.ocb_replay.Tie as tie

ended : (a b : Replayed) (x : ℕ) (ws after : List ℕ) → a ≡ b → (x ≡ a.why) × (after ≡ position_words a ws)
    → (x ≡ b.why) × (after ≡ position_words b ws)
ended a b x ws after e t = (t.0 ∙ ap (λ z. z.why) e, t.1 ∙ ap (λ z. position_words z ws) e)

returns : tie.Need-returns
returns c =
    let p = c.replay_own.ensures in
    let t = ended _ _ _ _ _ p.0 c.answer_end.ensures in
    (t.0, (p.1, t.1))

pub ocb_replay_spec : {M : Type 1} → statement M
ocb_replay_spec = tie.close (tie.spec (λ c κs. search rules) (λ c κs. search rules) (λ c. search rules) returns)
