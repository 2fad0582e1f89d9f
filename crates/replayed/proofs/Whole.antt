-- A replay that ends well is a run, and its events are those of the recording (rule K8).
use mathlib.Core.Path.{◌≡◌, refl, ap, ◌∙◌}
use mathlib.Core.Bool.{Bool, true, false}
use mathlib.Core.List.{List, [], ◌∷◌, map}
use Prim.Native.Nat.{ℕ, zero, suc, ◌+◌, ◌≤◌}
use native.Mathlib.Numerals.{add-one}
use native.Mathlib.Omega.{arith}
use lib.Dec.{ltb, eqb}
use borrow.Author.Tests.{ltb-false, eqb-true}
use Rattle.base.specs.Choice.{choose, list}
use Rattle.base.proofs.Laws.{cases, choose_no}
use Rattle.events.specs.Board.{Board}
use Rattle.items.specs.declared.Item.{Item}
use Rattle.board_states.specs.States.{opening}
use Rattle.board_states.specs.declared.Stage.{Stage}
use Rattle.turns.specs.Events.{turn_of}
use Rattle.rehearsed.specs.Run.{Told, told_of}
use Rattle.rehearsed.proofs.Same.{Same}
use Rattle.line_forms.proofs.Named.{is_event}
use Rattle.replay_parts.proofs.Good.{event_good}
use Rattle.rehearsed.proofs.Events.{Ran, Prints, plays, prints_one, is_run_lem}
use Rattle.recording.specs.Recording.{Recording, event_count, recording_in}
use Rattle.recording.specs.Test.{is_bad_in}
use Rattle.recording.proofs.Sizes.{Sized, sized}
use Rattle.recording.proofs.Survives.{survives}
use Rattle.replay_parts.specs.Events.{line_of, answer_of}
use Rattle.replay_ends.specs.declared.Replayed.{Replayed}
use Rattle.replays.specs.Replay.{course, replay_from, replay, replay_answer}
use Rattle.replayed.specs.Run.{Recorded, EveryReplay}

-- ---- the events, whether or not they answer as recorded

-- a line and its answer: as played, and as recorded
abbrev said : Told → Recorded
said t = record { line = t.line; answer = t.answer }

abbrev recorded_at : Recording → ℕ → Recorded
recorded_at r i = record { line = line_of r i; answer = answer_of r i }

module _ (r : Recording) where
  abbrev told_by : ℕ → ℕ → Stage → List Item → List ℕ → List Told
  told_by zero i st items bytes = []
  told_by (suc more) i st items bytes =
      let t = turn_of st items bytes (line_of r i) in
      told_of (line_of r i) t ∷ told_by more (i + 1) t.stage t.items t.bytes

  prints : Sized r → (more i : ℕ) → i + more ≤ event_count r → (st : Stage) (items : List Item) (bytes : List ℕ)
      (w : Board) → Same r.nodes st items bytes w → Ran r.nodes w
      → Prints r.nodes w (told_by more i st items bytes)
  prints g zero i h st items bytes w s ran = refl
  prints g (suc more) i h st items bytes w s ran =
      let l = line_of r i in
      let t = turn_of st items bytes l in
      prints_one r.nodes g.board g.nodes w l t (told_by more (i + 1) t.stage t.items t.bytes) ran
      (plays r.nodes g.board g.nodes st items bytes w s ran l
      (ap (λ size. is_event size l) s.size ∙ event_good r g i (omega arith)))
      (prints g more (i + 1) (omega arith) t.stage t.items t.bytes)

  -- played to the end, they have answered as recorded
  answered : (more i : ℕ) (st : Stage) (items : List Item) (bytes : List ℕ)
      → i + more ≤ (replay_from r more i st items bytes).same
      → map said (told_by more i st items bytes) ≡ list i more (recorded_at r)
  unfolding replay_from
  answered zero i st items bytes h = refl
  answered (suc more) i st items bytes h =
      let t = turn_of st items bytes (line_of r i) in
      cases
      (λ c. i + suc more ≤ c.same → map said (told_by (suc more) i st items bytes) ≡ list i (suc more) (recorded_at r))
      (eqb t.answer (answer_of r i)) (replay_from r more (i + 1) t.stage t.items t.bytes) _
      (λ e l.
      let rest =
      answered more (i + 1) t.stage t.items t.bytes (omega arith)
      ∙ ap (λ j. list j more (recorded_at r)) (add-one i) in
      let this = eqb-true t.answer (answer_of r i) e in
      λ k. record { line = line_of r i; answer = this k } ∷ rest k) (λ e l. absurd (omega arith)) h

-- ---- every recording

-- how it has ended
ended : (bad late : Bool) (x y z : Replayed) → x.why ≡ 18 → y.why ≡ 19 → (choose bad x (choose late y z)).why ≡ 0
    → (bad ≡ false) × (late ≡ false)
ended true late x y z a b e = absurd (omega arith)
ended false true x y z a b e = absurd (omega arith)
ended false false x y z a b e = (refl, refl)

pub every_replay : EveryReplay
unfolding replay_answer replay
every_replay bs items bytes e =
    let r = recording_in bs in
    let n = event_count r in
    let st = opening r.nodes in
    let z = ended (is_bad_in bs) (ltb (replay bs items bytes).same n) _ _ _ refl refl e in
    let g = sized r (survives.read_good bs z.0) in
    let played = choose_no (course 0 items bytes) (replay_from r n 0 st items bytes) z.0 in
    record {
      told = told_by r n 0 st items bytes;
      same =
          answered r n 0 st items bytes
          (omega (arith, ltb-false (replay bs items bytes).same n z.1, ap (λ c. c.same) played));
      is_run =
          is_run_lem r.nodes g.board g.nodes items bytes (told_by r n 0 st items bytes)
          (prints r g n 0 (omega arith) st items bytes);
    }
