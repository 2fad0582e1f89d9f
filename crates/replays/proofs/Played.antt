-- A recording played again, event by event: what the loop of `play_again` keeps.
use mathlib.Core.Path.{◌≡◌, refl, sym, ap, subst, ◌∙◌}
use mathlib.Core.Bool.{Bool, true, false}
use mathlib.Core.List.{List}
use Prim.Native.Nat.{ℕ, suc, ◌+◌, ◌-◌, ◌≤◌, ◌<◌}
use native.Mathlib.Nat.{sub-zero}
use native.Mathlib.Omega.{arith}
use lib.Dec.{ltb, eqb}
use lib.ListN.{length}
use Rattle.base.specs.Choice.{choose}
use Rattle.base.proofs.Laws.{choose_yes, choose_no, cases}
use Rattle.line_forms.specs.declared.Line.{Line}
use Rattle.items.specs.declared.Item.{Item}
use Rattle.under_way.specs.Frames.{room_for}
use Rattle.board_states.specs.States.{opening}
use Rattle.board_states.specs.declared.Stage.{Stage}
use Rattle.stage.specs.declared.Acted.{Acted}
use Rattle.turns.specs.Events.{Turn, turn_of}
use Rattle.line_step.specs.Steps.{stepped, stepped_bytes, stepped_items}
use Rattle.line_turns.proofs.Turned.{near, turn_after, step_turns, step_keeps}
use Rattle.recording.specs.Recording.{Recording, event_count, recording_in}
use Rattle.recording.specs.Test.{is_bad, is_bad_in}
use Rattle.recording.proofs.Sizes.{Sized, sized}
use Rattle.recording.proofs.Survives.{survives}
use Rattle.replay_ends.specs.Ends.{start_of, end_of}
use Rattle.replay_parts.specs.Events.{line_of, answer_of, limit_of}
use Rattle.replay_parts.proofs.Good.{event_good}
use Rattle.replay_ends.specs.declared.Start.{Start}
use Rattle.replay_ends.specs.declared.Replayed.{Replayed}
use Rattle.replays.specs.Replay.{Course, course, replay_from, replay, replay_answer}

-- ---- The loop

module _ (recording : List ℕ) (items : List Item) (bytes : List ℕ) where
  abbrev r : Recording
  r = recording_in recording

  abbrev pub goal : Course
  goal = replay recording items bytes

  -- what holds while an event is to come: of all events the first i have been played, and each has answered as recorded
  record Live (i most : ℕ) (st : Stage) (zs : List Item) (bs : List ℕ) : Type 0 where
    good : is_bad r ≡ false
    all : most ≡ event_count r
    size : st.size ≡ r.nodes
    within : st.under ≤ room_for (length zs) bs
    rest : replay_from r (most - i) i st zs bs ≡ goal

  -- at the loop's head: zs and bs are lent memory
  pub record Inv (i most : ℕ) (st : Stage) (zs : List Item) (bs : List ℕ) : Type 0 where
    live : i < most → Live i most st zs bs
    pub over : most ≤ i → course most zs bs ≡ goal

  -- a recording has no more events than its bytes
  pub few : (i most : ℕ) (st : Stage) (zs : List Item) (bs : List ℕ) → Inv i most st zs bs → i < most → i < 60000
  few i most st zs bs inv below =
      let live = inv.live below in let room = (sized r live.good).room in omega (arith, live.all, room, below)

  -- never are more events to come than before
  pub limit_most : (i answer most : ℕ) → i ≤ most → limit_of r i answer most ≤ most
  unfolding limit_of
  limit_most i answer most h =
      cases (λ (n : ℕ). n ≤ most) (eqb answer (answer_of r i)) _ _ (λ e. omega arith) (λ e. h)

  -- none is left
  none_left : (most i : ℕ) (st : Stage) (zs : List Item) (bs : List ℕ) → i ≤ most
      → replay_from r (most - i) i st zs bs ≡ goal → most ≤ i → course most zs bs ≡ goal
  unfolding replay_from
  none_left most i st zs bs h e k =
      let z : most - i ≡ 0 = omega arith in
      let s : most ≡ i = omega arith in
      ap (λ (n : ℕ). course n zs bs) s ∙ (rw z at e)

  -- an event is played
  pub again : (i most : ℕ) (st : Stage) (zs : List Item) (bs : List ℕ) → Inv i most st zs bs → i < most
      → (line : Line) → line ≡ line_of r i → (a : Acted) → a ≡ stepped st zs bs line
      → (zs' : List Item) → length zs' ≡ length zs → zs' ≡ stepped_items st.under a zs
      → (bs' : List ℕ) → length bs' ≡ length bs → bs' ≡ stepped_bytes st zs bs line
      → (most' : ℕ) → most' ≡ limit_of r i a.answer most
      → Inv (i + 1) most' a.stage zs' bs'
  unfolding replay_from limit_of
  again i most st zs bs inv below line line-is a a-is zs' l-items zs-is bs' l-bytes bs-is most' most-is =
      go (eqb a.answer (answer_of r i)) (subst rests (sym came) (rw one at live.rest)) most-is
    where
      live : Live i most st zs bs
      live = inv.live below

      sizes : Sized r
      sizes = sized r live.good

      keeps : (a.stage.size ≡ st.size) × (a.stage.under ≤ room_for (length zs') bs')
      keeps = step_keeps st zs bs live.within line a a-is zs' l-items bs' l-bytes

      -- what the calls answered is the turn of the event
      came : record { stage = a.stage; items = zs'; bytes = bs'; actor = a.actor; answer = a.answer }
          ≡ turn_of st zs bs (line_of r i)
      came =
          let items-is = zs-is ∙ ap (λ (x : Acted). stepped_items st.under x zs) a-is in
          (λ k. record {
            stage = (a-is k).stage;
            items = items-is k;
            bytes = bs-is k;
            actor = (a-is k).actor;
            answer = (a-is k).answer;
          })
          ∙ ap (turn_after st zs bs) line-is
          ∙ step_turns st zs bs live.within (omega (arith, live.size, sizes.board))
          (omega (arith, live.size, sizes.nodes)) (line_of r i)
          (near r.nodes (omega (arith, sizes.nodes)) (line_of r i) (event_good r sizes i (omega (arith, live.all))))

      rests : Turn → Type 0
      rests t =
          choose (eqb t.answer (answer_of r i))
          (replay_from r (most - (i + 1)) (i + 1) t.stage t.items t.bytes) (course i t.items t.bytes)
          ≡ goal

      one : most - i ≡ suc (most - (i + 1))
      one = omega arith

      go : (b : Bool) → choose b (replay_from r (most - (i + 1)) (i + 1) a.stage zs' bs') (course i zs' bs') ≡ goal
          → most' ≡ choose b most i → Inv (i + 1) most' a.stage zs' bs'
      go true e m =
          record {
            live =
                λ h.
                record {
                  good = live.good;
                  all = m ∙ live.all;
                  size = keeps.0 ∙ live.size;
                  within = keeps.1;
                  rest = rw m e;
                };
            over = none_left most' (i + 1) a.stage zs' bs' (omega (arith, m)) (rw m e);
          }
      go false e m =
          record {
            live = λ h. absurd (omega (arith, m, h));
            over = λ h. rw m e;
          }

  -- the start
  pub start : (o : Start) → o ≡ start_of recording → Inv 0 o.events o.stage items bytes
  unfolding start_of replay
  start o o_is = subst Starts (sym o_is) (cases Starts (is_bad_in recording) _ _ refused good)
    where
      Starts : Start → Type 0
      Starts s = Inv 0 s.events s.stage items bytes

      refused : is_bad_in recording ≡ true → Inv 0 0 (opening 0) items bytes
      refused e =
          record {
            live = λ h. absurd (omega (arith, h));
            over = λ h. sym (choose_yes _ _ e);
          }

      good : is_bad_in recording ≡ false → Inv 0 (event_count r) (opening r.nodes) items bytes
      good e =
          let rest = ap (λ (n : ℕ). replay_from r n 0 (opening r.nodes) items bytes) (sub-zero (event_count r))
          ∙ sym (choose_no (course 0 items bytes) _ e) in
          record {
            live = λ h.
                record {
                  good = survives.read_good recording e;
                  all = refl;
                  size = refl;
                  within = omega arith;
                  rest = rest;
                };
            over = none_left (event_count r) 0 (opening r.nodes) items bytes (omega arith) rest;
          }

  -- the end
  pub finish : (i most : ℕ) (st : Stage) (zs : List Item) (bs : List ℕ) → Inv i most st zs bs → most ≤ i
      → (o : Start) → o ≡ start_of recording → (e : Replayed) → e ≡ end_of o.why o.events most
      → (e ≡ replay_answer recording items bytes) × ((zs ≡ goal.items) × (bs ≡ goal.bytes))
  unfolding start_of replay_answer
  finish i most st zs bs inv h o o_is e e-is = (
    e-is ∙ (λ k. end_of (o_is k).why (o_is k).events (c k).same) ∙ answers (is_bad_in recording),
    (ap (λ (x : Course). x.items) c, ap (λ (x : Course). x.bytes) c),
  )
    where
      c : course most zs bs ≡ goal
      c = inv.over h

      answers : (t : Bool)
          → let s : Start = choose t (record { stage = opening 0; events = 0; why = 18 })
          (record { stage = opening r.nodes; events = event_count r; why = 0 }) in
          end_of s.why s.events goal.same ≡ choose t (record { why = 18; at = 0 })
          (choose (ltb goal.same (event_count r)) (record { why = 19; at = goal.same })
          (record { why = 0; at = goal.same }))
      answers true = refl
      answers false = refl
