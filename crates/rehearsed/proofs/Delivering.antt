-- The turn of a delivery follows its event.
use mathlib.Core.Path.{◌≡◌, refl, sym, ap, ◌∙◌, subst}
use mathlib.Core.Logic.{◌≢◌}
use mathlib.Core.Option.{Option, some}
use mathlib.Core.List.{List}
use Prim.Native.Nat.{ℕ, ◌+◌, ◌-◌, ◌≤◌, ◌<◌}
use native.Mathlib.Omega.{arith}
use lib.Dec.{eqb}
use lib.ListN.{length, get_or}
use borrow.Author.Tests.{eq-eqb, ne_eqb}
use Rattle.base.specs.Choice.{choose}
use Rattle.base.specs.Limits.{base, width}
use Rattle.base.specs.declared.Kind.TheVariants.{Job, Note}
use Rattle.base.specs.declared.Kind.{Kind}
use Rattle.base.proofs.Laws.{choose_yes, choose_no, cases}
use Rattle.tree.proofs.Dimension.{smallest}
use Rattle.node.specs.Answers.{Given, Outcome, outcome_number}
use Rattle.node.specs.Calls.{take, frame_in}
use Rattle.node.specs.declared.Node.{Node}
use Rattle.node.proofs.Ways.{TakeWay, take_way, FrameWay, frame_way}
use Rattle.events.specs.Board.{put, Load, work, frame, Item, Board, delivers, gave, oldest, without, after_take}
use Rattle.events.specs.Board.{after_frame, off_unless_early}
use Rattle.events.specs.Board.{delivered, delivered_oldest, step}
use Rattle.runs.specs.Facts.{Facts}
use Rattle.runs.specs.Printed.{line, load_answer, delivery_answer, printed}
use Rattle.items.specs.Places.{mark, no_item, place_from, oldest_at}
use Rattle.item_changes.specs.Places.{removed}
use Rattle.items.specs.declared.Item.{Item as Header}
use Rattle.state_calls.specs.On.{Kept, on_state}
use Rattle.under_way.specs.Frames.{closed, frame_held}
use Rattle.board_states.specs.States.{state_at}
use Rattle.board_states.specs.declared.Stage.{Stage}
use Rattle.turns.specs.Events.{Turn, unchanged, called, delivered_at, deliver_turn}
use Rattle.turns.proofs.Turning.{length_moved}
use Rattle.rehearsed.proofs.States.{Bears, Makes, take_makes, frame_makes}
use Rattle.rehearsed.proofs.Links.{place_in, Stand, length_less, Found, found, place_found}
use Rattle.rehearsed.proofs.Memory.{length_closed}
use Rattle.rehearsed.proofs.Same.{Stands, Same, stand_off}
use Rattle.rehearsed.proofs.Follows.{Follows, Roomy, roomy, refused_follows, changes_follow}

module _ {P : ℕ} {st : Stage} {items : List Header} {bytes : List ℕ} {w : Board} (few : P ≤ 16)
    (s : Same P st items bytes w) (facts : Facts base P w) (a b : ℕ) (h : b < P) where
  bears : Bears (state_at st b) (w.nodes b)
  bears = s.nodes b h

  abbrev k : ℕ
  k = place_in a b w.items

  abbrev Shows : Board → ℕ → Turn → Type 0
  Shows next x = Follows P w next (line b x (next.nodes b))

  -- the item found at the place k
  module _ (m : Item) (first : oldest a b w.items ≡ some m) (there : k < st.under) where
    -- it goes
    off_follows : (r : Kept Outcome) (n : Node) → Bears r.state n → (x : ℕ) (next : Board) → x ≢ 7 → x ≢ 15
        → next.nodes ≡ put w.nodes b n → next.items ≡ without a b w.items
        → Shows next x (delivered_at st items bytes b k r x)
    off_follows r n now-bears x next early full e i =
        subst (Shows next x) (sym (choose_no _ _ (ne_eqb x 7 early)))
        (changes_follow few s b h r.state n now-bears (st.under - 1) x now then next full e
        (ap length i ∙ omega (arith, length_less a b w.items (omega (arith, s.under)), s.under))
        (omega (arith, s.lent, headers, wide))
        (subst (Stand (Stands P now then) 0) (sym i)
        (stand_off P (smallest P width (omega arith)) items bytes w.items st.under a b s.under room.headed
        room.lent there s.stand)))
      where
        room : Roomy st.under (length items) bytes
        room = roomy st.under (length items) bytes s.lent

        now : List Header
        now = removed items st.under k

        then : List ℕ
        then = closed bytes st.under k

        headers : length now ≡ length items
        headers = length_moved items k (st.under - (k + 1))

        wide : length then ≡ length bytes
        wide = length_closed bytes st.under k there room.lent

    -- it is early, and stays
    early_follows : (r : Kept Outcome) (x : ℕ) → x ≡ 7
        → Shows (off_unless_early (gave w b (w.nodes b)) a b x) x (delivered_at st items bytes b k r x)
    early_follows r x e =
        subst (λ x. Shows (off_unless_early (gave w b (w.nodes b)) a b x) x (delivered_at st items bytes b k r x))
        (sym e) (refused_follows few s b h 7)

    take_follows : (kind : Kind) (byte : ℕ) → m.load ≡ work kind byte → {g : Given Outcome}
        → TakeWay base (w.nodes b) kind a byte g
        → take base (w.nodes b) kind a byte ≡ g → (r : Kept Outcome) → Bears r.state g.node
        → let next = after_take (gave w b g.node) a b m kind g.answer in
        Shows next (outcome_number g.answer) (delivered_at st items bytes b k r (outcome_number g.answer))
    take_follows kind byte l (TakeWay.refused x z) e r now =
        early_follows r x (facts.take_early a b m kind byte x first l (ap (λ g. g.answer) e))
    take_follows kind byte l (TakeWay.done v q o d z) e r now =
        off_follows r _ now 0 _ (λ z. omega arith) (λ z. omega arith) refl refl

    frame_follows : (bs : List ℕ) → m.load ≡ frame bs → {g : Given Outcome} → FrameWay base (w.nodes b) bs g
        → frame_in base (w.nodes b) bs ≡ g → (r : Kept Outcome) → Bears r.state g.node
        → let next = after_frame (gave w b g.node) a b g.answer in
        Shows next (outcome_number g.answer) (delivered_at st items bytes b k r (outcome_number g.answer))
    frame_follows bs l (FrameWay.refused x z) e r now =
        early_follows r x (facts.frame_early a b m bs x first l (ap (λ g. g.answer) e))
    frame_follows bs l (FrameWay.early c d) e r now = early_follows r 7 refl
    frame_follows bs l (FrameWay.foreign c d u v) e r now =
        early_follows r 8 (facts.frame_early a b m bs 8 first l (ap (λ g. g.answer) e))
    frame_follows bs l (FrameWay.late c d) e r now =
        off_follows r _ now 24 _ (λ z. omega arith) (λ z. omega arith) refl refl
    frame_follows bs l (FrameWay.done c d) e r now =
        off_follows r _ now 0 _ (λ z. omega arith) (λ z. omega arith) refl refl

    -- with the call that its kind stands for
    abbrev head : Header
    head = get_or items k no_item

    abbrev Answered : Kept Outcome → Type 0
    Answered r =
        Shows (delivered base P w a b m m.load) (load_answer w a b m.load)
        (delivered_at st items bytes b k r (outcome_number r.answer))

    load_follows : Stands P items bytes k m → Answered (called st items bytes a b k)
    load_follows i =
        cases Answered (eqb head.kind (mark Job)) _ _ (λ t. by_kind Job (sym i.load ∙ choose_yes _ _ t))
        (λ t.
        cases Answered (eqb head.kind (mark Note)) _ _
        (λ u. by_kind Note (sym i.load ∙ choose_no _ _ t ∙ choose_yes _ _ u))
        (λ u.
        let l = sym i.load ∙ choose_no _ _ t ∙ choose_no _ _ u in
        by_load (frame bs) l got (frame_follows bs l (frame_way base (w.nodes b) bs) refl)))
      where
        bs : List ℕ
        bs = frame_held P bytes k

        by_load : (l : Load) → m.load ≡ l → {r : Kept Outcome} {g : Given Outcome} → Makes r g
            → ((r : Kept Outcome) → Bears r.state g.node
            → Shows (delivered base P w a b m l) (load_answer w a b l)
            (delivered_at st items bytes b k r (outcome_number g.answer)))
            → Shows (delivered base P w a b m m.load) (load_answer w a b m.load)
            (delivered_at st items bytes b k r (outcome_number r.answer))
        by_load l e {r} made f =
            let Then : Load → Outcome → Type 0 =
            λ l o. Shows (delivered base P w a b m l) (load_answer w a b l)
            (delivered_at st items bytes b k r (outcome_number o)) in
            subst (λ l. Then l r.answer) (sym e) (subst (Then l) (sym made.answer) (f r made.state))

        by_kind : (kind : Kind) → m.load ≡ work kind head.phase
            → Answered (on_state (λ n. take base n kind a head.phase) (state_at st b))
        by_kind kind l =
            by_load (work kind head.phase) l (take_makes (state_at st b) (w.nodes b) bears kind a head.phase)
            (take_follows kind head.phase l (take_way base (w.nodes b) kind a head.phase) refl)

        got : Makes (on_state (λ n. frame_in base n (frame_held st.size bytes k)) (state_at st b))
            (frame_in base (w.nodes b) bs)
        got =
            let held = frame_held st.size bytes k in
            subst
            (λ p. Makes (on_state (λ n. frame_in base n held) (state_at st b))
            (frame_in base (w.nodes b) (frame_held p bytes k)))
            s.size (frame_makes (state_at st b) (w.nodes b) bears held)

  turn_at : ℕ → Turn
  turn_at at =
      let r = called st items bytes a b at in
      choose (eqb at st.under) (unchanged st items bytes b 16)
      (delivered_at st items bytes b at r (outcome_number r.answer))

  place_is : oldest_at items st.under a b ≡ k
  place_is =
      ap (place_from items a b 0) (sym s.under)
      ∙ place_found a b items (Stands P items bytes) (λ j m r. (r.from, r.to)) 0 w.items s.stand
      ∙ omega arith

  found_follows : {o : Option Item} → oldest a b w.items ≡ o → Found a b (Stands P items bytes) 0 w.items o
      → Shows (delivered_oldest base P w a b o) (delivery_answer w a b o) (turn_at k)
  unfolding turn_at
  found_follows e (Found.nothing z) =
      subst (Shows w 16) (sym (choose_yes _ _ (eq-eqb k st.under (z ∙ s.under))))
      (Follows.on (λ z. omega arith) s (ap (line b 16) bears.node))
  found_follows e (Found.there m l i) =
      let there : k < st.under = omega (arith, s.under) in
      let z : 0 + k ≡ k = omega arith in
      subst (Shows (delivered base P w a b m m.load) (load_answer w a b m.load))
      (sym (choose_no _ _ (ne_eqb k st.under (λ y. omega arith))))
      (load_follows m e there (subst (λ j. Stands P items bytes j m) z i))

  pub deliver_follows : Follows P w (step base P w (delivers a b)) (printed P w (delivers a b))
      (deliver_turn st items bytes a b)
  unfolding step deliver_turn turn_at
  deliver_follows =
      subst (Follows P w (step base P w (delivers a b)) (printed P w (delivers a b))) (ap turn_at (sym place_is))
      (found_follows refl (found a b (Stands P items bytes) 0 w.items s.stand))
