-- A step of the player is the event of its line, where the items under way are lent and the numbers of a delivery are
-- bytes.
use mathlib.Core.Path.{◌≡◌, refl, sym, ap, ◌∙◌}
use mathlib.Core.Bool.{true, false}
use mathlib.Core.List.{List}
use Prim.Native.Nat.{ℕ, ◌+◌, ◌-◌, ◌≤◌, ◌<◌, ◌%◌}
use native.Mathlib.Omega.{arith}
use lib.Dec.{ltb}
use lib.ListN.{length, get_or, set}
use borrow.Author.Tests.{ltb-true, le-ltb, ne_eqb}
use Rattle.base.specs.Choice.{either}
use Rattle.base.specs.Limits.{base}
use Rattle.base.proofs.Laws.{clash, both_true}
use Rattle.tree.specs.Lookups.{bad_board}
use Rattle.line_forms.specs.declared.Line.{Line}
use Rattle.line_forms.specs.declared.Line.TheVariants.{Nodes, Sends, Delivers, Idles, Calls, Bad}
use Rattle.line_forms.proofs.Named.{is_event}
use Rattle.items.specs.Places.{no_item, oldest_at, oldest_within}
use Rattle.item_changes.specs.Places.{removed_within, moved}
use Rattle.items.specs.declared.Item.{Item}
use Rattle.items.proofs.Lists.{oldest_within_lem}
use Rattle.item_changes.proofs.Lists.{set_past, removed_within_lem}
use Rattle.under_way.specs.Frames.{room_for}
use Rattle.turns.specs.Events.{Turn, unchanged, turn_of}
use Rattle.turns.specs.Acts.{acted, acted_bytes, acted_items}
use Rattle.turns.proofs.Turning.{seen, send_turns, idle_turns, call_turns, deliver_turns}
use Rattle.turns.proofs.Keeping.{line_keeps}
use Rattle.board_states.specs.declared.Stage.{Stage}
use Rattle.stage.specs.declared.Acted.{Acted}
use Rattle.lines.specs.Told.{stops}
use Rattle.line_step.specs.Steps.{oldest, stepped, stepped_bytes, stepped_items}

-- the link that a line delivers on is the one that it names
abbrev pub Near : Line → Type 0
Near (Nodes P) = Unit {0}
Near (Sends kind a b) = Unit {0}
Near (Delivers a b) = (a < base.nodes) × (b < base.nodes)
Near (Idles a) = Unit {0}
Near (Calls a) = Unit {0}
Near Bad = Unit {0}

pub near : (size : ℕ) → size ≤ base.nodes → (l : Line) → is_event size l ≡ true → Near l
near size h (Nodes P) e = tt
near size h (Sends kind a b) e = tt
near size h (Delivers a b) e =
    let k = both_true (ltb a size) (ltb b size) e in
    (omega (arith, ltb-true a size k.0), omega (arith, ltb-true b size k.1))
near size h (Idles a) e = tt
near size h (Calls a) e = tt
near size h Bad e = tt

-- what a step leaves, as a turn
abbrev pub turn_after : Stage → List Item → List ℕ → Line → Turn
turn_after st items bytes line =
    let r = stepped st items bytes line in
    record {
      stage = r.stage;
      items = stepped_items st.under r items;
      bytes = stepped_bytes st items bytes line;
      actor = r.actor;
      answer = r.answer;
    }

module _ (st : Stage) (items : List Item) (bytes : List ℕ) (within : st.under ≤ room_for (length items) bytes) where
  fits : st.under ≤ length items
  fits = omega (arith, within)

  -- the headers after a step are those of the event
  same_items : (r : Acted) → stepped_items st.under r items ≡ acted_items st.under r items
  unfolding stepped_items acted_items
  same_items r =
      ap (λ (l : List Item). set (set l r.at r.first) r.next r.second)
      (removed_within_lem items st.under r.gone fits)

  -- what a line does, with an item at a place
  abbrev done_at : Line → ℕ → Turn
  done_at line at =
      let it = get_or items at no_item in
      seen st.under items (acted st (length items) bytes line at it) (acted_bytes st (length items) bytes line at it)

  event_is : (line : Line) → turn_after st items bytes line ≡ done_at line (oldest st items bytes line)
  unfolding stepped stepped_bytes
  event_is line =
      ap
      (λ (l : List Item).
      record {
        stage = (stepped st items bytes line).stage;
        items = l;
        bytes = stepped_bytes st items bytes line;
        actor = (stepped st items bytes line).actor;
        answer = (stepped st items bytes line).answer;
      })
      (same_items (stepped st items bytes line))

  oldest_is : (a b : ℕ) → a < base.nodes → b < base.nodes → oldest st items bytes (Delivers a b) ≡ oldest_at items st.under a b
  oldest_is a b h k =
      let e : a % 256 ≡ a = omega (arith, h) in
      let f : b % 256 ≡ b = omega (arith, k) in
      (λ i. oldest_within items st.under (e i) (f i)) ∙ oldest_within_lem items st.under a b fits

  good_size : 0 < st.size → st.size ≤ 16 → bad_board base st.size ≡ false
  good_size h small =
      (λ i. either (ne_eqb st.size 0 (λ e. omega (arith, e, h)) i) (le-ltb base.nodes st.size (omega (arith, small)) i))

  -- no header goes, and none is put
  nothing_put : set (set (removed_within items st.under st.under) (length items) no_item) (length items) no_item ≡
      items
  unfolding moved
  nothing_put =
      let z : st.under - (st.under + 1) ≡ 0 = omega arith in
      ap (λ (l : List Item). set (set l (length items) no_item) (length items) no_item)
      (removed_within_lem items st.under st.under fits ∙ ap (moved items st.under) z)
      ∙ ap (λ (l : List Item). set l (length items) no_item) (set_past items (length items) no_item (omega arith))
      ∙ set_past items (length items) no_item (omega arith)

  -- a line that is no event changes nothing
  pub still : (l : Line) → stops l ≡ true → turn_after st items bytes l ≡ unchanged st items bytes 0 17
  unfolding stepped stepped_items stepped_bytes acted acted_bytes
  still (Nodes P) e = λ i. unchanged st (nothing_put i) bytes 0 17
  still (Sends kind a b) e = clash (sym e)
  still (Delivers a b) e = clash (sym e)
  still (Idles a) e = clash (sym e)
  still (Calls a) e = clash (sym e)
  still Bad e = λ i. unchanged st (nothing_put i) bytes 0 17

  pub step_turns : 0 < st.size → st.size ≤ 16 → (line : Line) → Near line
      → turn_after st items bytes line ≡ turn_of st items bytes line
  step_turns h small (Nodes P) near = still (Nodes P) refl
  step_turns h small (Sends kind a b) near = event_is (Sends kind a b) ∙ send_turns st items bytes kind a b _ _
  step_turns h small (Delivers a b) near =
      event_is (Delivers a b)
      ∙ ap (done_at (Delivers a b)) (oldest_is a b near.0 near.1)
      ∙ deliver_turns st items bytes within (good_size h small) a b
  step_turns h small (Idles a) near = event_is (Idles a) ∙ idle_turns st items bytes a _ _
  step_turns h small (Calls a) near = event_is (Calls a) ∙ call_turns st items bytes a _ _
  step_turns h small Bad near = still Bad refl

  -- the size stays, and what is under way stays lent where as much is lent as before
  pub step_keeps : (l : Line) (r : Acted) → r ≡ stepped st items bytes l → (zs : List Item) → length zs ≡ length items
      → (bs : List ℕ) → length bs ≡ length bytes
      → (r.stage.size ≡ st.size) × (r.stage.under ≤ room_for (length zs) bs)
  unfolding stepped
  step_keeps l r e zs same_items bs same_bytes =
      let k = line_keeps st (length items) bytes within l (oldest st items bytes l)
      (get_or items (oldest st items bytes l) no_item) in
      (ap (λ (x : Acted). x.stage.size) e ∙ k.size, rw (same_items, same_bytes, e) k.lent)
