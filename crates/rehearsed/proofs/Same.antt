-- The rehearsal's board and lent memory hold what the board of a run does, and what each change of the one has to be in
-- the other.
use mathlib.Core.Path.{◌≡◌, refl, sym, ap, ◌∙◌, subst}
use mathlib.Core.List.{List, [], ◌∷◌, ◌++◌}
use Prim.Native.Nat.{ℕ, suc, ◌+◌, ◌*◌, ◌≤◌, ◌<◌}
use native.Mathlib.Omega.{arith}
use lib.Dec.{eqb}
use lib.ListN.{length, get_or, set}
use lib.Seq.{get_or-set_same, get_or-set_other}
use Rattle.base.specs.Choice.{choose}
use Rattle.base.specs.Limits.{width}
use Rattle.base.specs.declared.Kind.TheVariants.{Job, Note}
use Rattle.base.specs.declared.Kind.{Kind}
use Rattle.tree.specs.Tree.{dimension}
use Rattle.node.specs.declared.Node.{Node}
use Rattle.events.specs.Board.{put, Load, work, frame, Item, Board, without}
use Rattle.events.proofs.Tools.{put_all}
use Rattle.items.specs.Places.{mark, no_item}
use Rattle.item_changes.specs.Places.{removed}
use Rattle.items.specs.declared.Item.{Item as Header}
use Rattle.states.specs.Words.{no_state}
use Rattle.states.specs.declared.State.{State}
use Rattle.under_way.specs.Frames.{place_size, room_for, closed, frame_held}
use Rattle.board_states.specs.States.{state_at, changed}
use Rattle.board_states.specs.declared.Stage.{Stage}
use Rattle.rehearsed.proofs.States.{Bears}
use Rattle.rehearsed.proofs.Links.{place_in, Stand, stand_more, stand_less}
use Rattle.rehearsed.proofs.Memory.{header_before, header_after}
use Rattle.rehearsed.proofs.Memory.{held_closed_before, held_closed_after}

-- what an item is, by its header: a job or a note with its phase byte, or the frame held at its place
abbrev pub load_of : Header → List ℕ → Load
load_of it held =
    choose (eqb it.kind (mark Job)) (work Job it.phase)
    (choose (eqb it.kind (mark Note)) (work Note it.phase) (frame held))

abbrev pub load_at : ℕ → List Header → List ℕ → ℕ → Load
load_at P items bytes j = load_of (get_or items j no_item) (frame_held P bytes j)

-- an item with the mark of a job or a note is one
pub mark_load : (kind : Kind) (from to phase : ℕ) (held : List ℕ)
    → load_of (record { from = from; to = to; kind = mark kind; phase = phase }) held ≡ work kind phase
mark_load Job from to phase held = refl
mark_load Note from to phase held = refl

pub record Stands (P : ℕ) (items : List Header) (bytes : List ℕ) (j : ℕ) (m : Item) : Type 0 where
  pub from : (get_or items j no_item).from ≡ m.from
  pub to : (get_or items j no_item).to ≡ m.to
  pub load : load_at P items bytes j ≡ m.load

pub record Same (P : ℕ) (st : Stage) (items : List Header) (bytes : List ℕ) (w : Board) : Type 0 where
  pub size : st.size ≡ P
  pub array : length st.states ≡ 16
  pub nodes : (a : ℕ) → a < P → Bears (state_at st a) (w.nodes a)
  pub under : length w.items ≡ st.under
  pub lent : st.under ≤ room_for (length items) bytes
  pub stand : Stand (Stands P items bytes) 0 w.items

-- ---- a node has given back a state

module _ (P : ℕ) (few : P ≤ 16) (st : Stage) (f : ℕ → Node) (array : length st.states ≡ 16)
    (same : (a : ℕ) → a < P → Bears (state_at st a) (f a)) (a : ℕ) (h : a < P) where
  pub nodes_changed : (x : State) (n : Node) → Bears x n → (under b : ℕ) → b < P
      → Bears (state_at (changed st a x under) b) (put f a n b)
  nodes_changed x n now under =
      put_all (λ b m. b < P → Bears (state_at (changed st a x under) b) m) f a n
      (λ l. subst (λ y. Bears y n) (sym (get_or-set_same st.states a x no_state (omega arith))) now)
      (λ b z l. subst (λ y. Bears y (f b)) (sym (get_or-set_other st.states a b x no_state z)) (same b l))

  pub nodes_kept : (b : ℕ) → b < P → Bears (state_at st b) (put f a (f a) b)
  nodes_kept = put_all (λ b m. b < P → Bears (state_at st b) m) f a (f a) (same a) (λ b z l. same b l)

-- ---- the lent memory

pub stands_as : {P : ℕ} {items : List Header} {bytes : List ℕ} {i : ℕ} (now : List Header) (then : List ℕ) (j : ℕ)
    {m : Item} → get_or now j no_item ≡ get_or items i no_item → frame_held P then j ≡ frame_held P bytes i
    → Stands P items bytes i m → Stands P now then j m
stands_as {P} {items} {bytes} {i} now then j {m} e f s =
    record {
      from = ap (λ x. x.from) e ∙ s.from;
      to = ap (λ x. x.to) e ∙ s.to;
      load =
          (λ t. load_of (e t) (f t)) ∙ s.load;
    }

-- an item is put after the last; its frame, if it has one, is written at its place
pub stand_put : (P : ℕ) (items : List Header) (bytes then : List ℕ) (ms : List Item) (x : Header) (m : Item) (i : ℕ)
    → length ms ≡ i → i < length items → ((j : ℕ) → j < i → frame_held P then j ≡ frame_held P bytes j)
    → x.from ≡ m.from → x.to ≡ m.to
    → load_of x (frame_held P then i) ≡ m.load
    → Stand (Stands P items bytes) 0 ms → Stand (Stands P (set items i x) then) 0 (ms ++ m ∷ [])
stand_put P items bytes then ms x m i len room held from to load s =
    let now = set items i x in
    let e : i ≡ 0 + length ms = omega arith in
    stand_more (Stands P items bytes) (Stands P now then) 0 ms m
    (λ j y h. stands_as now then j (get_or-set_other items i j x no_item (λ z. omega arith)) (held j (omega arith)))
    (subst (λ k. Stands P now then k m) e last) s
  where
    here : get_or (set items i x) i no_item ≡ x
    here = get_or-set_same items i x no_item room

    last : Stands P (set items i x) then i m
    last =
        record {
          from = ap (λ y. y.from) here ∙ from;
          to = ap (λ y. y.to) here ∙ to;
          load = (λ t. load_of (here t) (frame_held P then i)) ∙ load;
        }

-- the oldest item of a link goes
pub stand_off : (P : ℕ) → dimension P ≤ width → (items : List Header) (bytes : List ℕ) (ms : List Item) (n a b : ℕ)
    → length ms ≡ n → n ≤ length items → place_size * n ≤ length bytes → place_in a b ms < n
    → Stand (Stands P items bytes) 0 ms
    → Stand (Stands P (removed items n (place_in a b ms)) (closed bytes n (place_in a b ms))) 0 (without a b ms)
stand_off P dim items bytes ms n a b len room lent there s =
    let at = place_in a b ms in
    let now = removed items n at in
    let then = closed bytes n at in
    stand_less (Stands P items bytes) (Stands P now then) a b 0 ms
    (λ j m h.
    stands_as now then j (header_before items n at j (omega arith))
    (held_closed_before P dim bytes n at j (omega arith) there lent))
    (λ j m h l.
    let e : j + 1 ≡ suc j = omega arith in
    stands_as now then j
    (header_after items n at j room (omega arith) (omega arith) ∙ ap (λ k. get_or items k no_item) e)
    (held_closed_after P dim bytes n at j (omega arith) (omega arith) lent ∙ ap (frame_held P bytes) e)) s
