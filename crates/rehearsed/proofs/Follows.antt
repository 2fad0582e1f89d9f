-- A turn of a rehearsal follows an event of a board: it is answered 15 and changes nothing, or both change alike and
-- the line printed is the event's.
use mathlib.Core.Path.{◌≡◌, sym, ap, ◌∙◌, subst}
use mathlib.Core.Logic.{◌≢◌}
use mathlib.Core.List.{List}
use Prim.Native.Nat.{ℕ, ◌*◌, ◌≤◌, ◌<◌}
use native.Mathlib.Decide.{ℕ_discrete}
use native.Mathlib.Omega.{arith}
use lib.ListN.{length, length-set}
use Rattle.node.specs.declared.Node.{Node}
use Rattle.events.specs.Board.{put, Board, gave}
use Rattle.runs.specs.Printed.{line}
use Rattle.items.specs.declared.Item.{Item as Header}
use Rattle.states.specs.declared.State.{State}
use Rattle.under_way.specs.Frames.{place_size, room_for}
use Rattle.board_states.specs.States.{state_at, node_at, changed}
use Rattle.board_states.specs.declared.Stage.{Stage}
use Rattle.turns.specs.Events.{Turn, unchanged}
use Rattle.rehearsed.proofs.States.{Bears}
use Rattle.rehearsed.proofs.Links.{Stand}
use Rattle.rehearsed.proofs.Same.{Stands, Same, nodes_changed, nodes_kept}

pub data Follows (P : ℕ) (w next : Board) (shown : List ℕ) (t : Turn) : Type 0 where
  out : t.answer ≡ 15 → Same P t.stage t.items t.bytes w → Follows P w next shown t
  on : t.answer ≢ 15 → Same P t.stage t.items t.bytes next
      → line t.actor t.answer (node_at t.stage t.actor) ≡ shown → Follows P w next shown t

pub follows_as : {P : ℕ} {w x y : Board} {s r : List ℕ} {t : Turn} → x ≡ y → s ≡ r → Follows P w x s t
    → Follows P w y r t
follows_as {P} {w} {x} {y} {s} {r} {t} e f k =
    subst (λ r. Follows P w y r t) f (subst (λ b. Follows P w b s t) e k)

-- what room for i items says
pub record Roomy (i headers : ℕ) (bytes : List ℕ) : Type 0 where
  pub headed : i ≤ headers
  pub lent : place_size * i ≤ length bytes

pub roomy : (i headers : ℕ) (bytes : List ℕ) → i ≤ room_for headers bytes → Roomy i headers bytes
roomy i headers bytes h = record { headed = omega arith; lent = omega arith }

module _ {P : ℕ} {st : Stage} {items : List Header} {bytes : List ℕ} {w : Board} (few : P ≤ 16)
    (s : Same P st items bytes w) (a : ℕ) (h : a < P) where
  -- a call is refused
  pub refused_follows : (x : ℕ)
      → Follows P w (gave w a (w.nodes a)) (line a x (put w.nodes a (w.nodes a) a))
      (unchanged st items bytes a x)
  refused_follows x = go (ℕ_discrete x 15)
    where
      kept : (b : ℕ) → b < P → Bears (state_at st b) (put w.nodes a (w.nodes a) b)
      kept = nodes_kept P few st w.nodes s.array s.nodes a h

      go : Dec (x ≡ 15)
          → Follows P w (gave w a (w.nodes a)) (line a x (put w.nodes a (w.nodes a) a))
          (unchanged st items bytes a x)
      go (yes e) = Follows.out e s
      go (no e) =
          Follows.on e
          (record {
            size = s.size;
            array = s.array;
            nodes = kept;
            under = s.under;
            lent = s.lent;
            stand = s.stand;
          })
          (ap (line a x) (kept a h).node)

  -- a node gives back a state, and the items change as the board's do
  pub changes_follow : (y : State) (n : Node) → Bears y n → (under x : ℕ) (now : List Header) (then : List ℕ)
      (next : Board) → x ≢ 15 → next.nodes ≡ put w.nodes a n → length next.items ≡ under
      → under ≤ room_for (length now) then → Stand (Stands P now then) 0 next.items
      → Follows P w next (line a x (next.nodes a))
      (record { stage = changed st a y under; items = now; bytes = then; actor = a; answer = x })
  changes_follow y n holds under x now then next z e len lent stand =
      Follows.on z
      (record {
        size = s.size;
        array = length-set st.states a y ∙ s.array;
        nodes = after;
        under = len;
        lent = lent;
        stand = stand;
      })
      (ap (line a x) (after a h).node)
    where
      after : (b : ℕ) → b < P → Bears (state_at (changed st a y under) b) (next.nodes b)
      after b l =
          subst (λ f. Bears (state_at (changed st a y under) b) (f b)) (sym e)
          (nodes_changed P few st w.nodes s.array s.nodes a h y n holds under b l)

  -- and the items stay
  pub quiet_follows : (y : State) (n : Node) → Bears y n → (x : ℕ) (next : Board) → x ≢ 15
      → next.nodes ≡ put w.nodes a n → next.items ≡ w.items
      → Follows P w next (line a x (next.nodes a)) (unchanged (changed st a y st.under) items bytes a x)
  quiet_follows y n holds x next z e i =
      changes_follow y n holds st.under x items bytes next z e (ap length i ∙ s.under) s.lent
      (subst (Stand (Stands P items bytes) 0) (sym i) s.stand)
