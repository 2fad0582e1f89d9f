-- Whether there is room for items, as the code tests it, and one header put.
use mathlib.Core.Path.{◌≡◌}
use mathlib.Core.Bool.{true, false}
use Prim.Native.Nat.{ℕ, ◌+◌, ◌≤◌, ◌<◌}
use native.Mathlib.Omega.{arith}
use lib.Dec.{ltb}
use borrow.Author.Tests.{lt-ltb, le-ltb}
use Rattle.items.specs.declared.Item.{Item}
use Rattle.stage.specs.Board.{quiet, put_one}
use Rattle.board_states.specs.declared.Stage.{Stage}
use Rattle.stage.specs.declared.Acted.{Acted}

pub no_room : (under room r : ℕ) → room ≡ r → room ≤ under → ltb under r ≡ false
no_room under room r e h = le-ltb under r (omega arith)

pub no_two : (under room r : ℕ) → room ≡ r → room ≤ under → ltb (under + 1) r ≡ false
no_two under room r e h = le-ltb (under + 1) r (omega arith)

pub some_room : (under room r : ℕ) → room ≡ r → under < room → ltb under r ≡ true
some_room under room r e h = lt-ltb under r (omega arith)

-- no header goes and none is put, save this one after the last
pub one_put : (st : Stage) (headers : ℕ) (after : Stage) (actor answer : ℕ) (q : Acted) (i j : Item)
    → q ≡ quiet st headers after actor answer → i ≡ j
    → ◌≡◌ {A = Acted}
    (record {
      stage = q.stage;
      actor = q.actor;
      answer = q.answer;
      gone = q.gone;
      at = st.under;
      first = i;
      next = q.next;
      second = q.second;
    })
    (put_one st headers after actor answer j)
one_put st headers after actor answer q i j e f =
    λ k. record {
      stage = (e k).stage;
      actor = (e k).actor;
      answer = (e k).answer;
      gone = (e k).gone;
      at = st.under;
      first = f k;
      next = (e k).next;
      second = (e k).second;
    }
