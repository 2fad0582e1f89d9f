-- `put_second`: the head, T and total sent.
use borrow.Author.Rules.{rules}
use mathlib.Core.Path.{refl, ap, ◌∙◌}
use mathlib.Core.List.{List, [], ◌∷◌}
use Prim.Native.Nat.{ℕ}
use Rattle.wire.specs.Wire.{put_numbers}
use Rattle.wire.proofs.Putting.{one_put}
use Rattle.second_frame.proofs.Room.{room, no_room}
use Rattle.second_frame.proofs.put_second.Statement.{statement}
use Rattle.second_frame.proofs.put_second.Tie as tie

returns : tie.Need-returns-then-buf
returns c =
    let a = c.args in
    no_room a.buf.now (2 ∷ a.phase ∷ a.k ∷ a.sender ∷ []) refl (a.agreed ∷ a.issued.0 ∷ []) c.if-buf.true

returns_2 : tie.Need-returns
returns_2 c =
    let t = c in
    let h = t in
    let e = h in
    let a = e.args in
    let head : List ℕ = 2 ∷ a.phase ∷ a.k ∷ a.sender ∷ [] in
    let xs : List ℕ = a.agreed ∷ a.issued.0 ∷ [] in
    room a.buf.now head refl xs 12 _ refl e.if-buf.false
    (t.put_numbers.ensures ∙ ap (λ l. put_numbers l 4 xs) h.put_head.ensures
    ∙ one_put a.buf.now head refl xs e.if-buf.false)

pub put_second_spec : {M : Type 1} → statement M
put_second_spec =
    tie.close
    (tie.spec (λ c. search rules) returns (λ c κs. search rules) (λ c. search rules) (λ c κs. search rules) (λ c. search rules) returns_2)
