-- `put_pass_1`: the head and the sums.
use borrow.Author.Rules.{rules}
use native.Mathlib.Omega.{arith}
use mathlib.Core.Path.{◌≡◌, refl, ap, ◌∙◌}
use mathlib.Core.List.{List, [], ◌∷◌}
use Prim.Native.Nat.{ℕ, ◌+◌, ◌-◌, ◌*◌}
use lib.ListN.{length, length-append}
use Rattle.layout.specs.Places.{sum_words}
use Rattle.wire.specs.Wire.{put_numbers}
use Rattle.due_frame.specs.Frames.{sent_part, taken_part, first_numbers}
use Rattle.wire.proofs.Putting.{length_part}
use Rattle.second_frame.proofs.Room.{room, no_room}
use Rattle.due_frame.proofs.Putting.{two_put, length_first}
use Rattle.due_frame.proofs.put_pass_1.Statement.{statement}
use Rattle.due_frame.proofs.put_pass_1.Tie as tie

-- what is written
module _ (s : tie.Start) where
  abbrev sums : List ℕ
  sums = s.args.sums.now

  abbrev p : ℕ
  p = s.args.p

  abbrev k : ℕ
  k = s.args.k

  abbrev head : List ℕ
  head = 1 ∷ s.args.phase ∷ k ∷ s.args.sender ∷ []

  count : length (first_numbers sums p k) ≡ sum_words (p - k)
  count = length_first sums p k s.requires.0 s.requires.1

  sent : length (sent_part sums p k) ≡ p - k
  sent = length_part sums k (p - k) (omega (arith, s.requires))

returns : tie.Need-returns-then-buf-length
returns c =
    let s = c.before.before.before in
    no_room s.args.buf.now (head s) refl (first_numbers (sums s) (p s) (k s))
    (omega (arith, c.if-buf-length.true, count s))

returns_2 : tie.Need-returns
returns_2 c =
    let t = c in
    let h = t in
    let e = h in
    let s = e.before.before.before.before.before.before.before.before.before.before.before in
    let buf = s.args.buf.now in
    let xs = sent_part (sums s) (p s) (k s) in
    let ys = taken_part (sums s) (p s) (k s) in
    let g = e.if-buf-length.false in
    room buf (head s) refl (first_numbers (sums s) (p s) (k s)) (12 + 8 * (p s - k s)) _
    (omega (arith, count s)) g
    (t.put_sums.ensures
    ∙ ap (λ l. put_numbers (put_numbers l 4 xs) (4 + 4 * (p s - k s)) ys) h.put_head.ensures
    ∙ two_put buf (head s) refl xs ys _ (omega (arith, sent s)) (omega (arith, count s, length-append xs ys, g)))

pub put_pass_1_spec : {M : Type 1} → statement M
put_pass_1_spec =
    tie.close
    (tie.spec (λ c. search rules) (λ c. search rules) (λ c. search rules) (λ c. search rules) (λ c. search rules) returns
    (λ c κs. search rules) (λ c κs. search rules) (λ c. search rules) returns_2)
