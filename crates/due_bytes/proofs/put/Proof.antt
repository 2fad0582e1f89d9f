-- `put`: the frame of the position's pass.
use borrow.Author.Rules.{rules}
use borrow.Author.Tests.{le-leb, lt-leb, eq-eqb, ne_eqb}
use mathlib.Core.Path.{◌≡◌, refl, sym, ap, ◌∙◌}
use mathlib.Core.Bool.{Bool, true, false}
use mathlib.Core.List.{List}
use Prim.Native.Nat.{ℕ}
use lib.Dec.{eqb}
use lib.ListN.{length}
use Rattle.std.proofs.Common.{Option, None}
use Rattle.base.specs.Choice.{choose, both}
use Rattle.base.proofs.Laws.{choose_yes, choose_no}
use Rattle.layout.specs.Places.{at_pass, at_dim, head_words}
use Rattle.layout.specs.Held.{word}
use Rattle.second_frame.specs.Putting.{has_sums, put_length, put_bytes}
use Rattle.due_bytes.specs.Bytes.{can_send, due_bytes}
use Rattle.due_bytes.proofs.put.Statement.{statement}
use Rattle.due_bytes.proofs.put.Tie as tie

-- what was put is the frame due
module _ (s : tie.Start) where
  abbrev ws : List ℕ
  ws = s.args.s.now

  abbrev buf : List ℕ
  buf = s.args.buf.now

  abbrev due : List ℕ
  due = due_bytes ws s.args.sums.now s.args.p s.args.issued.0

  abbrev fit : Bool
  fit = can_send ws s.args.p (length s.args.sums.now)

  -- by the pass
  abbrev there : Bool
  there = choose (eqb (word ws at_pass) 1) (has_sums s.args.p (word ws at_dim) (length s.args.sums.now)) true

  put : (t : Bool) (bytes after : List ℕ) (r : Option ℕ) → fit ≡ t → due ≡ bytes
      → r ≡ choose t (put_length bytes (length buf)) None
      → after ≡ choose t (put_bytes bytes buf) buf
      → (r ≡ choose fit (put_length due (length buf)) None) × (after ≡ choose fit (put_bytes due buf) buf)
  put t bytes after r can e f g = (
    f ∙ sym (λ i. choose (can i) (put_length (e i) (length buf)) None),
    g ∙ sym (λ i. choose (can i) (put_bytes (e i) buf) buf),
  )

returns : tie.Need-returns-then-s
returns c =
    let s = c.before.before.before.before in
    let none : fit s ≡ false = ap (λ t. both t (there s)) (lt-leb head_words (length (ws s)) c.if-s.true) in
    put s false _ _ _ none refl refl refl

-- words that have a head
module _ (e : tie.After-shared_slice_known-6-1) where
  abbrev headed : tie.Else-s
  headed = e.before.before.before.before

  abbrev s : tie.Start
  s = headed.before.before.before.before

  can : (t : Bool) → there s ≡ t → fit s ≡ t
  can t q = λ i. both (le-leb head_words (length (ws s)) headed.if-s.false i) (q i)

returns_2 : tie.Need-returns-then-s-ne1
returns_2 c =
    let f = c in
    let t = f in
    let e = t.before.before.before.before.before.before in
    let two = ne_eqb (word (ws (s e)) at_pass) 1 t.if-s-ne1.true in
    put (s e) true _ _ _ (can e true (choose_no _ _ two)) (choose_no _ _ two) f.put_second.ensures.0
    f.put_second.ensures.1

returns_3 : tie.Need-returns
returns_3 c =
    let f = c in
    let t = f in
    let e = t.before.before.before.before.before in
    let one = eq-eqb (word (ws (s e)) at_pass) 1 t.if-s-ne1.false in
    put (s e) _ _ _ _ (can e _ (choose_yes _ _ one)) (choose_yes _ _ one) f.put_first.ensures.0
    f.put_first.ensures.1

pub put_spec : {M : Type 1} → statement M
put_spec =
    tie.close
    (tie.spec (λ c. search rules) returns (λ c. search rules) (λ c. search rules) (λ c. search rules) (λ c. search rules)
    (λ c. search rules) (λ c. search rules) (λ c. search rules) (λ c. search rules) (λ c κs. search rules)
    (λ c. search rules) returns_2 (λ c κs. search rules) (λ c. search rules) returns_3)
