-- `start`: the tests of the lengths, the tallies with their limits, then the totals.
use borrow.Author.Rules.{rules}
use borrow.Author.Tests.{not-true, not-false}
use native.Mathlib.Omega.{arith}
use mathlib.Core.Path.{◌≡◌, refl, sym, ap, ◌∙◌}
use mathlib.Core.Bool.{true}
use mathlib.Core.List.{List}
use Prim.Native.Nat.{ℕ}
use lib.Dec.{leb}
use lib.ListN.{length, length-set}
use Rattle.base.specs.Choice.{choose, both}
use Rattle.base.specs.Limits.{Limits, limits_of}
use Rattle.base.proofs.Laws.{clash}
use Rattle.gather.specs.Gather.{has_room, sent_total, taken_total, the_tallies, no_tallies, tallies_of}
use Rattle.gather.specs.declared.Tallies.{Tallies}
use Rattle.gather.proofs.Room.{Room, room_known, room_made, not_tallied, none_told, told, ok_is, totals_known}
use Rattle.gather.proofs.Starting.{after_length, started}
use Rattle.gather.proofs.start.Statement.{statement}
use Rattle.gather.proofs.start.Tie as tie

-- what is handed
module _ (s : tie.Start) where
  abbrev L : Limits
  L = limits_of s.args.b

  abbrev p : ℕ
  p = s.args.p

  abbrev ws : List ℕ
  ws = s.args.s.now

  abbrev before : List ℕ
  before = s.args.sums.now

  abbrev lent : ℕ
  lent = length before

returns : tie.Need-returns-then-not-has_room
returns c =
    let s = c.before.before.before.before.before in
    let none = not_tallied (L s) (p s) (ws s) (lent s)
    (λ t. clash (sym (room_made _ _ _ t.room) ∙ sym c.has_room.ensures ∙ c.if-not-has_room.true)) in
    (c.no_tallies.ensures ∙ none_told (L s) (p s) (ws s) (lent s) none, ((λ e. clash (sym e ∙ none)), refl))

-- the words are enough
module _ (e : tie.Else-not-has_room) where
  abbrev begun : tie.Start
  begun = e.before.before.before.before

  roomy : has_room (p begun) (length (ws begun)) (lent begun) ≡ true
  roomy = let h = e.has_room in sym h.ensures ∙ e.if-not-has_room.false

-- the tallies are copied
module _ (a : tie.After-copy_tallies-own) where
  abbrev early : tie.Else-not-has_room
  early = a.before.before.before.before

  abbrev s : tie.Start
  s = begun early

  abbrev own : Tallies
  own = a.copy_tallies-own.result

  answer : own ≡ tallies_of (L s) (p s) (ws s) (lent s)
  answer =
      a.copy_tallies-own.ensures.answer
      ∙ ap
      (λ most.
      choose (both (leb (sent_total (p s) (ws s)) (L s).sends) (leb (taken_total (p s) (ws s)) most)) (the_tallies (p s) (ws s))
      no_tallies)
      a.taken_limit.ensures
      ∙ told (L s) (p s) (ws s) (lent s) (roomy early)

  room : Room (p s) (length (ws s)) (lent s)
  room = room_known (p s) (length (ws s)) (lent s) (roomy early)

returns_2 : tie.Need-returns-then-not-own
returns_2 c =
    let a = c.before.before.before.before in
    let none = sym (ok_is (L (s a)) (p (s a)) (ws (s a)) (lent (s a)) (own a) (answer a)) ∙ not-true (own a).ok c.if-not-own.true in
    (answer a, ((λ e. clash (sym e ∙ none)), a.copy_tallies-own.ensures.length))

-- both totals are within their limits
module _ (e : tie.Else-not-own) where
  abbrev done : tie.After-copy_tallies-own
  done = e.before.before.before.before

  abbrev t : tie.Start
  t = s done

  ok : (own done).ok ≡ true
  ok = not-false (own done).ok e.if-not-own.false

  held : length done.copy_tallies-own.new.sums ≡ lent t
  held = done.copy_tallies-own.ensures.length

returns_3 : tie.Need-returns
returns_3 c =
    let d = done c in
    let are = totals_known (L (t c)) (p (t c)) (ws (t c)) (lent (t c)) (own d) (answer d) (ok c) in
    let f = started (p (t c)) (ws (t c)) _ _ (before (t c)) _ (own d) d.copy_tallies-own.ensures (room d).wide (ok c) are in
    let l = after_length (p (t c)) (ws (t c)) _ _ (before (t c)) _ (own d) d.copy_tallies-own.ensures (room d).wide in
    (answer d, ((λ e. f), l))

pub start_spec : {M : Type 1} → statement M
start_spec =
    tie.close
    (tie.spec (λ c κs. search rules) (λ c κs. search rules) returns (λ c. search rules) (λ c κs. search rules)
    (λ c κs. roomy c.before.before.before) (λ c. search rules) returns_2
    (λ c. record { fits = omega (arith, (room (done c)).few) }) (λ c. search rules) (λ c. search rules)
    (λ c. omega (arith, held c, (room (done c)).wide)) (λ c. record { fits = omega (arith, (room (done c)).few) })
    (λ c. record { fits = omega (arith, (room (done c)).few) }) (λ c. search rules) (λ c. search rules)
    (λ c. simp length-set (omega (arith, held c, (room (done c)).wide))) (λ c. search rules) returns_3)
