-- `copy_tallies`: the shells below m are copied, and what the limits leave is known.
use native.Mathlib.Omega.{arith}
use mathlib.Core.Path.{sym, subst}
use mathlib.Core.List.{List}
use Prim.Native.Nat.{ℕ, ◌+◌, ◌-◌, ◌*◌, ◌≤◌, ◌<◌}
use lib.ListN.{length, length-set}
use Rattle.base.specs.Limits.{width}
use Rattle.layout.specs.Places.{head_words, at_sent, at_taken, sum_words}
use Rattle.layout.specs.Held.{word}
use Rattle.gather.specs.Pieces.{Copied}
use Rattle.gather.proofs.Room.{Room, room_known}
use Rattle.gather.proofs.Copying.{Upto, left_low, none_copied, sent_stopped, taken_stopped, shell_copied, copied}
use Rattle.gather.proofs.copy_tallies.Statement.{statement}
use Rattle.gather.proofs.copy_tallies.Tie as tie

abbrev invariant-loop : tie.invariant-loop-m
invariant-loop s sums₀ p sends takes sends-left₀ takes-left₀ m₀ sums sends-left takes-left m =
    Upto p s sends.0 takes.0 sums₀ m sums sends-left.0 takes-left.0

abbrev decreases-loop : tie.decreases-loop-m
decreases-loop s sums₀ p sends takes sends-left₀ takes-left₀ m₀ sums sends-left takes-left m = p - m

-- what is handed
module _ (s : tie.Start invariant-loop decreases-loop) where
  abbrev p : ℕ
  p = s.args.p

  abbrev ws : List ℕ
  ws = s.args.s.now

  abbrev sends : ℕ
  sends = s.args.sends.0

  abbrev takes : ℕ
  takes = s.args.takes.0

  abbrev before : List ℕ
  before = s.args.sums.now

  room : Room p (length ws) (length before)
  room = room_known p (length ws) (length before) s.requires

-- a turn of the loop
module _ (i : tie.In-loop-m invariant-loop decreases-loop) where
  abbrev s : tie.Start invariant-loop decreases-loop
  s = i.before.before.before.before

  abbrev m : ℕ
  m = i.loop-m.m

  abbrev sums : List ℕ
  sums = i.loop-m.sums

  up : Upto (p s) (ws s) (sends s) (takes s) (before s) m sums i.loop-m.sends_left.0 i.loop-m.takes_left.0
  up = i.loop-m.invariant

  -- the places of the shell are inside
  inside : (m < p s) × (p s ≤ width) × (head_words + 2 * p s ≤ length (ws s)) × (sum_words (p s) ≤ length sums)
  inside = let r = room s in (i.loop-m-test.true, r.few, r.long, omega (arith, r.wide, up.long))

returns : tie.Need-returns-then-sends_left-sent invariant-loop decreases-loop
returns c =
    let i = c.before.before.before.before.before in
    subst (Copied (p (s i)) (ws (s i)) (sends (s i)) (takes (s i)) (before (s i)) (sums i)) (sym c.no_tallies.ensures)
    (sent_stopped (p (s i)) (ws (s i)) (sends (s i)) (takes (s i)) (before (s i)) (m i) (sums i) _ _ (up i) (inside i).0
    c.if-sends_left-sent.true)

returns_2 : tie.Need-returns-then-takes_left-taken invariant-loop decreases-loop
returns_2 c =
    let i = c.before.before.before.before.before.before.before.before.before in
    subst (Copied (p (s i)) (ws (s i)) (sends (s i)) (takes (s i)) (before (s i)) (sums i)) (sym c.no_tallies-then-takes_left-taken.ensures)
    (taken_stopped (p (s i)) (ws (s i)) (sends (s i)) (takes (s i)) (before (s i)) (m i) (sums i) _ _ (up i) (inside i).0
    c.if-takes_left-taken.true)

-- both totals are still within their limits
module _ (e : tie.Else-takes_left-taken invariant-loop decreases-loop) where
  abbrev turn : tie.In-loop-m invariant-loop decreases-loop
  turn = e.before.before.before.before.before.before.before.before

  low : word (ws (s turn)) (at_sent (m turn)) ≤ turn.loop-m.sends_left.0
  low = e.if-sends_left-sent.false

  few : word (ws (s turn)) (at_taken (p (s turn)) (m turn)) ≤ turn.loop-m.takes_left.0
  few = e.if-takes_left-taken.false

loop_again : tie.Need-loop-m-preserved invariant-loop decreases-loop
loop_again c =
    let e = c.before.before.before.before in
    let i = turn e in
    shell_copied (p (s i)) (ws (s i)) (sends (s i)) (takes (s i)) (before (s i)) (m i) (sums i) _ _ (up i) (inside i).0
    (low e) (few e) (room (s i)).wide

left : (a : tie.After-loop-m invariant-loop decreases-loop)
    → let s = a.before.before.before.before in
    (a.loop-m.sends_left.0 ≤ sends s) × (a.loop-m.takes_left.0 ≤ takes s)
left a = let s = a.before.before.before.before in left_low (p s) (ws s) (sends s) (takes s) (before s) _ _ _ _ a.loop-m.invariant

returns_3 : tie.Need-returns invariant-loop decreases-loop
returns_3 c =
    let s = c.before.before.before.before.before.before.before.before in
    copied (p s) (ws s) (sends s) (takes s) (before s) c.loop-m.m c.loop-m.sums _ _ c.loop-m.invariant
    c.loop-m-test.false

pub copy_tallies_spec : {M : Type 1} → statement M
copy_tallies_spec =
    tie.close
    (tie.spec invariant-loop decreases-loop
    (λ c. let s = c.before.before in none_copied (p s) (ws s) (sends s) (takes s) (before s))
    (λ c. record { fits = omega (arith, inside (c)) }) (λ c. record { fits = omega (arith, inside (c)) }) (λ c. record { fits = omega (arith, inside (c)) }) (λ c. omega (arith, inside c.before))
    (λ c κs. tt) (λ c. c.loop-m.invariant.long) returns
    (λ c. record { fits = omega (arith, inside c.before.before.before.before) }) (λ c. record { fits = omega (arith, inside c.before.before.before.before) }) (λ c. record { fits = omega (arith, inside c.before.before.before.before) }) (λ c. record { fits = omega (arith, inside c.before.before.before.before) }) (λ c. omega (arith, inside c.before.before.before.before.before))
    (λ c κs. tt) (λ c. c.loop-m.invariant.long) returns_2
    (λ c. record { fits = omega (arith, inside c.before.before.before.before.before.before.before.before) }) (λ c. record { fits = omega (arith, inside c.before.before.before.before.before.before.before.before) }) (λ c. omega (arith, inside c.before.before.before.before.before.before.before.before)) (λ c. record { fits = omega (arith, inside c.before.before.before.before.before.before.before.before) }) (λ c. record { fits = omega (arith, inside c.before.before.before.before.before.before.before.before) }) (λ c. record { fits = omega (arith, inside c.before.before.before.before.before.before.before.before) })
    (λ c. simp length-set (omega (arith, inside (turn c)))) (λ c. low c.before.before) (λ c. few c.before.before.before.before) (λ c. record { fits = omega (arith, inside (turn c.before.before.before.before)) }) (λ c. omega (arith, inside (turn c.before.before.before.before))) loop_again (λ c. (left c.before.before).0) (λ c. (left c.before.before.before.before).1) (λ c. c.loop-m.invariant.long) returns_3)
