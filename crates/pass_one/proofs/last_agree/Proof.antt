-- `last_agree`: clause 3 by the numbers added, then clause 4.
use mathlib.Core.Path.{◌≡◌, sym, subst}
use mathlib.Core.List.{List}
use Prim.Native.Nat.{ℕ}
use lib.ListN.{length}
use Rattle.base.specs.Limits.{Limits, limits_of, field_limit}
use Rattle.node.specs.declared.Stored.{Stored}
use Rattle.layout.specs.Held.{first_from}
use Rattle.adding.proofs.Places.{Ends, ends, still, next_fits}
use Rattle.pass_one.specs.Pieces.{Agreed}
use Rattle.pass_one.proofs.Agreeing.{over, ended}
use Rattle.pass_one.proofs.last_agree.Statement.{statement}
use Rattle.pass_one.proofs.last_agree.Tie as tie

-- what is handed
module _ (a : tie.After-add_frame) where
  abbrev s : tie.Start
  s = a.before.before.before.before.before

  abbrev L : Limits
  L = limits_of s.args.b

  abbrev before : List ℕ
  before = s.args.sums.now

  abbrev p : ℕ
  p = s.args.p

  abbrev k : ℕ
  k = s.args.k

  abbrev x : Stored
  x = first_from s.args.s.now p k 0

  abbrev after : List ℕ
  after = a.add_frame.new.sums

  abbrev limit : ℕ
  limit = a.field_limit.result

  limit_is : limit ≡ field_limit L
  limit_is = a.field_limit.ensures

  -- where the totals are
  at : Ends p k (length s.args.s.now) (length after)
  at =
      let ws = s.args.s.now in
      ends ws after p k (still ws before p k s.requires.0 after a.add_frame.ensures.length)

returns : tie.Need-returns-then-not-add_frame
returns c =
    let a = c.before.before.before in
    let f = a.add_frame in
    over (L a) (p a) (k a) (x a) (before a) (limit a) (limit_is a)
    (f.ensures.over c.if-not-add_frame.true (s a).requires.0) _ f.ensures.length

returns_2 : tie.Need-returns
returns_2 c =
    let g = c in
    let a = g.before.before.before.before.before.before in
    let f = a.add_frame in
    let good = g.if-not-add_frame.false in
    subst (Agreed (L a) (p a) (k a) (x a) (before a) (after a)) (sym c.last_holds.ensures)
    (ended (L a) (p a) (k a) (x a) (before a) (limit a) (limit_is a) (s a).requires.1 (f.ensures.within good) (after a)
    (f.ensures.added good) f.ensures.length)

pub last_agree_spec : {M : Type 1} → statement M
last_agree_spec =
    tie.close
    (tie.spec (λ c κs. tt) (λ c κs. tt) (λ c. c.add_frame.ensures.length) returns (λ c. (at c.before.before.before).own_issued.fits)
    (λ c. (at c.before.before.before).own_issued.wide) (λ c. (at c.before.before.before).own_issued.scaled) (λ c. (at c.before.before.before.before).own_issued.there)
    (λ c. (at c.before.before.before.before).own_issued.fits) (λ c. (at c.before.before.before.before).own_received.fits) (λ c. (at c.before.before.before.before).own_received.wide)
    (λ c. (at c.before.before.before.before).own_received.scaled) (λ c. (at c.before.before.before.before.before).own_received.there)
    (λ c. let f = (s c.before.before.before.before.before).requires.0 in next_fits _ _ f.low f.few) (λ c κs. tt)
    (λ c. c.add_frame.ensures.length) returns_2)
