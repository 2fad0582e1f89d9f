-- `head_on`: the head's words tested, then where the node is.
use borrow.Author.Rules.{rules}
use native.Mathlib.Omega.{arith}
use mathlib.Core.Path.{◌≡◌, sym, ◌∙◌}
use mathlib.Core.Bool.{true}
use mathlib.Core.List.{List}
use Prim.Native.Nat.{ℕ, ◌≤◌}
use lib.ListN.{length}
use Rattle.base.specs.Limits.{Limits, limits_of}
use Rattle.layout.proofs.Offsets.{first_above}
use Rattle.layout.specs.Places.{head_words}
use Rattle.head.specs.Pieces.{head_tested}
use Rattle.head.proofs.Heads.{no_head_lem, head_fails, pass_small, some_head}
use Rattle.head.proofs.head_on.Statement.{statement}
use Rattle.head.proofs.head_on.Tie as tie

-- what is handed
module _ (s : tie.Start) where
  abbrev L : Limits
  L = limits_of s.args.b

  abbrev ws : List ℕ
  ws = s.args.s.now

  abbrev p : ℕ
  p = s.args.p

  long : head_words ≤ length ws
  long = omega (arith, s.requires.long, first_above p p)

head-ok-requires : tie.Need-head_ok-requires
head-ok-requires c κs = long c.before.before

returns : tie.Need-returns-then-not-head_ok
returns c =
    let h = c in
    let f = h in
    let s = f.before.before.before.before.before in
    no_head_lem (L s) (ws s)
    (head_fails (L s) (ws s) (p s) s.requires _ f.field_limit.ensures
    (sym h.head_ok.ensures ∙ c.if-not-head_ok.true))
    _ c.no_head.ensures

module _ (e : tie.Else-not-head_ok) where
  abbrev limit : tie.After-field_limit
  limit = e.before.before

  abbrev s : tie.Start
  s = limit.before.before

  good : head_tested limit.field_limit.result (p s) (ws s) ≡ true
  good = sym e.head_ok.ensures ∙ e.if-not-head_ok.false

spot-at-requires : tie.Need-spot_at-spot-requires
spot-at-requires c κs =
    (long (s c), pass_small (L (s c)) (ws (s c)) (p (s c)) (s c).requires _ (limit c).field_limit.ensures (good c))

returns_2 : tie.Need-returns
returns_2 c =
    let e = c.before in
    some_head (L (s e)) (ws (s e)) (p (s e)) (s e).requires _ (limit e).field_limit.ensures (good e) _ c.spot_at-spot.ensures

pub head_on_spec : {M : Type 1} → statement M
head_on_spec =
    tie.close
    (tie.spec (λ c κs. search rules) head-ok-requires (λ c κs. search rules) returns spot-at-requires returns_2)
