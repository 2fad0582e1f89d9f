-- `agree`: clauses 0, 1 and 2 in their order, then the others.
use borrow.Author.Tests.{eq-eqb, eqb-true}
use native.Mathlib.Nat.{le_refl, le_of_lt}
use native.Mathlib.Omega.{arith}
use mathlib.Core.Path.{◌≡◌, refl, sym, ap, ◌∙◌}
use mathlib.Core.Bool.{true, false}
use mathlib.Core.List.{List}
use Prim.Native.Nat.{ℕ, ◌+◌, ◌-◌}
use lib.ListN.{length}
use mir.Facts.{Fits-lit}
use Rattle.base.specs.Limits.{Limits, limits_of}
use Rattle.node.specs.Sums.{sent_in, taken_in, number}
use Rattle.node.specs.declared.Stored.{Stored}
use Rattle.node.proofs.Clauses.{FirstAgrees}
use Rattle.layout.specs.Places.{mark_words, sent_place, taken_place}
use Rattle.layout.specs.Held.{word, first_from, sum_of}
use Rattle.layout.proofs.Reading.{number_sent, number_taken}
use Rattle.adding.proofs.Places.{Shell, shell}
use Rattle.pass_one.specs.Pieces.{Agreed}
use Rattle.pass_one.proofs.Agreeing.{apart}
use Rattle.pass_one.proofs.agree.Statement.{statement}
use Rattle.pass_one.proofs.agree.Tie as tie

-- what is handed
module _ (s : tie.Start) where
  abbrev L : Limits
  L = limits_of s.args.b

  abbrev ws : List ℕ
  ws = s.args.s.now

  abbrev before : List ℕ
  before = s.args.sums.now

  abbrev p : ℕ
  p = s.args.p

  abbrev k : ℕ
  k = s.args.k

  abbrev frame : Stored
  frame = first_from ws p k 0

  -- where its numbers are
  at : Shell p k k (length ws) (length before)
  at = shell ws before p k s.requires k (le_refl k) s.requires.low

  -- the tallies of shell k are the first of their kind
  sent : number frame (sent_in k) ≡ word ws mark_words
  sent =
      let z : sent_place 0 k k ≡ mark_words = omega arith in
      number_sent ws p k 0 k (le_refl k) s.requires.low at.low ∙ ap (word ws) z

  taken : number frame (taken_in k) ≡ word ws (mark_words + (p - k))
  taken =
      let z : taken_place p 0 k k ≡ mark_words + (p - k) = omega arith in
      number_taken ws p k 0 k (le_refl k) s.requires.low at.low ∙ ap (word ws) z

  fails : (FirstAgrees L p k (sum_of p before) frame → ⊥) → Agreed L p k frame before before false
  fails none = apart L p k frame before none before refl

abbrev first : tie.Else-s-ne1 → tie.Start
first c = c.before.before.before.before

here : (c : tie.Else-s-ne1) → (frame (first c)).present ≡ true
here c = eq-eqb _ _ c.if-s-ne1.false

returns : tie.Need-returns-then-s-ne1
returns c = fails c.before.before.before.before (λ a. c.if-s-ne1.true (eqb-true _ _ a.stored))

returns_2 : tie.Need-returns-then-own_sent-taken
returns_2 c =
    let s = first c.before.before.before.before.before in
    fails s (λ a. c.if-own_sent-taken.true (a.sent ∙ taken s))

returns_3 : tie.Need-returns-then-own_taken-sent
returns_3 c =
    let h = c in
    let s = first h.before.before.before.before.before.before.before.before.before.before in
    fails s (λ a. c.if-own_taken-sent.true (a.taken ∙ sent s))

last-agree-requires : tie.Need-last_agree-requires
last-agree-requires c κs =
    let g = c in
    let h = g in
    let e = h.before.before.before.before.before.before.before.before.before.before.before in
    let s = first e in (
      s.requires,
      record { stored = here e; sent = h.if-own_sent-taken.false ∙ sym (taken s); taken = g.if-own_taken-sent.false ∙ sym (sent s) },
    )

pub agree_spec : {M : Type 1} → statement M
agree_spec =
    tie.close
    (tie.spec (λ c. (at c.before.before.before).mark) returns (λ c. (at c.before.before.before.before).own_sent.scaled) (λ c. (at c.before.before.before.before.before).own_sent.there)
    (λ c. le_of_lt c.requires.low) (λ c. (at c.before.before.before.before.before).middle.fits) (λ c. (at c.before.before.before.before.before).middle.wide)
    (λ c. (at c.before.before.before.before.before).middle.scaled) (λ c. (at c.before.before.before.before.before.before).middle.there) returns_2
    (λ c. (at c.before.before.before.before.before.before.before.before.before).own_taken.fits) (λ c. (at c.before.before.before.before.before.before.before.before.before).own_taken.wide) (λ c. (at c.before.before.before.before.before.before.before.before.before).own_taken.scaled)
    (λ c. (at c.before.before.before.before.before.before.before.before.before.before).own_taken.there) (λ c. Fits-lit tt) (λ c. Fits-lit tt)
    (λ c. (at c.before.before.before.before.before.before.before.before.before.before.before).first) returns_3 last-agree-requires (λ c. c.last_agree.ensures.length)
    (λ c. c.last_agree.ensures))
