-- `put_fresh` writes the head and clears the rest of the state, where there is room for it.
use borrow.Author.Rules.{rules}
use borrow.Author.Tests.{le-leb, lt-leb}
use native.Mathlib.Omega.{arith}
use mathlib.Core.Path.{sym, ap, ◌∙◌, refl}
use mathlib.Core.List.{[], ◌∷◌, ◌++◌}
use Prim.Native.Nat.{◌≤◌}
use lib.ListN.{length, drop}
use Rattle.base.proofs.Laws.{choose_yes, choose_no}
use Rattle.layout.specs.Places.{state_words, head_words}
use Rattle.layout.proofs.Offsets.{first_above}
use Rattle.fresh_words.proofs.Zeros.{cleared, cleared_after}
use Rattle.fresh_words.proofs.put_fresh.Statement.{statement}
use Rattle.fresh_words.proofs.put_fresh.Tie as tie

returns : tie.Need-returns-then-state-words
returns c =
    let a = c.args in
    sym (choose_no _ _ (lt-leb (state_words a.p) (length a.state.now) (omega (arith, c.state_words-words.ensures, c.if-state-words.true))))

-- the words are enough
room : (c : tie.Else-state-words) → state_words c.args.p ≤ length c.args.state.now
room c = omega (arith, c.state_words-words.ensures, c.if-state-words.false)

put-head-requires : tie.Need-put_head-requires
put-head-requires c κs = omega (arith, room c.before, first_above c.args.p c.args.p)

put-zeros-requires : tie.Need-put_zeros-requires
put-zeros-requires c κs =
    let e = c.before.before.before.before.before in
    let p = e.args.p in (
      omega (arith, e.state_words-words.ensures, first_above p p),
      omega (arith, e.state_words-words.ensures, room e, c.state-1.given),
    )

returns_2 : tie.Need-returns
returns_2 c =
    let z = c in
    let h = z in
    let e = h.before.before.before.before.before.before.before.before in
    let a = e.args in
    let head = a.nodes ∷ a.number ∷ a.phase ∷ 1 ∷ 1 ∷ 0 ∷ 1 ∷ 0 ∷ [] in
    z.put_zeros.ensures
    ∙ ap (λ l. cleared l head_words e.state_words-words.result) h.put_head.ensures
    ∙ ap (λ n. cleared (head ++ drop head_words a.state.now) head_words n) e.state_words-words.ensures
    ∙ cleared_after a.state.now head head_words (state_words a.p) refl (omega (arith, first_above a.p a.p))
    ∙ sym (choose_yes _ _ (le-leb _ _ (room e)))

pub put_fresh_spec : {M : Type 1} → statement M
put_fresh_spec =
    tie.close
    (tie.spec (λ c κs. search rules) (λ c. search rules) returns put-head-requires put-zeros-requires
    (λ c. search rules) returns_2)
