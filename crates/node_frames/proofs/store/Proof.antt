-- `store` is `stored_words`.
use borrow.Author.Rules.{rules}
use borrow.Author.Tests.{lt-ltb, le-ltb}
use native.Mathlib.Omega.{arith}
use mathlib.Core.Path.{◌≡◌, sym, ap, ◌∙◌}
use lib.ListN.{get_or}
use Rattle.base.proofs.Laws.{choose_yes, choose_no}
use Rattle.frame.specs.Parts.{pasted}
use Rattle.node_frames.specs.Pieces.{frame_words, kept_words, back_words, stored_words}
use Rattle.node_frames.proofs.store.Statement.{statement}
use Rattle.node_frames.proofs.store.Tie as tie

cast-pass : tie.Need-overflow_cast-pass
cast-pass c = omega (arith, c.shared_slice_known-2-1.given 0)

-- the frame is in its place
kept : (c : tie.After-put_frame)
    → let x = c.args in
    c.put_frame.new.state ≡ kept_words x.p x.state.now x.bytes.now
unfolding kept_words
kept c =
    let x = c.args in
    c.put_frame.ensures
    ∙ ap (λ at. pasted x.state.now at (frame_words x.bytes.now)) c.place_of.ensures

returns : tie.Need-returns-then-here-step
unfolding stored_words
returns c =
    let f = c.before.before.before in
    let t = f in
    kept f
    ∙ sym
    (choose_no _ _
    (le-ltb _ _ (rw (t.step_of-step.ensures, t.step_of-here.ensures) at c.if-here-step.true)))

returns_2 : tie.Need-returns
unfolding stored_words
returns_2 c =
    let g = c in
    let e = g in
    let f = e.before.before.before.before.before.before.before in
    let t = f in
    let x = t.args in
    g.go_back.ensures
    ∙ ap (λ l. back_words l (get_or x.bytes.now 0 0) (get_or x.bytes.now 2 0)) (kept f)
    ∙ sym
    (choose_yes _ _
    (lt-ltb _ _ (rw (t.step_of-step.ensures, t.step_of-here.ensures) at e.if-here-step.false)))

pub store_spec : {M : Type 1} → statement M
store_spec =
    tie.close
    (tie.spec (λ c. search rules) cast-pass (λ c. search rules) (λ c. search rules) (λ c κs. search rules)
    (λ c. search rules) (λ c. search rules) (λ c κs. search rules) (λ c κs. search rules) (λ c κs. search rules)
    (λ c. search rules) returns (λ c κs. search rules) (λ c. search rules) returns_2)
