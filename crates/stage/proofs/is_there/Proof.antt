-- `is_there` is `is_there`.
use borrow.Author.Rules.{rules}
use mathlib.Core.Path.{sym, ◌∙◌}
use borrow.Author.Tests.{le-ltb}
use Rattle.stage.proofs.There.{there_not, there_unlent, there_sized, there_none}
use Rattle.stage.proofs.is_there.Statement.{statement}
use Rattle.stage.proofs.is_there.Tie as tie

returns : tie.Need-returns-then-st-at
returns c bytes e =
    let x = c.args in
    sym (there_not x.st x.headers bytes x.at c.if-st-at.true)

returns_2 : tie.Need-returns-then-room_for-st
returns_2 c bytes e =
    let r = c in
    let x = r.args in
    sym
    (there_unlent x.st x.headers bytes x.at _ _ e r.room_for.ensures r.if-st-at.false
    c.if-room_for-st.true)

returns_3 : tie.Need-returns-then-st-gt0
returns_3 c bytes e =
    let f = c in
    let r = f in
    let x = r.args in
    sym
    (there_sized x.st x.headers bytes x.at _ _ e r.room_for.ensures r.if-st-at.false f.if-room_for-st.false
    c.if-st-gt0.true)

returns-4 : tie.Need-returns-else-st-gt0
returns-4 c bytes e =
    let f = c in
    let r = f in
    let x = r.args in
    le-ltb _ _ c.if-st-gt0.false
    ∙ sym
    (there_none x.st x.headers bytes x.at _ _ e r.room_for.ensures r.if-st-at.false f.if-room_for-st.false
    c.if-st-gt0.false)

pub is_there_spec : {M : Type 1} → statement M
is_there_spec = tie.close (tie.spec returns (λ c κs. search rules) returns_2 returns_3 returns-4)
