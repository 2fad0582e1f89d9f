-- `line_of` is `line_of`: a line has up to three parts, or is bad.
use native.Mathlib.Omega.{arith}
use mathlib.Core.Path.{sym, ◌∙◌}
use Prim.Native.Nat.{◌+◌}
use Rattle.script.proofs.Answers.{after, line_one, line_two, line_three, line_four}
use Rattle.script.proofs.line_of.Goals as goal

pub returns-then-line-a : goal.returns-then-line-a
returns-then-line-a c = let l = c.args.line.now in sym (line_one l (omega arith))

pub returns-then-rest-b : goal.returns-then-rest-b
returns-then-rest-b c =
    let l = c.args.line.now in
    c.one_number.ensures
    ∙ sym
    (line_two l _ c.find-a.ensures.0 c.if-line-a.false _ (after (c.find-a.result + 1) l) (rw c.find-b.ensures.0 at c.if-rest-b.true))

pub returns-then-find-last : goal.returns-then-find-last
returns-then-find-last c =
    let l = c.args.line.now in
    sym
    (line_four l _ c.find-a.ensures.0 c.if-line-a.false _ (after (c.find-a.result + 1) l) _ c.find-b.ensures.0
    c.if-rest-b.false _ (after (c.find-b.result + 1) _) (rw c.find.ensures.0 at c.if-find-last.true))

pub returns : goal.returns
returns c =
    let l = c.args.line.now in
    c.two_numbers.ensures
    ∙ sym
    (line_three l _ c.find-a.ensures.0 c.if-line-a.false _ (after (c.find-a.result + 1) l) _ c.find-b.ensures.0
    c.if-rest-b.false _ (after (c.find-b.result + 1) _) (rw c.find.ensures.0 at c.if-find-last.false))
