-- `open_script` is `opened`: a script too long, a first line of another kind, a board of no size, and a board.
use mathlib.Core.Path.{◌≡◌, sym, ap, ◌∙◌}
use borrow.Author.Rules.{rules}
use borrow.Author.Tests.{lt-ltb, le-ltb}
use lib.ListN.{length}
use Rattle.base.proofs.Laws.{choose_yes, choose_no}
use Rattle.script.specs.declared.Parsed.{Parsed}
use Rattle.board_states.specs.declared.Stage.{Stage}
use Rattle.opening.specs.Opens.{opened_by, opened}
use Rattle.opening.proofs.Tags.{no_board}
use Rattle.opening.proofs.open_script.Statement.{statement}
use Rattle.opening.proofs.open_script.Tie as tie

-- the script is short, and its first line is read
short : (c : tie.After-line_at-p)
    → let script = c.args.script.now in
    opened script ≡ opened_by (length script) c.line_at-p.result.next c.line_at-p.result.line
unfolding opened
short c =
    choose_no _ _ (le-ltb _ _ c.if-n-gt4096.false)
    ∙ ap (λ (p : Parsed). opened_by (length c.args.script.now) p.next p.line)
    (sym c.line_at-p.ensures)

returns : tie.Need-returns-then-n-gt4096
unfolding opened
returns c = c.shut_at.ensures ∙ sym (choose_yes _ _ (lt-ltb _ _ c.if-n-gt4096.true))

returns_2 : tie.Need-returns-in_default
returns_2 c =
    let r = c.before.before in
    c.shut_at-in_default.ensures ∙ sym (short r ∙ no_board r.line_at-p.result.line _ _ c.in_default.not-Nodes)

returns_3 : tie.Need-returns-then-bad_size
returns_3 c =
    let b = c in
    let l = b in
    let r = l.before.before in
    c.shut_at-then-bad_size.ensures
    ∙ sym (short r.before.before ∙ ap (opened_by _ r.line_at-p.result.next) l.in-Nodes.is
    ∙ choose_yes _ _ (sym b.bad_size.ensures ∙ c.if-bad_size.true))

returns-4 : tie.Need-returns
returns-4 c =
    let b = c in
    let l = b in
    let r = l.before.before in
    ap (λ (st : Stage). record { stage = st; at = r.line_at-p.result.next; why = 0; line = 0 })
    c.open_stage.ensures
    ∙ sym (short r.before.before ∙ ap (opened_by _ r.line_at-p.result.next) l.in-Nodes.is
    ∙ choose_no _ _ (sym b.bad_size.ensures ∙ c.if-bad_size.false))

pub open_script_spec : {M : Type 1} → statement M
open_script_spec =
    tie.close
    (tie.spec (λ c κs. search rules) returns (λ c κs. search rules) (λ c. search rules) (λ c κs. search rules)
    returns_2 (λ c κs. search rules) (λ c κs. search rules) returns_3 (λ c κs. search rules) returns-4)
