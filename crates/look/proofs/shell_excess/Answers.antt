-- `shell_excess`: the words are the numbers of the shell.
use mathlib.Core.Path.{◌∙◌}
use Rattle.layout.proofs.Reading.{number_sent, number_taken}
use Rattle.adding.proofs.Places.{shell}
use Rattle.look.proofs.shell_excess.Goals as goal

pub returns : goal.returns
returns c =
    let a = c.args in
    let h = c.requires in
    let low = (shell a.s.now a.sums.now a.p a.k h.0 a.m h.1 h.2).low in
    let sent = number_sent a.s.now a.p a.k 0 a.m h.1 h.2 low in
    let taken = number_taken a.s.now a.p a.k 0 a.m h.1 h.2 low in
    λ most. c.larger.ensures most ∙ rw (c.excess-one.ensures, c.excess-other.ensures, sent, taken)
