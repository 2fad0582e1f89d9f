-- `wake` writes a word for a job, and none for a note.
use borrow.Author.Rules.{rules}
use mathlib.Core.Path.{refl}
use Rattle.node_take.proofs.wake.Statement.{statement}
use Rattle.node_take.proofs.wake.Tie as tie

returns : tie.Need-returns-in-Job
returns c = rw c.in-Job.is refl

pub wake_spec : {M : Type 1} → statement M
wake_spec =
    tie.close
    (tie.spec
    (λ c. search rules)
    (λ c. search rules)
    (λ c. search rules)
    (λ c. search rules)
    returns
    (λ c. search rules))
