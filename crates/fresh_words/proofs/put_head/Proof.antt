-- `put_head` writes the words of the head: a run of stores.
use borrow.Author.Rules.{rules}
use mathlib.Core.List.{[], ◌∷◌}
use lib.ListN.{length-set}
use lib.Seq.{sets-eq}
use Rattle.fresh_words.proofs.put_head.Statement.{statement}
use Rattle.fresh_words.proofs.put_head.Tie as tie

returns : tie.Need-returns
returns c =
    let a = c.args in
    sets-eq (a.nodes ∷ a.number ∷ a.phase ∷ 1 ∷ 1 ∷ 0 ∷ 1 ∷ 0 ∷ []) a.state.now 0 c.requires

pub put_head_spec : {M : Type 1} → statement M
put_head_spec =
    tie.close
    (tie.spec
    (λ c. search rules)
    (λ c. simp length-set (search rules))
    (λ c. simp length-set (search rules))
    (λ c. simp length-set (search rules))
    (λ c. simp length-set (search rules))
    (λ c. simp length-set (search rules))
    (λ c. simp length-set (search rules))
    (λ c. search rules)
    (λ c. search rules)
    returns)
