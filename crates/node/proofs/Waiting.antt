-- The clause that a wait names: the lowest-numbered that fails, and 0 exactly where no frame is stored for the step.
use mathlib.Core.Path.{◌≡◌, refl, sym, ap, ◌∙◌}
use mathlib.Core.Logic.{◌≢◌}
use mathlib.Core.Bool.{Bool, true, false}
use mathlib.Core.List.{List}
use Prim.Native.Nat.{ℕ, zero, suc, ◌<◌}
use native.Mathlib.Omega.{arith}
use lib.Dec.{eqb}
use lib.ListN.{get_or}
use Rattle.base.specs.Choice.{choose}
use Rattle.base.specs.Limits.{Limits}
use Rattle.base.proofs.Laws.{clash}
use Rattle.node.specs.Sums.{dims, first_at, second_at, own, own_issued}
use Rattle.node.specs.Agree.{is_alone, first_clauses, second_clauses, clauses, all_hold, agrees}
use Rattle.node.specs.Answers.{Given, Barrier, sent, waits, moved, left, barred}
use Rattle.node.specs.Barrier.{barrier}
use Rattle.node.specs.declared.Node.{Node}
use Rattle.node.proofs.FirstFailing.{Lowest, lowest}
use Rattle.node.proofs.Ways.{CallWay, call_way}

-- the clause of an answer, 0 where it is none
abbrev named : Barrier → ℕ
named (sent to length) = 0
named (waits clause) = clause
named moved = 0
named left = 0
named (barred x) = 0

abbrev is_wait : Barrier → Bool
is_wait (sent to length) = false
is_wait (waits clause) = true
is_wait moved = false
is_wait left = false
is_wait (barred x) = false

module _ (L : Limits) (n : Node) where
  abbrev tests : List Bool
  tests = clauses L n n.pass n.dim

  -- a step that does not agree is not an alone one, and some clause fails
  some_fails : agrees L n n.pass n.dim ≡ false → all_hold tests ≡ false
  unfolding agrees
  some_fails e = go (is_alone n n.dim) e
    where
      go : (t : Bool) → choose t true (all_hold tests) ≡ false → all_hold tests ≡ false
      go true q = clash q
      go false q = q

  module _ (room c : ℕ) (e : (barrier L n room).answer ≡ waits c) where
    pub wait_lowest : Lowest tests c
    wait_lowest = go (call_way L n room) (ap is_wait e) (ap named e)
      where
        go : {r : Given Barrier} → CallWay L n room r → is_wait r.answer ≡ true → named r.answer ≡ c → Lowest tests c
        go (CallWay.refused x s) h q = clash (sym h)
        go (CallWay.sends a to o b f e l) h q = clash (sym h)
        go (CallWay.waits o b d z g) h q = rw (← q) (lowest tests (some_fails g))
        go (CallWay.next o b d g l) h q = clash (sym h)
        go (CallWay.second o b d z g l e) h q = clash (sym h)
        go (CallWay.leaves o b d z g l e) h q = clash (sym h)
        go (CallWay.single o b z) h q = clash (sym h)

    pub wait_fails : get_or tests c true ≡ false
    wait_fails = wait_lowest.fails

    pub wait_lower : (i : ℕ) → i < c → get_or tests i true ≡ true
    wait_lower = wait_lowest.lower

  -- whether a frame is stored for the position's step
  abbrev stored : Bool
  stored = choose (eqb n.pass 1) (first_at n n.dim).present (second_at n n.dim).present

  clause_0 : get_or tests 0 true ≡ stored
  unfolding first_clauses second_clauses
  clause_0 = go (eqb n.pass 1)
    where
      go : (t : Bool)
          → get_or
          (choose t (first_clauses L (dims n) n.dim (own n n.dim) (first_at n n.dim))
          (second_clauses L (dims n) n.dim (own_issued n n.dim) n.agreed (second_at n n.dim)))
          0 true
          ≡ choose t (first_at n n.dim).present (second_at n n.dim).present
      go true = refl
      go false = refl

  pub wait_unstored : (room c : ℕ) → (barrier L n room).answer ≡ waits c → stored ≡ false → c ≡ 0
  wait_unstored room zero e s = refl
  wait_unstored room (suc c) e s = clash (sym (wait_lower room (suc c) e 0 (omega arith)) ∙ clause_0 ∙ s)

  pub wait_stored : (room c : ℕ) → (barrier L n room).answer ≡ waits c → stored ≡ true → c ≢ 0
  wait_stored room c e s z =
      let f : (barrier L n room).answer ≡ waits 0 = e ∙ ap waits z in
      clash (sym s ∙ sym clause_0 ∙ wait_fails room 0 f)
