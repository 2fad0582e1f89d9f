-- What is known of a node that makes a barrier call.
use mathlib.Core.Path.{◌≡◌, refl, sym, ap, ◌∙◌, subst}
use mathlib.Core.Logic.{◌⊎◌, inl, inr}
use mathlib.Core.Bool.{Bool, true, false}
use mathlib.Core.Option.{some}
use mathlib.Core.List.{List, [], ◌∷◌, ◌++◌}
use Prim.Native.Nat.{ℕ, ◌<◌}
use native.Mathlib.Omega.{arith}
use Rattle.base.specs.Limits.{Limits, field_limit}
use Rattle.tree.specs.Tree.{dimension, awaited, receivers}
use Rattle.node.specs.Agree.{agrees}
use Rattle.node.specs.Change.{at}
use Rattle.node.specs.Calls.{step_number}
use Rattle.node.specs.declared.Node.{Node}
use Rattle.events.specs.Board.{Board}
use Rattle.cycle.proofs.OnePhase.{dim_of, Unheard, Agrees, at_step}
use Rattle.cycle.proofs.Ledger.{Ledger, Reached}
use Rattle.cycle.proofs.Reached.{invariant}
use Rattle.cycle.proofs.Partners.{Among}
use Rattle.cycle.proofs.Events.{state_of}
use Rattle.events.proofs.Setting.{Setting, tree, awaited_is, hear}
use Rattle.node.proofs.Ways.{NoneDue}
use Rattle.events.proofs.View.{view, agree_like, agree_first, agree_second}
use Rattle.events.proofs.Changes.{like_at}
use Rattle.events.proofs.Sim.{Holds}
use Rattle.events.proofs.Sim.{Sim}
use Rattle.events.proofs.Marks.{Marks}
use Rattle.node.proofs.Valid.{step_first, step_second}
use Rattle.events.proofs.Emit.{dim_step}
use Rattle.events.proofs.Played.{Played, hold, dims_is}

module _ {L : Limits} {P : ℕ} {setting : Setting L P} {w : Board} (play : Played setting w) where
  abbrev p : ℕ
  p = dimension P

  abbrev ledger : Ledger
  ledger = play.ledger

  abbrev reached : Reached (tree setting) (field_limit L) play.ledger
  reached = play.reached

  abbrev sim : Sim setting w play.ledger
  sim = play.sim

  abbrev marks : Marks P w.untaken w.sends w.items play.ledger
  marks = play.marks

  module _ (a : ℕ) (h : a < P) where
    pub dim_at : dim_of p (state_of ledger a).step ≡ (w.nodes a).dim
    dim_at =
        ap (dim_of p) (sym (hold play a h).like.step)
        ∙ dim_step p (w.nodes a).pass (w.nodes a).dim (hold play a h).pass (hold play a h).low

    pub rest_of : (w.nodes a).busy ≡ false → (state_of ledger a).busy ≡ false
    rest_of b = sym (hold play a h).like.busy ∙ b

    pub no_one : (c : ℕ) (rs : List ℕ) → rs ≡ [] → Among rs c → ⊥
    no_one c rs e k = go k.0 (sym k.1.1 ∙ e)
      where
        go : (xs : List ℕ) → xs ++ c ∷ k.1.0 ≡ [] → ⊥
        go [] q = let z : ◌≡◌ {A = ℕ} 0 1 = cc in omega arith
        go (x ∷ xs) q = let z : ◌≡◌ {A = ℕ} 0 1 = cc in omega arith

    pub rcv_is : receivers (w.nodes a).nodes (w.nodes a).dim (w.nodes a).number ≡ receivers P (w.nodes a).dim a
    rcv_is = rw ((hold play a h).nodes, (hold play a h).number) refl

    pub heard_by : (c : ℕ) → c < P → (tree setting).awaited (dim_of p (state_of ledger a).step) c ≡ some a
        → Among (receivers (w.nodes a).nodes (w.nodes a).dim (w.nodes a).number) c
    heard_by c hc q =
        subst (λ rs. Among rs c) (sym rcv_is)
        (hear setting (w.nodes a).dim a c hc (subst (λ d. (tree setting).awaited d c ≡ some a) dim_at q))

    pub mute_of : NoneDue L (w.nodes a)
        → ((state_of ledger a).flag ≡ false) ⊎ Unheard (tree setting) a (state_of ledger a).step
    mute_of (inl f) = inl (sym (hold play a h).like.flag ∙ f)
    mute_of (inr e) = inr (λ c hc q. no_one c _ e (heard_by c hc q))

    pub agree_of : agrees L (w.nodes a) (w.nodes a).pass (w.nodes a).dim ≡ true
        → Agrees p (field_limit L) (state_of ledger a) (state_of ledger a).step
        ((tree setting).awaited (dim_of p (state_of ledger a).step) a)
    agree_of g =
        subst (λ d. Agrees p (field_limit L) (state_of ledger a) (state_of ledger a).step ((tree setting).awaited d a))
        (sym dim_at) (agree_like p (view p n) (state_of ledger a) o.like (field_limit L) (state_of ledger a).step
        ((tree setting).awaited n.dim a)
        ((invariant reached).now a (ledger.phase a) refl)
        (subst (Agrees p (field_limit L) (view p n) (state_of ledger a).step) awaits
        (subst (λ s. Agrees p (field_limit L) (view p n) s (awaited n.nodes n.dim n.number)) o.like.step
        (by o.pass))))
      where
        n : Node
        n = w.nodes a

        o : Holds setting a (w.count a) (w.nodes a) (state_of ledger a)
        o = hold play a h

        awaits : awaited (w.nodes a).nodes (w.nodes a).dim (w.nodes a).number ≡ (tree setting).awaited
            (w.nodes a).dim a
        awaits =
            rw ((hold play a h).nodes, (hold play a h).number)
            (awaited_is setting (w.nodes a).dim a)

        by : ((w.nodes a).pass ≡ 1) ⊎ ((w.nodes a).pass ≡ 2)
            → Agrees p (field_limit L) (view p (w.nodes a)) (step_number p (w.nodes a).pass (w.nodes a).dim)
            (awaited (w.nodes a).nodes (w.nodes a).dim (w.nodes a).number)
        by (inl e) =
            subst (λ s. Agrees p (field_limit L) (view p n) s (awaited n.nodes n.dim n.number))
            (sym (step_first p n.pass n.dim e))
            (agree_first L p n n.dim (dims_is play a h) o.low
            (subst (λ q. agrees L n q n.dim ≡ true) e g))
        by (inr e) =
            subst (λ s. Agrees p (field_limit L) (view p n) s (awaited n.nodes n.dim n.number))
            (sym (step_second p n.pass n.dim e))
            (agree_second L p n n.dim (dims_is play a h) o.low
            (subst (λ q. agrees L n q n.dim ≡ true) e g))

    pub hold_at : (pass d s : ℕ) (f : Bool) (t : ℕ) → (pass ≡ 1) ⊎ (pass ≡ 2) → d < p → step_number p pass d ≡ s
        → Holds setting a (w.count a) (at (w.nodes a) pass d f t) (at_step (state_of ledger a) s f t)
    hold_at pass d s f t q l e =
        let o = hold play a h in
        record {
          nodes = o.nodes;
          number = o.number;
          phase = o.phase;
          pass = q;
          low = l;
          sized = o.sized;
          like = like_at p (w.nodes a) (state_of ledger a) (dims_is play a h) o.like pass d f t s e;
        }

    pub hold_still : Holds setting a (w.count a)
        (at (w.nodes a) (w.nodes a).pass (w.nodes a).dim false (w.nodes a).agreed)
        (at_step (state_of ledger a) (state_of ledger a).step false (state_of ledger a).agreed)
    hold_still =
        let o = hold play a h in
        subst (λ t. Holds setting a (w.count a)
        (at (w.nodes a) (w.nodes a).pass (w.nodes a).dim false (w.nodes a).agreed)
        (at_step (state_of ledger a) (state_of ledger a).step false t)) o.like.agreed
        (hold_at (w.nodes a).pass (w.nodes a).dim (state_of ledger a).step false (w.nodes a).agreed o.pass
        o.low o.like.step)
