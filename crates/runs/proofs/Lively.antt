-- The second half of the claim (rule P5), for two nodes and more: no board sticks.
use mathlib.Core.Path.{◌≡◌, refl, sym, ap, ◌∙◌, subst}
use mathlib.Core.Logic.{◌≢◌, ◌⊎◌, inl, inr}
use mathlib.Core.Bool.{Bool, true, false}
use mathlib.Core.List.{List, [], ◌∷◌, Memᴰ}
use Prim.Native.Nat.{ℕ, zero, suc, ◌+◌, ◌-◌, ◌*◌, ◌≤◌, ◌<◌}
use native.Mathlib.Decide.{ℕ_discrete}
use native.Mathlib.Omega.{arith}
use lib.Dec.{ltb, eqb}
use borrow.Author.Tests.{eq-eqb, ne_eqb}
use Rattle.base.specs.Limits.{Limits, field_limit}
use Rattle.base.proofs.Laws.{clash, choose_yes, choose_no, cases}
use Rattle.tree.specs.Tree.{dimension}
use Rattle.frame.specs.Frame.{frame_length}
use Rattle.node.specs.Sums.{dims}
use Rattle.node.specs.Agree.{agrees}
use Rattle.node.specs.State.{valid}
use Rattle.node.specs.Answers.{Given, Barrier}
use Rattle.node.specs.Barrier.{length_due, receivers_due, leaving, moving, looking, barrier}
use Rattle.node.specs.declared.Node.{Node}
use Rattle.events.specs.Board.{Item, Board, Event, run}
use Rattle.runs.specs.Claim.{Goes, Lives, NoLoss}
use Rattle.cycle.proofs.Sums.{pick}
use Rattle.cycle.proofs.Lists.{All}
use Rattle.cycle.proofs.OnePhase.{Parcel, dim_of, Unheard, Agrees}
use Rattle.cycle.proofs.AtRest.{least}
use Rattle.cycle.proofs.Ledger.{Dated, Ledger, of_phase}
use Rattle.cycle.proofs.Reached.{no_board_sticks}
use Rattle.cycle.proofs.Events.{state_of}
use Rattle.events.proofs.Setting.{Setting, tree}
use Rattle.node.proofs.Ways.{NoneDue, call_sends_lem, call_looks}
use Rattle.events.proofs.Pairs.{pair_all, placed, mate}
use Rattle.events.proofs.Sim.{Carried, Sim}
use Rattle.node.proofs.Valid.{step_first, step_second}
use Rattle.events.proofs.Caller.{mute_of}
use Rattle.runs.proofs.Agreeing.{agrees_first, agrees_second}
use Rattle.runs.proofs.Calm.{Calm, calm_run}

-- ---- looking for one

-- a number below n with G, and that there is none
abbrev SomeBelow : ℕ → (ℕ → Type 0) → Type 0
SomeBelow n G = (a : ℕ) × ((a < n) × G a)

abbrev NoneBelow : ℕ → (ℕ → Type 0) → Type 0
NoneBelow n G = (a : ℕ) → a < n → G a → ⊥

search_below : (G : ℕ → Type 0) → ((a : ℕ) → Dec (G a)) → (n : ℕ) → SomeBelow n G ⊎ NoneBelow n G
search_below G d zero = inr (λ a l g. omega arith)
search_below G d (suc n) = go (search_below G d n) (d n)
  where
    go : SomeBelow n G ⊎ NoneBelow n G → Dec (G n) → SomeBelow (suc n) G ⊎ NoneBelow (suc n) G
    go (inl r) e = inl (r.0, (omega (arith, r.1.0), r.1.1))
    go (inr f) (yes g) = inl (n, (omega arith, g))
    go (inr f) (no h) = inr (λ a l g. at a l g (ℕ_discrete a n))
      where
        at : (a : ℕ) → a < suc n → G a → Dec (a ≡ n) → ⊥
        at a l g (yes z) = h (subst G z g)
        at a l g (no z) = f a (omega arith) g

search_list : (G : Item → Type 0) → ((m : Item) → Dec (G m)) → (l : List Item)
    → ((m : Item) × (Memᴰ m l × G m)) ⊎ All (λ m. G m → ⊥) l
search_list G d [] = inr tt
search_list G d (m ∷ l) = go (search_list G d l) (d m)
  where
    go : ((m : Item) × (Memᴰ m l × G m)) ⊎ All (λ m. G m → ⊥) l → Dec (G m)
        → ((x : Item) × (Memᴰ x (m ∷ l) × G x)) ⊎ All (λ m. G m → ⊥) (m ∷ l)
    go r (yes g) = inl (m, (Memᴰ.head refl, g))
    go (inl r) (no h) = inl (r.0, (Memᴰ.tail r.1.0, r.1.1))
    go (inr f) (no h) = inr (h, f)

both_dec : {A B : Type 0} → Dec A → Dec B → Dec (A × B)
both_dec (yes a) (yes b) = yes (a, b)
both_dec (yes a) (no b) = no (λ q. b q.1)
both_dec (no a) d = no (λ q. a q.0)

true_dec : (b : Bool) → Dec (b ≡ true)
true_dec true = yes refl
true_dec false = no (λ q. clash (sym q))

false_is : (b : Bool) → (b ≡ true → ⊥) → b ≡ false
false_is true h = absurd (h refl)
false_is false h = refl

-- a frame is due: flag 1 and someone to send to
pub data Due (n : Node) : Type 0 where
  due : (first : ℕ) (rest : List ℕ) → n.flag ≡ true → receivers_due n ≡ first ∷ rest → Due n

due? : (n : Node) → Dec (Due n)
due? n = go n.flag refl (receivers_due n) refl
  where
    none : Due n → (receivers_due n ≡ [] → ⊥) × (n.flag ≡ false → ⊥)
    none (due x l f e) = ((λ q. let z : ◌≡◌ {A = ℕ} 0 1 = cc in omega arith), (λ q. clash (sym f ∙ q)))

    go : (t : Bool) → n.flag ≡ t → (to : List ℕ) → receivers_due n ≡ to → Dec (Due n)
    go true f (x ∷ l) e = yes (due x l f e)
    go true f [] e = no (λ d. (none d).0 e)
    go false f to e = no (λ d. (none d).1 f)

none_due : (L : Limits) (n : Node) → (Due n → ⊥) → NoneDue L n
none_due L n h = go n.flag refl (receivers_due n) refl
  where
    go : (t : Bool) → n.flag ≡ t → (to : List ℕ) → receivers_due n ≡ to → NoneDue L n
    go true f (x ∷ l) e = absurd (h (due x l f e))
    go true f [] e = inr e
    go false f to e = inl f

phase_all : (n : ℕ) (G : Parcel → Type 0) (ms : List Dated) → All (λ m. m.phase ≡ n → G m.item) ms
    → All G (of_phase n ms)
phase_all n G [] h = tt
phase_all n G (m ∷ ms) h = go (ℕ_discrete m.phase n) (phase_all n G ms h.1)
  where
    go : (d : Dec (m.phase ≡ n)) → All G (of_phase n ms)
        → All G (pick {A = List Parcel} d (m.item ∷ of_phase n ms) (of_phase n ms))
    go (yes e) r = (h.0 e, r)
    go (no e) r = r

module _ (L : Limits) (P : ℕ) where
  -- ---- a node that would go on

  look_goes : (n : Node) → agrees L n n.pass n.dim ≡ true → Goes L P (looking L n).answer
  look_goes n g =
      cases Going (eqb (dims n) 0) (leaving n) _ (λ e. Goes.leaving)
      (λ e. subst Going (sym (choose_yes (moving n) _ g))
      (cases Going (ltb (suc n.dim) (dims n)) _ _ (λ f. Goes.moving)
      (λ f. cases Going (eqb n.pass 1) _ _ (λ h. Goes.moving) (λ h. Goes.leaving))))
    where
      Going : Given Barrier → Type 0
      Going y = Goes L P y.answer

  -- a frame is due
  send_goes : (n : Node) (len : ℕ) → valid L n ≡ true → n.busy ≡ false → Due n → length_due n ≤ len
      → Goes L P (barrier L n len).answer
  send_goes n len v b (due first rest f e) l =
      subst (λ (y : Given Barrier). Goes L P y.answer) (sym (call_sends_lem L n len first rest v b f e l))
      (Goes.sending _ _)

  -- none is due, and the step agrees
  move_goes : (n : Node) (len : ℕ) → valid L n ≡ true → n.busy ≡ false → NoneDue L n
      → agrees L n n.pass n.dim ≡ true → Goes L P (barrier L n len).answer
  move_goes n len v b d g =
      subst (λ (y : Given Barrier). Goes L P y.answer) (sym (call_looks L n len v b d)) (look_goes n g)

  longest : (p pass k : ℕ) → (pass ≡ 1) ⊎ (pass ≡ 2) → frame_length p pass k ≤ frame_length p 1 0
  unfolding frame_length
  longest p pass k (inl e) = let z = choose_yes (4 + 8 * (p - k) + 8) 12 (eq-eqb pass 1 e) in omega arith
  longest p pass k (inr e) =
      let z = choose_no (4 + 8 * (p - k) + 8) 12 (ne_eqb pass 1 (λ q. omega arith)) in omega arith

module _ {L : Limits} {P : ℕ} (setting : Setting L P) where
  abbrev p : ℕ
  p = dimension P

  module _ (w : Board) (s : Calm setting w) where
    abbrev ledger : Ledger
    ledger = s.standing.played.ledger

    abbrev sim : Sim setting w s.standing.played.ledger
    sim = s.standing.played.sim

    ok : (a : ℕ) → a < P → valid L (w.nodes a) ≡ true
    ok a h = s.standing.accepted a h

    to_lt : (m : Item) → Memᴰ m w.items → m.to < P
    to_lt m k =
        (mate (Carried setting) m w.items ledger.items (placed m w.items k) sim.items).related.to_lt

    -- a node of the oldest phase
    u : ℕ
    u = (least w.count P (omega arith)).0

    hu : u < P
    unfolding u
    hu = (least w.count P (omega arith)).1.0

    old : (y : ℕ) → y < P → w.count u ≤ w.count y
    unfolding u
    old = (least w.count P (omega arith)).1.1

    from_old : (a : ℕ) → w.count a ≡ w.count u → (y : ℕ) → y < P → w.count a ≤ w.count y
    from_old a e y h = omega (arith, old y h)

    -- in the oldest phase: node a is busy; an item of it is under way to a node in it; node a has a frame to send
    abbrev Working : ℕ → Type 0
    Working a = (w.count a ≡ w.count u) × (w.busy a ≡ true)

    abbrev Coming : Item → Type 0
    Coming m = (m.phase ≡ w.count u) × (w.count m.to ≡ w.count u)

    abbrev Sending : ℕ → Type 0
    Sending a = (w.count a ≡ w.count u) × Due (w.nodes a)

    idle_of : NoneBelow P Working → (a : ℕ) → a < P → w.count a ≡ w.count u → (w.nodes a).busy ≡ false
    idle_of f a h e = sim.busy a h ∙ false_is (w.busy a) (λ q. f a h (e, q))

    mute_now : NoneBelow P Sending → (a : ℕ) → a < P → w.count a ≡ w.count u → NoneDue L (w.nodes a)
    mute_now f a h e = none_due L (w.nodes a) (λ q. f a h (e, q))

    stuck : NoneBelow P Working → All (λ m. Coming m → ⊥) w.items → NoneBelow P Sending
        → (a : ℕ) × ((a < P) × ((w.count a ≡ w.count u)
        × (agrees L (w.nodes a) (w.nodes a).pass (w.nodes a).dim ≡ true)))
    stuck f1 f2 f3 =
        let r = no_board_sticks s.standing.played.reached u hu
        (s.calm (ledger.phase u))
        (λ y h. omega (arith, old y h, sim.counts u, sim.counts y)) rest under nobody in
        (r.0, (r.1.0, (back r.0 r.1.1.0, agrees_of r.0 r.1.0 r.1.1.0 r.1.1.1)))
      where
        back : (a : ℕ) → ledger.phase a ≡ ledger.phase u → w.count a ≡ w.count u
        back a e = sim.counts a ∙ e ∙ sym (sim.counts u)

        rest : (a : ℕ) → a < P → ledger.phase a ≡ ledger.phase u
            → ((ledger.pages (ledger.phase u)).nodes a).busy ≡ false
        rest a h e =
            subst (λ n. ((ledger.pages n).nodes a).busy ≡ false) e
            (sym (sim.node a h).like.busy ∙ idle_of f1 a h (back a e))

        nobody : (a : ℕ) → a < P → ledger.phase a ≡ ledger.phase u
            → (((ledger.pages (ledger.phase u)).nodes a).flag ≡ false) ⊎ Unheard (tree setting) a
            ((ledger.pages (ledger.phase u)).nodes a).step
        nobody a h e =
            subst (λ n. (((ledger.pages n).nodes a).flag ≡ false) ⊎ Unheard (tree setting) a
            ((ledger.pages n).nodes a).step) e
            (mute_of s.standing.played a h (mute_now f3 a h (back a e)))

        under : All (λ t. (t.to < P) × (ledger.phase u < ledger.phase t.to))
            (of_phase (ledger.phase u) ledger.items)
        under =
            phase_all (ledger.phase u)
            (λ t. (t.to < P) × (ledger.phase u < ledger.phase t.to)) ledger.items
            (pair_all (Carried setting) (λ m. Coming m → ⊥)
            (λ m. m.phase ≡ ledger.phase u
            → (m.item.to < P) × (ledger.phase u < ledger.phase m.item.to))
            (λ m t c f e. one m t c f e) w.items ledger.items sim.items f2)
          where
            one : (m : Item) (t : Dated) → Carried setting m t → (Coming m → ⊥) → t.phase ≡ ledger.phase u
                → (t.item.to < P) × (ledger.phase u < ledger.phase t.item.to)
            one m t c f e =
                let d : m.to < P = c.to_lt in
                let z : w.count m.to ≡ ledger.phase t.item.to = sim.counts m.to
                ∙ ap ledger.phase c.to in
                let ne : w.count m.to ≢ w.count u = λ y. f (c.phase ∙ e ∙ sym (sim.counts u), y) in
                (omega (arith, c.to), omega (arith, old m.to d, sim.counts u, z, ne))

        agrees_of : (a : ℕ) → a < P → ledger.phase a ≡ ledger.phase u
            → Agrees p (field_limit L) ((ledger.pages (ledger.phase u)).nodes a)
            ((ledger.pages (ledger.phase u)).nodes a).step
            ((tree setting).awaited (dim_of p ((ledger.pages (ledger.phase u)).nodes a).step) a)
            → agrees L (w.nodes a) (w.nodes a).pass (w.nodes a).dim ≡ true
        agrees_of a h e g =
            by (sim.node a h).pass (subst (λ n. Agrees p (field_limit L) ((ledger.pages n).nodes a)
            ((ledger.pages n).nodes a).step
            ((tree setting).awaited (dim_of p ((ledger.pages n).nodes a).step) a)) (sym e) g)
          where
            by : ((w.nodes a).pass ≡ 1) ⊎ ((w.nodes a).pass ≡ 2)
                → Agrees p (field_limit L) (state_of ledger a) (state_of ledger a).step
                ((tree setting).awaited (dim_of p (state_of ledger a).step) a)
                → agrees L (w.nodes a) (w.nodes a).pass (w.nodes a).dim ≡ true
            by (inl q) g =
                let at_is : (state_of ledger a).step ≡ (w.nodes a).dim = sym (sim.node a h).like.step
                ∙ step_first p (w.nodes a).pass (w.nodes a).dim q in
                subst (λ x. agrees L (w.nodes a) x (w.nodes a).dim ≡ true) (sym q)
                (agrees_first setting ledger s.standing.played.reached a (w.count a) h (w.nodes a)
                (sim.node a h) (w.nodes a).dim (sim.node a h).low
                (subst (λ t. Agrees p (field_limit L) (state_of ledger a) t
                ((tree setting).awaited (dim_of p t) a)) at_is g))
            by (inr q) g =
                let at_is : (state_of ledger a).step ≡ p + (w.nodes a).dim = sym (sim.node a h).like.step
                ∙ step_second p (w.nodes a).pass (w.nodes a).dim q in
                subst (λ x. agrees L (w.nodes a) x (w.nodes a).dim ≡ true) (sym q)
                (agrees_second setting ledger s.standing.played.reached a (w.count a) h (w.nodes a)
                (sim.node a h) (w.nodes a).dim (sim.node a h).low
                (subst (λ t. Agrees p (field_limit L) (state_of ledger a) t
                ((tree setting).awaited (dim_of p t) a)) at_is g))

    lives_now : Lives L P w
    lives_now =
        go (search_below Working
        (λ a. both_dec (ℕ_discrete (w.count a) (w.count u)) (true_dec (w.busy a))) P)
        (search_list Coming
        (λ m. both_dec (ℕ_discrete m.phase (w.count u)) (ℕ_discrete (w.count m.to) (w.count u))) w.items)
        (search_below Sending
        (λ a. both_dec (ℕ_discrete (w.count a) (w.count u)) (due? (w.nodes a))) P)
      where
        frame_le : (a : ℕ) → a < P → (len : ℕ) → frame_length (dimension P) 1 0 ≤ len
            → frame_length (dims (w.nodes a)) (w.nodes a).pass (w.nodes a).dim ≤ len
        frame_le a h len l =
            let z : frame_length (dims (w.nodes a)) (w.nodes a).pass (w.nodes a).dim ≡ frame_length p
            (w.nodes a).pass (w.nodes a).dim =
            ap (λ d. frame_length d (w.nodes a).pass (w.nodes a).dim) (ap dimension (sim.node a h).nodes) in
            omega (arith, z, longest L P p (w.nodes a).pass (w.nodes a).dim (sim.node a h).pass)

        go : SomeBelow P Working ⊎ NoneBelow P Working → ((m : Item) × (Memᴰ m w.items × Coming m))
            ⊎ All (λ m. Coming m → ⊥) w.items → SomeBelow P Sending ⊎ NoneBelow P Sending → Lives L P w
        go (inl r) f2 f3 = Lives.busy r.0 (r.1.0, from_old r.0 r.1.1.0) r.1.1.1
        go (inr f1) (inl r) f3 =
            Lives.under_way r.0.to (
              to_lt r.0 r.1.0,
              from_old r.0.to r.1.1.1,
            ) r.0 r.1.0 refl (r.1.1.0 ∙ sym r.1.1.1)
        go (inr f1) (inr f2) (inl r) =
            Lives.goes r.0 (r.1.0, from_old r.0 r.1.1.0)
            (λ len l. send_goes L P (w.nodes r.0) len (ok r.0 r.1.0)
            (idle_of f1 r.0 r.1.0 r.1.1.0) r.1.1.1 (frame_le r.0 r.1.0 len l))
        go (inr f1) (inr f2) (inr f3) =
            let r = stuck f1 f2 f3 in
            Lives.goes r.0 (r.1.0, from_old r.0 r.1.1.0)
            (λ len l. move_goes L P (w.nodes r.0) len (ok r.0 r.1.0)
            (idle_of f1 r.0 r.1.0 r.1.1.0) (mute_now f3 r.0 r.1.0 r.1.1.0) r.1.1.1)

  pub every_run_lives : (es : List Event) → NoLoss es → Lives L P (run L P es)
  every_run_lives es l = lives_now (run L P es) (calm_run setting es l)
