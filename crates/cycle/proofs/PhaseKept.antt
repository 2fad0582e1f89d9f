-- Every event of one phase keeps its invariant; a node that leaves, leaves a quiet phase.
use mathlib.Core.Path.{◌≡◌, refl, sym, ap, ◌∙◌, subst}
use mathlib.Core.Bool.{Bool, true, false}
use mathlib.Core.Option.{Option, none}
use mathlib.Core.List.{◌∷◌, ◌++◌}
use Prim.Native.Nat.{ℕ, suc, ◌+◌, ◌-◌, ◌≤◌, ◌<◌, zero-le}
use native.Mathlib.Decide.{dec_le, ℕ_discrete}
use native.Mathlib.Omega.{arith}
use Rattle.cycle.proofs.FinalClaim.{Quiet, final}
use Rattle.cycle.proofs.Tree.{Tree}
use Rattle.cycle.proofs.Growth.{total_taken, Claimed, Growth, same}
use Rattle.cycle.proofs.OwnSums.{Agreed}
use Rattle.cycle.proofs.Lists.{all_append, all_map}
use Rattle.cycle.proofs.Exact.{sent_all, taken_all, entry_of, own_sums}
use Rattle.cycle.proofs.OnePhase.{Content, report, State, PhaseBoard, frame_of, dim_of, posts}
use Rattle.cycle.proofs.OnePhase.{at_step, placed}
use Rattle.cycle.proofs.OnePhase.{Turn, Agrees, alone, first, second}
use Rattle.cycle.proofs.Latest.{Latest, latest_keeps}
use Rattle.cycle.proofs.AtRest.{dim_second}
use Rattle.cycle.proofs.NodeOk.{world, confirmed_in, ContentOk, ParcelOk, NodeOk}
use Rattle.cycle.proofs.NodeOk.{agreed_of, second_ok_lem, frame_ok}
use Rattle.cycle.proofs.Messages.{messages, messages_append, messages_on, messages_on_append}
use Rattle.cycle.proofs.Messages.{messages_reports, messages_on_reports}
use Rattle.cycle.proofs.PhaseInvariant.{reach, load_keep, node_keep}
use Rattle.cycle.proofs.PhaseInvariant.{PhaseInvariant}
use Rattle.cycle.proofs.StillKept.{local, messages_less, messages_on_less, less, not_busy, rests_keep, placed_ok}
use Rattle.cycle.proofs.StillKept.{waits_keep, all_posts, stores_keep}
use Rattle.cycle.proofs.TallyKept.{send_keep, take_keep}

module _ {P p : ℕ} (tree : Tree P p) (limit : ℕ) where
  pub closing : (v : State) (k : ℕ) (o : Option ℕ) → (o ≡ none → ⊥) → suc k ≡ p → Agrees p limit v (p + k) o
      → own_sums v.tallies (λ i. v.stored (p + i)) (suc k) sent_all ≡ v.agreed
  closing v k o n e alone = absurd (n refl)
  closing v k o n e (first w x l g c1 c2 c3 c4) = absurd (omega arith)
  closing v k o n e (second w x l g c3 c5 c6) =
      let d : p + k - p ≡ k = omega arith in
      let c : own_sums v.tallies (λ i. v.stored (p + i)) k sent_all + x sent_all ≡ v.agreed =
      rw d at (c6 (omega arith)) in
      let q : entry_of (v.stored (p + k)) sent_all ≡ x sent_all = rw g refl in
      omega arith

  quiet_now : (b : PhaseBoard) → PhaseInvariant tree limit b → (a : ℕ) → a < P → (b.nodes a).busy ≡ false → (k : ℕ)
      → (b.nodes a).step ≡ p + k → suc k ≡ p
      → Agrees p limit (b.nodes a) (b.nodes a).step (tree.awaited (dim_of p (b.nodes a).step) a)
      → Quiet b.senders (total_taken P (world b)) P (world b).done (b.nodes a).agreed
  quiet_now b i a h bu k e l ag =
      final b.senders (total_taken P (world b)) P (world b).done v.agreed o.part i.below o.in_reach
      (reach tree limit b i) (λ y q. o.claims y zero-le (omega arith)) (sym o.adds ∙ total)
    where
      v : State
      v = b.nodes a

      ok : NodeOk tree limit b a v
      ok = i.nodes_ok a h

      here : Agrees p limit v (p + k) (tree.awaited k a)
      here = rw (dim_second p k) at (subst (λ s. Agrees p limit v s (tree.awaited (dim_of p s) a)) e ag)

      all : (j : ℕ) → j < p → Agreed tree v.agreed (tree.awaited j a) (confirmed_in (v.stored (p + j)))
      all j q = go (ℕ_discrete j k)
        where
          go : Dec (j ≡ k) → Agreed tree v.agreed (tree.awaited j a) (confirmed_in (v.stored (p + j)))
          go (yes f) = rw f (agreed_of tree limit v k (tree.awaited k a) here)
          go (no f) =
              agreed_of tree limit v j (tree.awaited j a) (rw (dim_second p j) at (ok.agrees (p + j) (omega arith)))

      o : Claimed P (world b) 0 P v.agreed (own_sums v.tallies (λ i. v.stored (p + i)) p sent_all)
      o =
          subst (λ n. Claimed P (world b) 0 n v.agreed (own_sums v.tallies (λ i. v.stored (p + i)) p sent_all))
          (tree.size_top a h)
          (subst (λ n. Claimed P (world b) n (tree.size p a) v.agreed
          (own_sums v.tallies (λ i. v.stored (p + i)) p sent_all)) (tree.low_top a h)
          (second_ok_lem tree limit b a v h ok refl (reach tree limit b i) bu p (omega arith) (omega arith) all))

      total : own_sums v.tallies (λ i. v.stored (p + i)) p sent_all ≡ v.agreed
      total =
          subst (λ n. own_sums v.tallies (λ i. v.stored (p + i)) n sent_all ≡ v.agreed) l
          (closing v k (tree.awaited k a) (tree.not_last k a h l) l here)

  moves_keep : (b : PhaseBoard) → PhaseInvariant tree limit b → (a T : ℕ) → a < P → (b.nodes a).busy ≡ false
      → (b.nodes a).step < p + p
      → Agrees p limit (b.nodes a) (b.nodes a).step (tree.awaited (dim_of p (b.nodes a).step) a)
      → (p ≤ (b.nodes a).step → T ≡ (b.nodes a).agreed)
      → (suc (b.nodes a).step ≡ p → T ≡ own_sums (b.nodes a).tallies (b.nodes a).stored p taken_all)
      → (b.lossy ≡ false → Latest tree (placed b a (at_step (b.nodes a) (suc (b.nodes a).step) true T) b.items))
      → PhaseInvariant tree limit (placed b a (at_step (b.nodes a) (suc (b.nodes a).step) true T) b.items)
  moves_keep b i a T h bu l ag t t1 la =
      local tree limit b i a (at_step v (suc v.step) true T) b.items h refl (λ q. q)
      (placed_ok tree limit b a v (suc v.step) true T ok (omega arith) (λ q. agreed_now q (dec_le p v.step)) ags
      (λ i k q. t (omega arith)))
      i.items_ok refl (λ y z. refl) (λ q. not_busy tree limit v bu q)
      (λ q. subst (λ T. Quiet b.senders (total_taken P (world b)) P (world b).done T) (sym (t (omega arith)))
      (quiet_now b i a h bu (v.step - p) (omega arith) (omega arith) ag)) la
    where
      v : State
      v = b.nodes a

      ok : NodeOk tree limit b a v
      ok = i.nodes_ok a h

      agreed_now : p ≤ suc v.step → Dec (p ≤ v.step) → T ≡ own_sums v.tallies v.stored p taken_all
      agreed_now q (yes d) = t d ∙ ok.agreed_is d
      agreed_now q (no d) = t1 (omega arith)

      ags : (s : ℕ) → s < suc v.step → Agrees p limit v s (tree.awaited (dim_of p s) a)
      ags s q = go (ℕ_discrete s v.step)
        where
          go : Dec (s ≡ v.step) → Agrees p limit v s (tree.awaited (dim_of p s) a)
          go (yes f) = subst (λ s. Agrees p limit v s (tree.awaited (dim_of p s) a)) (sym f) ag
          go (no f) = ok.agrees s (omega arith)

  pub phase_keeps : (b b' : PhaseBoard) → Turn tree limit b b' → PhaseInvariant tree limit b
      → PhaseInvariant tree limit b'
  phase_keeps b b' g i = by b b' g i (latest_keeps tree limit b b' g i.busy_start i.latest)
    where
      by : (b b' : PhaseBoard) → Turn tree limit b b' → PhaseInvariant tree limit b
          → (b'.lossy ≡ false → Latest tree b') → PhaseInvariant tree limit b'
      by b b' (Turn.sends a c j h hc l sl bu lm) i la = send_keep tree limit b i a c j h hc l sl bu lm la
      by b b' (Turn.rests a h) i la = rests_keep tree limit b i a h la
      by b b' (Turn.takes xs ys a c j t ha h l sl e u) i la = take_keep tree limit b i xs ys a c j t h l sl e u la
      by b b' (Turn.stores xs ys a c s x h sp e f l aw m) i la =
          stores_keep tree limit b i xs ys a c s x (b.nodes c).step (b.nodes c).flag
          (b.nodes c).agreed h sp e l aw m
          (omega arith) (λ q. refl) (i.busy_start c) la
      by b b' (Turn.falls xs ys a c s x T h sp e f l aw m t) i la =
          stores_keep tree limit b i xs ys a c s x s false T h sp e l aw (omega arith) (omega arith) t
          (λ q. absurd (omega (arith, (i.busy_start c q).0))) la
      by b b' (Turn.drops xs ys a c s x h e l) i la =
          local tree limit b i c (b.nodes c) (xs ++ ys) h refl
          (λ q. q) (i.nodes_ok c h) (less tree limit b i xs ys (record { from = a; to = c; load = report s x }) e).1
          (messages_less tree limit b xs ys a c s x e) (messages_on_less tree limit b xs ys a c s x e) (i.busy_start c)
          (i.quiet c h) la
      by b b' (Turn.puts a rs h bu l rc) i la =
          let q = report (b.nodes a).step (frame_of p (b.nodes a) (b.nodes a).step) in
          waits_keep tree limit b i a h bu (b.items ++ posts a q rs)
          (all_append (ParcelOk tree limit b) b.items (posts a q rs) i.items_ok
          (all_posts tree limit b a q rs (frame_ok tree limit b a h (i.nodes_ok a h) (reach tree limit b i) bu
          (b.nodes a).step l (omega arith)))) (omega (
            arith,
            messages_append b.items (posts a q rs),
            messages_reports a (b.nodes a).step (frame_of p (b.nodes a) (b.nodes a).step) rs,
          )) (λ y z. omega (
            arith,
            messages_on_append y z b.items (posts a q rs),
            messages_on_reports y z a (b.nodes a).step (frame_of p (b.nodes a) (b.nodes a).step) rs,
          )) la
      by b b' (Turn.waits a h bu f) i la =
          waits_keep tree limit b i a h bu b.items i.items_ok refl (λ y z. refl) la
      by b b' (Turn.moves a T h bu l f ag t t1) i la = moves_keep b i a T h bu l ag t t1 la
      by b b' (Turn.loses xs ys t e) i la =
          record {
            nodes_ok = λ a h. again a (i.nodes_ok a h);
            items_ok =
                all_map (ParcelOk tree limit b) (ParcelOk tree limit b')
                (λ t x. again_load t.from t.load x) (xs ++ ys) (less tree limit b i xs ys t e).1;
            below = i.below;
            covers = omega (arith, i.covers, ap messages e, messages_append xs (t ∷ ys), messages_append xs ys);
            covers_pairs =
                λ y z. omega (
                  arith,
                  i.covers_pairs y z,
                  ap (messages_on y z) e,
                  messages_on_append y z xs (t ∷ ys),
                  messages_on_append y z xs ys,
                );
            balance = λ q. never q;
            pairs = λ q. never q;
            sent_shells = i.sent_shells;
            taken_shells = i.taken_shells;
            small = i.small;
            busy_start = i.busy_start;
            quiet = i.quiet;
            latest = la;
          }
        where
          never : {A : Type 0} → ◌≡◌ {A = Bool} true false → A
          never q = let y : ◌≡◌ {A = ℕ} 0 1 = cc in absurd (omega arith)

          ev : Growth P (world b) (world b')
          ev = same refl (λ y. refl) (λ y d. d)

          again : (a : ℕ) → NodeOk tree limit b a (b.nodes a) → NodeOk tree limit b' a (b.nodes a)
          again a ok = node_keep tree limit b b' ev (λ y f. omega arith) (reach tree limit b i) a (b.nodes a) refl ok

          again_load : (w : ℕ) (q : Content) → ContentOk tree limit b w q → ContentOk tree limit b' w q
          again_load w q x = load_keep tree limit b b' ev (λ y f. omega arith) (reach tree limit b i) w q x
