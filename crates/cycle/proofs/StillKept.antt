-- Events that change no tally keep the invariant of a phase.
use mathlib.Core.Path.{◌≡◌, refl, sym, ap, ◌∙◌, subst}
use mathlib.Core.Bool.{Bool, true, false}
use mathlib.Core.Option.{some}
use mathlib.Core.List.{List, [], ◌∷◌, ◌++◌}
use Prim.Native.Nat.{ℕ, ◌+◌, ◌≤◌, ◌<◌}
use native.Mathlib.Omega.{arith}
use Rattle.cycle.proofs.Sums.{update, update_all, update_other, sum_ext}
use Rattle.cycle.proofs.FinalClaim.{Quiet}
use Rattle.cycle.proofs.Tree.{Tree}
use Rattle.cycle.proofs.Growth.{total_taken, Growth, same}
use Rattle.cycle.proofs.Lists.{All, all_mid}
use Rattle.cycle.proofs.Exact.{Entry, taken_all, Entries, own_sums}
use Rattle.cycle.proofs.OnePhase.{Content, report, Parcel, State, PhaseBoard, dim_of, posts}
use Rattle.cycle.proofs.OnePhase.{at_step, with_stored, with_tallies, placed}
use Rattle.cycle.proofs.OnePhase.{Agrees}
use Rattle.cycle.proofs.Latest.{own_same, Latest}
use Rattle.cycle.proofs.NodeOk.{world, agree_same, FrameOk, StoredOk, ContentOk, ParcelOk, NodeOk}
use Rattle.cycle.proofs.Messages.{messages, messages_on, messages_append, messages_on_append, report_on}
use Rattle.cycle.proofs.PhaseInvariant.{reach, items_keep, node_keep, quiet_keep, grows}
use Rattle.cycle.proofs.PhaseInvariant.{phase_keep, PhaseInvariant}

module _ {P p : ℕ} (tree : Tree P p) (limit : ℕ) where
  pub local : (b : PhaseBoard) → PhaseInvariant tree limit b → (a : ℕ) (v : State) (is : List Parcel) → a < P
      → v.tallies ≡ (b.nodes a).tallies → ((b.nodes a).busy ≡ false → v.busy ≡ false)
      → NodeOk tree limit b a v → All (ParcelOk tree limit b) is → messages is ≡ messages b.items
      → ((y z : ℕ) → messages_on y z is ≡ messages_on y z b.items)
      → (v.busy ≡ true → (v.step ≡ 0) × (v.flag ≡ true))
      → (p + p ≤ v.step → Quiet b.senders (total_taken P (world b)) P (world b).done v.agreed)
      → (b.lossy ≡ false → Latest tree (placed b a v is)) → PhaseInvariant tree limit (placed b a v is)
  local b i a v is h te bu ok its j1 j2 b0 qu la =
      phase_keep tree limit b i a v is b.senders b.sent_between b.taken_between (
      record {
        here = h;
        evol = ev;
        grow = gr;
        others = λ y n. refl;
        node = node_keep tree limit b b' ev (grows tree limit b a v gr) (reach tree limit b i) a v refl ok;
        items = items_keep tree limit b b' ev (grows tree limit b a v gr) (reach tree limit b i) is its;
        below = i.below;
        covers = omega (arith, sum_ext (world b').taken (world b).taken 0 P (λ y k l. got y), j1, i.covers);
        covers_pairs = λ y z. omega (arith, i.covers_pairs y z, j2 y z);
        balance =
            λ ll. omega (arith, sum_ext (world b').taken (world b).taken 0 P (λ y k l. got y), j1, i.balance ll);
        pairs = λ ll y z. omega (arith, i.pairs ll y z, j2 y z);
        rows = λ y n z. refl;
        columns = λ z n y. refl;
        sent_shells = λ k l. rw te (i.sent_shells a h k l);
        taken_shells = λ k l. rw te (i.taken_shells a h k l);
        small = i.small;
        busy_start = b0;
        quiet = λ l. quiet_keep tree limit (world b) (world b') v.agreed ev (qu l);
        latest = la;
      })
    where
      b' : PhaseBoard
      b' = placed b a v is

      gr : (f : Entry) → (b.nodes a).tallies f ≤ v.tallies f
      gr f = rw te (omega arith)

      got : (y : ℕ) → (update b.nodes a v y).tallies taken_all ≡ (b.nodes y).tallies taken_all
      got =
          update_all (λ y u. u.tallies taken_all ≡ (b.nodes y).tallies taken_all) b.nodes a v
          (ap (λ t. t taken_all) te) (λ y n. refl)

      ev : Growth P (world b) (world b')
      ev = same refl got (update_all (λ y u. (b.nodes y).busy ≡ false → u.busy ≡ false) b.nodes a v bu (λ y n d. d))

  pub messages_less : (b : PhaseBoard) (xs ys : List Parcel) (a c s : ℕ) (x : Entries)
      → b.items ≡ xs ++ record { from = a; to = c; load = report s x } ∷ ys → messages (xs ++ ys) ≡ messages b.items
  messages_less b xs ys a c s x e =
      rw e (omega (
        arith,
        messages_append xs (record { from = a; to = c; load = report s x } ∷ ys),
        messages_append xs ys,
      ))

  pub messages_on_less : (b : PhaseBoard) (xs ys : List Parcel) (a c s : ℕ) (x : Entries)
      → b.items ≡ xs ++ record { from = a; to = c; load = report s x } ∷ ys
      → (y z : ℕ) → messages_on y z (xs ++ ys) ≡ messages_on y z b.items
  messages_on_less b xs ys a c s x e y z =
      rw e (omega (
        arith,
        messages_on_append y z xs (record { from = a; to = c; load = report s x } ∷ ys),
        messages_on_append y z xs ys,
        report_on y z a c s x,
      ))

  pub less : (b : PhaseBoard) → PhaseInvariant tree limit b → (xs ys : List Parcel) (t : Parcel)
      → b.items ≡ xs ++ t ∷ ys → ParcelOk tree limit b t × All (ParcelOk tree limit b) (xs ++ ys)
  less b i xs ys t e =
      all_mid (ParcelOk tree limit b) xs ys t (subst (λ is. All (ParcelOk tree limit b) is) e i.items_ok)

  pub not_busy : (v : State) {A : Type 0} → v.busy ≡ false → v.busy ≡ true → A
  not_busy v e f = let z : ◌≡◌ {A = Bool} true false = sym f ∙ e in let y : ◌≡◌ {A = ℕ} 0 1 = cc in absurd (omega arith)

  pub rests_keep : (b : PhaseBoard) → PhaseInvariant tree limit b → (a : ℕ) → a < P
      → (b.lossy ≡ false → Latest tree (placed b a (with_tallies (b.nodes a) false (b.nodes a).tallies) b.items))
      → PhaseInvariant tree limit (placed b a (with_tallies (b.nodes a) false (b.nodes a).tallies) b.items)
  rests_keep b i a h la =
      local b i a v b.items h refl (λ q. refl)
      (record {
        stored_ok = ok.stored_ok;
        agreed_is = ok.agreed_is;
        agrees =
            λ s l. agree_same p limit (b.nodes a) v s (tree.awaited (dim_of p s) a) refl (λ i q. refl)
            (λ q. refl) (ok.agrees s l);
        taken_total_lem = ok.taken_total_lem;
        sent_total_lem = ok.sent_total_lem;
        count_is = ok.count_is;
        step_le = ok.step_le;
      })
      i.items_ok refl (λ y z. refl) (λ q. not_busy v refl q) (i.quiet a h) la
    where
      v : State
      v = with_tallies (b.nodes a) false (b.nodes a).tallies

      ok : NodeOk tree limit b a (b.nodes a)
      ok = i.nodes_ok a h

  -- a node elsewhere in its steps, with the same frames
  pub placed_ok : (b : PhaseBoard) (a : ℕ) (v : State) (s : ℕ) (f : Bool) (T : ℕ) → NodeOk tree limit b a v → s ≤ p + p
      → (p ≤ s → T ≡ own_sums v.tallies v.stored p taken_all)
      → ((i : ℕ) → i < s → Agrees p limit v i (tree.awaited (dim_of p i) a)) → ((i : ℕ) → i < s → p ≤ i → T ≡ v.agreed)
      → NodeOk tree limit b a (at_step v s f T)
  placed_ok b a v s f T ok l t ag tt' =
      record {
        stored_ok = ok.stored_ok;
        agreed_is = t;
        agrees =
            λ i k. agree_same p limit v (at_step v s f T) i (tree.awaited (dim_of p i) a) refl (λ j q. refl)
            (λ q. tt' i k q) (ag i k);
        taken_total_lem = ok.taken_total_lem;
        sent_total_lem = ok.sent_total_lem;
        count_is = ok.count_is;
        step_le = l;
      }

  pub waits_keep : (b : PhaseBoard) → PhaseInvariant tree limit b → (a : ℕ) → a < P → (b.nodes a).busy ≡ false
      → (is : List Parcel) → All (ParcelOk tree limit b) is → messages is ≡ messages b.items
      → ((y z : ℕ) → messages_on y z is ≡ messages_on y z b.items) → (b.lossy ≡ false → Latest tree
      (placed b a (at_step (b.nodes a) (b.nodes a).step false (b.nodes a).agreed) is))
      → PhaseInvariant tree limit (placed b a (at_step (b.nodes a) (b.nodes a).step false (b.nodes a).agreed) is)
  waits_keep b i a h bu is its j1 j2 la =
      local b i a (at_step v v.step false v.agreed) is h refl
      (λ q. q) (placed_ok b a v v.step false v.agreed ok ok.step_le ok.agreed_is ok.agrees
      (λ i k q. refl)) its j1 j2 (λ q. not_busy v bu q) (i.quiet a h) la
    where
      v : State
      v = b.nodes a

      ok : NodeOk tree limit b a v
      ok = i.nodes_ok a h

  pub all_posts : (b : PhaseBoard) (a : ℕ) (q : Content) (rs : List ℕ) → ContentOk tree limit b a q
      → All (ParcelOk tree limit b) (posts a q rs)
  all_posts b a q [] h = tt
  all_posts b a q (r ∷ rs) h = (h, all_posts b a q rs h)

  -- a frame is stored at s₀; what is before s₀ stays
  kept_fit : (b : PhaseBoard) (a c s₀ : ℕ) (x : Entries) (v : State) → NodeOk tree limit b c v → s₀ < p + p
      → tree.awaited (dim_of p s₀) c ≡ some a → FrameOk tree limit b s₀ a x
      → (s : ℕ) (f : Bool) (T : ℕ) → s ≤ s₀ → s ≤ v.step → (p ≤ s → T ≡ v.agreed)
      → NodeOk tree limit b c (at_step (with_stored v s₀ x) s f T)
  kept_fit b a c s₀ x v ok l aw fo s f T m n t =
      record {
        stored_ok =
            update_all (λ s o. s < p + p → StoredOk tree limit b s (tree.awaited (dim_of p s) c) o) v.stored s₀
            (some x) (λ q. rw aw fo) (λ j q k. ok.stored_ok j k);
        agreed_is =
            λ q. t q ∙ ok.agreed_is (omega arith)
            ∙ own_same v.tallies v.stored (update v.stored s₀ (some x)) p
            (λ i k. sym (update_other v.stored s₀ (some x) i (omega arith))) taken_all;
        agrees =
            λ i k. agree_same p limit v (at_step (with_stored v s₀ x) s f T) i (tree.awaited (dim_of p i) c) refl
            (λ j q. update_other v.stored s₀ (some x) j (omega arith))
            (λ q. t (omega arith)) (ok.agrees i (omega arith));
        taken_total_lem = ok.taken_total_lem;
        sent_total_lem = ok.sent_total_lem;
        count_is = ok.count_is;
        step_le = omega arith;
      }

  pub stores_keep : (b : PhaseBoard) → PhaseInvariant tree limit b
      → (xs ys : List Parcel) (a c s₀ : ℕ) (x : Entries) (s : ℕ) (f : Bool) (T : ℕ) → c < P → s₀ < p + p
      → b.items ≡ xs ++ record { from = a; to = c; load = report s₀ x } ∷ ys
      → (b.nodes c).step < p + p → tree.awaited (dim_of p s₀) c ≡ some a → s ≤ s₀ → s ≤ (b.nodes c).step
      → (p ≤ s → T ≡ (b.nodes c).agreed) → ((b.nodes c).busy ≡ true → (s ≡ 0) × (f ≡ true))
      → (b.lossy ≡ false → Latest tree (placed b c (at_step (with_stored (b.nodes c) s₀ x) s f T) (xs ++ ys)))
      → PhaseInvariant tree limit (placed b c (at_step (with_stored (b.nodes c) s₀ x) s f T) (xs ++ ys))
  stores_keep b i xs ys a c s₀ x s f T h sp e l aw m n t b0 la =
      local b i c (at_step (with_stored (b.nodes c) s₀ x) s f T) (xs ++ ys) h refl (λ q. q)
      (kept_fit b a c s₀ x (b.nodes c) (i.nodes_ok c h) sp aw
      (less b i xs ys (record { from = a; to = c; load = report s₀ x }) e).0 s f T m n t)
      (less b i xs ys (record { from = a; to = c; load = report s₀ x }) e).1 (messages_less b xs ys a c s₀ x e)
      (messages_on_less b xs ys a c s₀ x e) b0 (λ q. absurd (omega arith)) la
