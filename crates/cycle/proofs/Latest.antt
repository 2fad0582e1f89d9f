-- The invariant that no board sticks by: the latest frame of a step on a link, or the stored one if none is under way,
-- is what its sender would write now.
use mathlib.Core.Path.{◌≡◌, refl, sym, ap, ◌∙◌, fun_ext}
use mathlib.Core.Logic.{◌≢◌, ◌⊎◌, inl, inr}
use mathlib.Core.Bool.{Bool, true, false}
use mathlib.Core.Option.{Option, some}
use mathlib.Core.List.{List, [], ◌∷◌, ◌++◌}
use Prim.Native.Nat.{ℕ, zero, suc, ◌+◌, ◌-◌, ◌≤◌, ◌<◌}
use native.Mathlib.Decide.{dec_lt, ℕ_discrete}
use native.Mathlib.Omega.{arith}
use Rattle.cycle.proofs.Sums.{update, update_all, update_same, update_other, pick}
use Rattle.cycle.proofs.Tree.{Tree}
use Rattle.cycle.proofs.Exact.{Entry, sent_all, Entries, entry_of, own_sums}
use Rattle.cycle.proofs.OnePhase.{message, report, Parcel, State, PhaseBoard, confirming, frame_of}
use Rattle.cycle.proofs.OnePhase.{dim_of, posts, First, at_step, with_stored, with_tallies, placed, Unheard}
use Rattle.cycle.proofs.OnePhase.{Turn, bump_sent, bump_taken}
use Rattle.cycle.proofs.Newest.{latest, latest_append, newer_off, newer_on, newer_message, newer_else}
use Rattle.cycle.proofs.Newest.{latest_skip, latest_first, newest_same, latest_put, latest_posts_else}
use Rattle.cycle.proofs.Newest.{latest_posts_off}

-- ---- what a frame depends on

pub own_same : (tal : Entries) (g h : ℕ → Option Entries) (k : ℕ) → ((i : ℕ) → i < k → g i ≡ h i) → (f : Entry)
    → own_sums tal g k f ≡ own_sums tal h k f
own_same tal g h zero e f = refl
own_same tal g h (suc k) e f =
    let r = own_same tal g h k (λ i l. e i (omega arith)) f in
    let q : entry_of (g k) f ≡ entry_of (h k) f = rw (e k (omega arith)) refl in
    omega arith

frame_same : (p : ℕ) (v v' : State) (s : ℕ) → v'.tallies ≡ v.tallies → ((i : ℕ) → i < s → v'.stored i ≡ v.stored i)
    → (p ≤ s → v'.agreed ≡ v.agreed) → frame_of p v' s ≡ frame_of p v s
frame_same p v v' s t e o = go (dec_lt s p)
  where
    go : (d : Dec (s < p)) → pick d (own_sums v'.tallies v'.stored s)
        (confirming v'.agreed (own_sums v'.tallies (λ i. v'.stored (p + i)) (s - p) sent_all))
        ≡ pick d (own_sums v.tallies v.stored s)
        (confirming v.agreed (own_sums v.tallies (λ i. v.stored (p + i)) (s - p) sent_all))
    go (yes l) = rw t (fun_ext (own_same v.tallies v'.stored v.stored s e))
    go (no l) =
        rw (
          t,
          o (omega arith),
          own_same v.tallies (λ i. v'.stored (p + i)) (λ i. v.stored (p + i)) (s - p)
              (λ i q. e (p + i) (omega arith)) sent_all,
        ) refl

-- ---- the invariant

-- v has put its frame for step s, and has not changed what is in it
abbrev pub Stands : State → ℕ → Type 0
Stands v s = (s < v.step) ⊎ ((s ≡ v.step) × (v.flag ≡ false))

module _ {P p : ℕ} (tree : Tree P p) where
  abbrev pub Latest : PhaseBoard → Type 0
  Latest b =
      (w c s : ℕ) → c < P → s < p + p → tree.awaited (dim_of p s) c ≡ some w → Stands (b.nodes w) s
      → (b.nodes c).step < p + p → latest s w c b.items ((b.nodes c).stored s) ≡ some (frame_of p (b.nodes w) s)

  -- a busy node stands by nothing
  abbrev pub BusyAtStart : PhaseBoard → Type 0
  BusyAtStart b = (a : ℕ) → (b.nodes a).busy ≡ true → ((b.nodes a).step ≡ 0) × ((b.nodes a).flag ≡ true)

  none_stands : (v : State) (s : ℕ) → v.step ≡ 0 → v.flag ≡ true → Stands v s → ⊥
  none_stands v s e f (inl l) = omega arith
  none_stands v s e f (inr q) =
      let z : ◌≡◌ {A = Bool} true false = sym f ∙ q.1 in let y : ◌≡◌ {A = ℕ} 0 1 = cc in omega arith

  -- the receiver's side and the sender's side of an event at one node
  abbrev Receives : PhaseBoard → ℕ → ℕ → List Parcel → ℕ → State → Type 0
  Receives b s w is c u =
      u.step < p + p → ((b.nodes c).step < p + p)
      × (latest s w c is (u.stored s) ≡ latest s w c b.items ((b.nodes c).stored s))

  latest_keep : (b : PhaseBoard) → Latest b → (a : ℕ) (v : State) (is : List Parcel)
      → ((w c s : ℕ) → c < P → tree.awaited (dim_of p s) c ≡ some w → Receives b s w is c (update b.nodes a v c))
      → ((c s : ℕ) → c < P → tree.awaited (dim_of p s) c ≡ some a → Stands v s
      → Stands (b.nodes a) s × (frame_of p v s ≡ frame_of p (b.nodes a) s)) → Latest (placed b a v is)
  latest_keep b j a v is r t w c s h l e sd u =
      let q = r w c s h e u in
      let z = update_all (λ w n. tree.awaited (dim_of p s) c ≡ some w → Stands n s
      → Stands (b.nodes w) s × (frame_of p n s ≡ frame_of p (b.nodes w) s)) b.nodes a v (λ e' d. t c s h e' d)
      (λ y ny e' d. (d, refl)) w e sd in
      q.1 ∙ j w c s h l e z.0 q.0 ∙ ap some (sym z.1)

  -- the store is as it was, and the items tell the same
  receives_same : (b : PhaseBoard) (a : ℕ) (v : State) (is : List Parcel)
      → ((s : ℕ) → v.stored s ≡ (b.nodes a).stored s)
      → (v.step < p + p → (b.nodes a).step < p + p)
      → ((w c s : ℕ) (o : Option Entries) → latest s w c is o ≡ latest s w c b.items o) → (w c s : ℕ)
      → Receives b s w is c (update b.nodes a v c)
  receives_same b a v is e f g w c s =
      update_all (λ c u. Receives b s w is c u) b.nodes a v (λ l. (f l, rw (e s) (g w a s ((b.nodes a).stored s))))
      (λ y n l. (l, g w y s ((b.nodes y).stored s))) c

  -- ---- the events

  go_sends : (b : PhaseBoard) → Latest b → BusyAtStart b → (a c : ℕ) (t : Entries) → (b.nodes a).busy ≡ true
      → Latest (placed b a (with_tallies (b.nodes a) true t) (b.items ++ posts a message (c ∷ [])))
  go_sends b j z a c t bu = latest_keep b j a v is (λ w d s h e. receives_same b a v is (λ s. refl) (λ l. l) tell w d s)
      (λ d s h e sd. absurd (none_stands v s (z a bu).0 (z a bu).1 sd))
    where
      v : State
      v = with_tallies (b.nodes a) true t

      is : List Parcel
      is = b.items ++ posts a message (c ∷ [])

      tell : (w d s : ℕ) (o : Option Entries) → latest s w d is o ≡ latest s w d b.items o
      tell w d s o =
          latest_append s w d b.items (posts a message (c ∷ [])) o
          ∙ newer_message s w d a c (latest s w d b.items o)

  go_rests : (b : PhaseBoard) → Latest b → (a : ℕ)
      → Latest (placed b a (with_tallies (b.nodes a) false (b.nodes a).tallies) b.items)
  go_rests b j a =
      latest_keep b j a v b.items
      (λ w d s h e. receives_same b a v b.items (λ s. refl) (λ l. l) (λ w d s o. refl) w d s)
      (λ d s h e sd. (sd, refl))
    where
      v : State
      v = with_tallies (b.nodes a) false (b.nodes a).tallies

  go_takes : (b : PhaseBoard) → Latest b → (xs ys : List Parcel) (a c : ℕ) (busy : Bool) (t : Entries)
      → b.items ≡ xs ++ record { from = a; to = c; load = message } ∷ ys
      → (b.nodes c).step < p + p → Latest (placed b c (at_step (with_tallies (b.nodes c) busy t) 0 true 0) (xs ++ ys))
  go_takes b j xs ys a c busy t e l =
      latest_keep b j c v (xs ++ ys) (λ w d s h q. receives_same b c v (xs ++ ys) (λ s. refl) (λ u. l) tell w d s)
      (λ d s h q sd. absurd (none_stands v s refl refl sd))
    where
      v : State
      v = at_step (with_tallies (b.nodes c) busy t) 0 true 0

      tell : (w d s : ℕ) (o : Option Entries) → latest s w d (xs ++ ys) o ≡ latest s w d b.items o
      tell w d s o =
          rw e (sym (latest_skip s w d xs ys (record { from = a; to = c; load = message }) o
          (λ o. newer_message s w d a c o)))

  -- a frame goes from the link into the store of c
  receives_stores : (b : PhaseBoard) (xs ys : List Parcel) (a c s₀ : ℕ) (x : Entries) (v : State)
      → b.items ≡ xs ++ record { from = a; to = c; load = report s₀ x } ∷ ys → First xs a c
      → tree.awaited (dim_of p s₀) c ≡ some a → (b.nodes c).step < p + p
      → v.stored ≡ update (b.nodes c).stored s₀ (some x)
      → (w d s : ℕ) → tree.awaited (dim_of p s) d ≡ some w → Receives b s w (xs ++ ys) d (update b.nodes c v d)
  receives_stores b xs ys a c s₀ x v e fi aw l ev w d s q =
      update_all (λ d u. tree.awaited (dim_of p s) d ≡ some w → Receives b s w (xs ++ ys) d u) b.nodes c v
      (λ q u. (l, rw (ev, e) (here q (ℕ_discrete s s₀) (ℕ_discrete a w)))) (λ y n q u. (
        u,
        rw e (sym (latest_skip s w y xs ys i ((b.nodes y).stored s)
            (λ o. newer_off s w y i o (λ z. n (sym z.1))))),
      )) d q
    where
      i : Parcel
      i = record { from = a; to = c; load = report s₀ x }

      here : tree.awaited (dim_of p s) c ≡ some w → Dec (s ≡ s₀) → Dec (a ≡ w)
          → latest s w c (xs ++ ys) (update (b.nodes c).stored s₀ (some x) s) ≡ latest s w c (xs ++ i ∷ ys)
          ((b.nodes c).stored s)
      here q (yes f) (yes g) =
          rw (f, ← g) (
          ap (λ o. latest s₀ a c (xs ++ ys) o)
          (update_same (b.nodes c).stored s₀ (some x)
          ∙ sym (newer_on s₀ a c i ((b.nodes c).stored s₀) (refl, refl) ∙ newest_same s₀ x ((b.nodes c).stored s₀)))
          ∙ sym (latest_first s₀ a c xs ys i ((b.nodes c).stored s₀) fi))
      here q (yes f) (no g) = let q' : tree.awaited (dim_of p s₀) c ≡ some w = rw f at q in absurd (g (cc))
      here q (no f) g =
          rw (update_other (b.nodes c).stored s₀ (some x) s f)
          (sym (latest_skip s w c xs ys i ((b.nodes c).stored s) (λ o. newer_else s w c a c s₀ x o (λ z. f (sym z)))))

  update_before : (g : ℕ → Option Entries) (s₀ : ℕ) (x : Option Entries) (s i : ℕ) → i < s → s ≤ s₀
      → update g s₀ x i ≡ g i
  update_before g s₀ x s i l m = update_other g s₀ x i (omega arith)

  go_stores : (b : PhaseBoard) → Latest b → (xs ys : List Parcel) (a c s₀ : ℕ) (x : Entries)
      → b.items ≡ xs ++ record { from = a; to = c; load = report s₀ x } ∷ ys → First xs a c
      → (b.nodes c).step < p + p → tree.awaited (dim_of p s₀) c ≡ some a → (b.nodes c).step ≤ s₀
      → Latest (placed b c (with_stored (b.nodes c) s₀ x) (xs ++ ys))
  go_stores b j xs ys a c s₀ x e fi l aw m =
      latest_keep b j c v (xs ++ ys) (λ w d s h q. receives_stores b xs ys a c s₀ x v e fi aw l refl w d s q)
      (λ d s h q sd. (sd, same s sd))
    where
      v : State
      v = with_stored (b.nodes c) s₀ x

      early : (s : ℕ) → Stands v s → s ≤ s₀
      early s (inl k) = omega arith
      early s (inr k) = omega arith

      same : (s : ℕ) → Stands v s → frame_of p v s ≡ frame_of p (b.nodes c) s
      same s sd =
          frame_same p (b.nodes c) v s refl (λ i k. update_before (b.nodes c).stored s₀ (some x) s i k (early s sd))
          (λ k. refl)

  go_falls : (b : PhaseBoard) → Latest b → (xs ys : List Parcel) (a c s₀ : ℕ) (x : Entries) (T : ℕ)
      → b.items ≡ xs ++ record { from = a; to = c; load = report s₀ x } ∷ ys → First xs a c
      → (b.nodes c).step < p + p → tree.awaited (dim_of p s₀) c ≡ some a → s₀ < (b.nodes c).step
      → (p ≤ s₀ → T ≡ (b.nodes c).agreed)
      → Latest (placed b c (at_step (with_stored (b.nodes c) s₀ x) s₀ false T) (xs ++ ys))
  go_falls b j xs ys a c s₀ x T e fi l aw m t =
      latest_keep b j c v (xs ++ ys) (λ w d s h q. receives_stores b xs ys a c s₀ x v e fi aw l refl w d s q)
      (λ d s h q sd. (inl (omega (arith, early s sd)), same s sd))
    where
      v : State
      v = at_step (with_stored (b.nodes c) s₀ x) s₀ false T

      early : (s : ℕ) → Stands v s → s ≤ s₀
      early s (inl k) = omega arith
      early s (inr k) = omega arith

      same : (s : ℕ) → Stands v s → frame_of p v s ≡ frame_of p (b.nodes c) s
      same s sd =
          frame_same p (b.nodes c) v s refl (λ i k. update_before (b.nodes c).stored s₀ (some x) s i k (early s sd))
          (λ k. t (omega (arith, early s sd)))

  go_drops : (b : PhaseBoard) → Latest b → (xs ys : List Parcel) (a c s₀ : ℕ) (x : Entries)
      → b.items ≡ xs ++ record { from = a; to = c; load = report s₀ x } ∷ ys
      → p + p ≤ (b.nodes c).step → Latest (placed b c (b.nodes c) (xs ++ ys))
  go_drops b j xs ys a c s₀ x e l = latest_keep b j c (b.nodes c) (xs ++ ys)
      (λ w d s h q. update_all (λ d u. Receives b s w (xs ++ ys) d u) b.nodes c (b.nodes c)
      (λ u. absurd (omega arith))
      (λ y n u. (
        u,
        rw e (sym (latest_skip s w y xs ys i ((b.nodes y).stored s)
            (λ o. newer_off s w y i o (λ z. n (sym z.1))))),
      )) d) (λ d s h q sd. (sd, refl))
    where
      i : Parcel
      i = record { from = a; to = c; load = report s₀ x }

  -- who stands by a step, or has nobody to hear it
  stood : (v : State) (a d s : ℕ) → d < P → tree.awaited (dim_of p s) d ≡ some a
      → (v.flag ≡ false) ⊎ Unheard tree a v.step → (s < v.step) ⊎ (s ≡ v.step) → Stands v s
  stood v a d s h q f (inl l) = inl l
  stood v a d s h q (inl f) (inr e) = inr (e, f)
  stood v a d s h q (inr f) (inr e) = absurd (f d h (rw e at q))

  go_waits : (b : PhaseBoard) → Latest b → (a : ℕ) → ((b.nodes a).flag ≡ false) ⊎ Unheard tree a (b.nodes a).step
      → Latest (placed b a (at_step (b.nodes a) (b.nodes a).step false (b.nodes a).agreed) b.items)
  go_waits b j a f =
      latest_keep b j a v b.items
      (λ w d s h e. receives_same b a v b.items (λ s. refl) (λ l. l) (λ w d s o. refl) w d s)
      (λ d s h q sd. (stood (b.nodes a) a d s h q f (near s sd), refl))
    where
      v : State
      v = at_step (b.nodes a) (b.nodes a).step false (b.nodes a).agreed

      near : (s : ℕ) → Stands v s → (s < (b.nodes a).step) ⊎ (s ≡ (b.nodes a).step)
      near s (inl l) = inl l
      near s (inr l) = inr l.0

  go_moves : (b : PhaseBoard) → Latest b → (a T : ℕ) → (b.nodes a).step < p + p
      → ((b.nodes a).flag ≡ false) ⊎ Unheard tree a (b.nodes a).step → (p ≤ (b.nodes a).step → T ≡ (b.nodes a).agreed)
      → Latest (placed b a (at_step (b.nodes a) (suc (b.nodes a).step) true T) b.items)
  go_moves b j a T l f t =
      latest_keep b j a v b.items
      (λ w d s h e. receives_same b a v b.items (λ s. refl) (λ u. l) (λ w d s o. refl) w d s) (λ d s h q sd. (
        stood (b.nodes a) a d s h q f (near s sd (ℕ_discrete s (b.nodes a).step)),
        frame_same p (b.nodes a) v s refl (λ i k. refl) (λ k. t (omega (arith, upto s sd))),
      ))
    where
      v : State
      v = at_step (b.nodes a) (suc (b.nodes a).step) true T

      upto : (s : ℕ) → Stands v s → s ≤ (b.nodes a).step
      upto s (inl k) = omega arith
      upto s (inr k) = let y : ◌≡◌ {A = ℕ} 0 1 = cc in absurd (omega arith)

      near : (s : ℕ) → Stands v s → Dec (s ≡ (b.nodes a).step) → (s < (b.nodes a).step) ⊎ (s ≡ (b.nodes a).step)
      near s sd (yes e) = inr e
      near s sd (no e) = inl (omega (arith, upto s sd))

  go_puts : (b : PhaseBoard) → Latest b → (a : ℕ) (rs : List ℕ)
      → ((c : ℕ) → c < P → tree.awaited (dim_of p (b.nodes a).step) c ≡ some a
      → (xs : List ℕ) × ((ys : List ℕ) × (rs ≡ xs ++ c ∷ ys)))
      → Latest (placed b a (at_step (b.nodes a) (b.nodes a).step false (b.nodes a).agreed)
      (b.items ++ posts a (report (b.nodes a).step (frame_of p (b.nodes a) (b.nodes a).step)) rs))
  go_puts b j a rs rc w c s h l e sd u =
      ap (λ o. latest s w c is o) (st_same c) ∙ latest_append s w c b.items ps ((b.nodes c).stored s)
      ∙ now (ℕ_discrete w a) (ℕ_discrete s s₀) ∙ ap some (sym (own_same w))
    where
      s₀ : ℕ
      s₀ = (b.nodes a).step

      fr : Entries
      fr = frame_of p (b.nodes a) s₀

      v : State
      v = at_step (b.nodes a) s₀ false (b.nodes a).agreed

      ps : List Parcel
      ps = posts a (report s₀ fr) rs

      is : List Parcel
      is = b.items ++ ps

      st_same : (c : ℕ) → (update b.nodes a v c).stored s ≡ (b.nodes c).stored s
      st_same = update_all (λ c n. n.stored s ≡ (b.nodes c).stored s) b.nodes a v refl (λ y n. refl)

      own_same : (w : ℕ) → frame_of p (update b.nodes a v w) s ≡ frame_of p (b.nodes w) s
      own_same = update_all (λ w n. frame_of p n s ≡ frame_of p (b.nodes w) s) b.nodes a v refl (λ y n. refl)

      at_same : (c : ℕ) → (update b.nodes a v c).step ≡ (b.nodes c).step
      at_same = update_all (λ c n. n.step ≡ (b.nodes c).step) b.nodes a v refl (λ y n. refl)

      was : (w ≢ a) ⊎ (s ≢ s₀) → Stands (b.nodes w) s
      was q =
          update_all (λ w n. (w ≢ a) ⊎ (s ≢ s₀) → Stands n s → Stands (b.nodes w) s) b.nodes a v still
          (λ y n q d. d) w q sd
        where
          still : (a ≢ a) ⊎ (s ≢ s₀) → Stands v s → Stands (b.nodes a) s
          still (inl n) d = absurd (n refl)
          still (inr n) (inl d) = inl d
          still (inr n) (inr d) = absurd (n d.0)

      old : (w ≢ a) ⊎ (s ≢ s₀) → latest s w c b.items ((b.nodes c).stored s) ≡ some (frame_of p (b.nodes w) s)
      old q = j w c s h l e (was q) (omega (arith, at_same c))

      put_now : (xs : List ℕ) × ((ys : List ℕ) × (rs ≡ xs ++ c ∷ ys)) → (o : Option Entries)
          → latest s₀ a c ps o ≡ some fr
      put_now r o = rw r.1.1 (latest_put s₀ a c fr r.0 r.1.0 o)

      now : Dec (w ≡ a) → Dec (s ≡ s₀)
          → latest s w c ps (latest s w c b.items ((b.nodes c).stored s)) ≡ some (frame_of p (b.nodes w) s)
      now (no n) d =
          latest_posts_off s w c a s₀ fr rs (latest s w c b.items ((b.nodes c).stored s)) (λ q. n (sym q))
          ∙ old (inl n)
      now (yes f) (no n) =
          latest_posts_else s w c a s₀ fr rs (latest s w c b.items ((b.nodes c).stored s)) (λ q. n (sym q))
          ∙ old (inr n)
      now (yes f) (yes g) =
          let e' : tree.awaited (dim_of p s₀) c ≡ some a = rw (f, g) at e in
          rw (f, g) (put_now (rc c h e') (latest s₀ a c b.items ((b.nodes c).stored s₀)))

  pub latest_keeps : (limit : ℕ) (b b' : PhaseBoard) → Turn tree limit b b' → BusyAtStart b
      → (b.lossy ≡ false → Latest b) → b'.lossy ≡ false → Latest b'
  latest_keeps limit b b' (Turn.sends a c j h hc l sl bu lm) z i q =
      go_sends b (i q) z a c (bump_sent (b.nodes a).tallies j) bu
  latest_keeps limit b b' (Turn.rests a h) z i q = go_rests b (i q) a
  latest_keeps limit b b' (Turn.takes xs ys a c j busy ha h l sl e u) z i q =
      go_takes b (i q) xs ys a c busy (bump_taken (b.nodes c).tallies j) e u
  latest_keeps limit b b' (Turn.stores xs ys a c s x h sp e f l aw m) z i q = go_stores b (i q) xs ys a c s x e f l aw m
  latest_keeps limit b b' (Turn.falls xs ys a c s x T h sp e f l aw m t) z i q =
      go_falls b (i q) xs ys a c s x T e f l aw m t
  latest_keeps limit b b' (Turn.drops xs ys a c s x h e l) z i q = go_drops b (i q) xs ys a c s x e l
  latest_keeps limit b b' (Turn.puts a rs h bu l rc) z i q = go_puts b (i q) a rs rc
  latest_keeps limit b b' (Turn.waits a h bu f) z i q = go_waits b (i q) a f
  latest_keeps limit b b' (Turn.moves a T h bu l f ag t t1) z i q = go_moves b (i q) a T l f t
  latest_keeps limit b b' (Turn.loses xs ys t e) z i q = let y : ◌≡◌ {A = ℕ} 0 1 = cc in absurd (omega arith)
